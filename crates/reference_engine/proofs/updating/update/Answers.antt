use Rattle.std.proofs.Common.{◌≡◌, ◌++◌, ◌∙◌, [], sym, ap, subst}
use Rattle.std.specs.Prelude.{Some, flat_map, option_map}
use Rattle.mdc_ast.specs.Database.{PlainTable}
use Rattle.row_groups.specs.Numbers.{values_of}
use Rattle.statement_meaning.specs.Cause.{DuplicateKey}
use Rattle.statement_meaning.specs.Doing.{changed_causes, twin_causes}
use Rattle.statement_meaning.proofs.BuiltLemmas.{values_fit}
use Rattle.statement_meaning.proofs.DatabaseLemmas.{is_valid_at}
use Rattle.row_checks.specs.Executing.{IsThere, MayUpdate}
use Rattle.binder.specs.Saying.{first_of}
use Rattle.row_checks.proofs.Changeable.{rows_are_wide, rows_are_changeable}
use Rattle.binder.proofs.FirstLemmas.{first_of-nothing}
use Rattle.reference_engine.proofs.Effects.{update_clashes, update_is}
use Rattle.reference_engine.proofs.updating.update.Goals as goal

pub first_misfit_among-requires-clause-wide : goal.first_misfit_among-requires-clause-wide
first_misfit_among-requires-clause-wide c =
    let table : PlainTable = record { def = c.table-lent.result.def.now; rows = c.table-lent.result.rows.now } in
    let wide = rows_are_wide table.def.columns table.rows (values_fit table.def table.rows (is_valid_at c.args.tables.now c.args.table table c.requires.valid c.table-lent.ensures).rows.fitting) in
    rw (c.as_slice-columns.ensures) wide

pub changed_rows-requires-clause-changeable : goal.changed_rows-requires-clause-changeable
changed_rows-requires-clause-changeable c =
    let table : PlainTable = record { def = c.table-lent.result.def.now; rows = c.table-lent.result.rows.now } in
    let none : flat_map (changed_causes table.def.columns c.args.sets.now c.args.pred.now) table.rows ≡ [] =
    first_of-nothing _ (ap (λ columns. first_of (flat_map (changed_causes columns c.args.sets.now c.args.pred.now) table.rows)) (sym c.as_slice-columns.ensures) ∙ c.in_default.ensures) in
    let wide = rows_are_wide table.def.columns table.rows (values_fit table.def table.rows (is_valid_at c.args.tables.now c.args.table table c.requires.valid c.table-lent.ensures).rows.fitting) in
    let ready : MayUpdate c.args.sets.now c.args.pred.now table = subst (λ found. IsThere found (MayUpdate c.args.sets.now c.args.pred.now)) c.table-lent.ensures c.requires.ready in
    rows_are_changeable table.def.columns c.args.sets.now c.args.pred.now table.rows ready.within wide none

pub returns-in-Some-2-clause-done : goal.returns-in-Some-2-clause-done
returns-in-Some-2-clause-done c =
    let table : PlainTable = record { def = c.table-lent.result.def.now; rows = c.table-lent.result.rows.now } in
    let none : flat_map (changed_causes table.def.columns c.args.sets.now c.args.pred.now) table.rows ≡ [] =
    first_of-nothing _ (ap (λ columns. first_of (flat_map (changed_causes columns c.args.sets.now c.args.pred.now) table.rows)) (sym c.as_slice-columns.ensures) ∙ c.in_default.ensures) in
    let clash : first_of (flat_map (twin_causes (values_of c.in_ok-rows.rows.items ++ [])) table.def.indexes) ≡ Some (DuplicateKey c.in-Some-2.index.now) =
    ap (λ indexes. first_of (flat_map (twin_causes (values_of c.in_ok-rows.rows.items ++ [])) indexes)) (sym c.as_slice.ensures)
    ∙ ap (λ rows. first_of (flat_map (twin_causes (values_of rows ++ [])) c.as_slice.result.now)) (sym c.as_slice-2.ensures.value) ∙ c.in_ok-index.ensures
    ∙ ap (option_map (λ name. DuplicateKey name.now)) c.in-Some-2.is in
    update_clashes c.args.tables.now c.args.table c.args.sets.now c.args.pred.now table c.in_ok-rows.rows.items (DuplicateKey c.in-Some-2.index.now) c.in_ok-duplicate_key.field-0 c.table-lent.ensures none clash c.in_ok-rows.ensures c.in_ok-duplicate_key.ensures

pub returns-clause-done : goal.returns-clause-done
returns-clause-done c =
    let table : PlainTable = record { def = c.table-lent.result.def.now; rows = c.table-lent.result.rows.now } in
    let none : flat_map (changed_causes table.def.columns c.args.sets.now c.args.pred.now) table.rows ≡ [] =
    first_of-nothing _ (ap (λ columns. first_of (flat_map (changed_causes columns c.args.sets.now c.args.pred.now) table.rows)) (sym c.as_slice-columns.ensures) ∙ c.in_default.ensures) in
    let keys : flat_map (twin_causes (values_of c.in_ok-rows.rows.items ++ [])) table.def.indexes ≡ [] =
    first_of-nothing _ (ap (λ indexes. first_of (flat_map (twin_causes (values_of c.in_ok-rows.rows.items ++ [])) indexes)) (sym c.as_slice.ensures)
    ∙ ap (λ rows. first_of (flat_map (twin_causes (values_of rows ++ [])) c.as_slice.result.now)) (sym c.as_slice-2.ensures.value) ∙ c.in_ok-index.ensures
    ∙ ap (option_map (λ name. DuplicateKey name.now)) c.in_default-2.is) in
    update_is c.args.tables.now c.put_rows.new.self c.args.table c.args.sets.now c.args.pred.now table c.in_ok-rows.rows.items c.hits-count.result c.table-lent.ensures none keys c.put_rows.ensures c.in_ok-rows.ensures c.hits-count.ensures
