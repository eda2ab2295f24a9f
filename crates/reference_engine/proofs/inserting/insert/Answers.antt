use Rattle.std.proofs.Common.{◌≡◌, ◌≤◌, ◌∙◌, ◌+◌, ◌++◌, [], refl, sym, ap, length, arith}
use Rattle.std.specs.Prelude.{Some, flat_map, option_map}
use Rattle.mdc_ast.specs.Database.{PlainTable}
use Rattle.statement_meaning.specs.Cause.{DuplicateKey}
use Rattle.statement_meaning.specs.Doing.{null_causes, twin_causes}
use Rattle.row_groups.specs.Numbers.{values_of}
use Rattle.binder.specs.Saying.{first_of}
use Rattle.binder.proofs.FirstLemmas.{first_of-nothing}
use Rattle.reference_engine.proofs.ChangedTables.{is_there-some, on_err, put_back_same, still_numbered, still_there, valid_number}
use Rattle.reference_engine.proofs.Effects.{insert_clashes, insert_is, insert_used_up, not_used_up}
use Rattle.reference_engine.proofs.inserting.insert.Goals as goal

pub returns-in_err-appended-clause-memory : goal.returns-in_err-appended-clause-memory
returns-in_err-appended-clause-memory c =
    on_err _ _ (put_back_same c.args.tables.now c.take_rows-rows.new.self c.put_rows.new.self c.args.table c.take_rows-rows.result.items c.append-appended.new.self.items c.take_rows-rows.ensures.taken c.take_rows-rows.ensures.left c.put_rows.ensures
    c.in_err-appended.ensures.items)

pub put_rows-requires : goal.put_rows-requires
put_rows-requires c = still_there c.args.tables.now c.take_rows-rows.new.self c.args.table _ c.take_rows-rows.ensures.left (is_there-some _ _ c.requires.ready)

pub number_from-requires-clause-there : goal.number_from-requires-clause-there
number_from-requires-clause-there c =
    still_there c.take_rows-rows.new.self c.put_rows.new.self c.args.table _ c.put_rows.ensures
    (still_there c.args.tables.now c.take_rows-rows.new.self c.args.table _ c.take_rows-rows.ensures.left (is_there-some _ _ c.requires.ready))

pub number_from-requires-clause-numbered : goal.number_from-requires-clause-numbered
number_from-requires-clause-numbered c =
    still_numbered c.take_rows-rows.new.self c.put_rows.new.self c.args.table _ c.put_rows.ensures (λ table. refl)
    (still_numbered c.args.tables.now c.take_rows-rows.new.self c.args.table _ c.take_rows-rows.ensures.left (λ table. refl) (valid_number c.args.tables.now c.args.table c.requires.valid))

pub returns-in-Some-2-clause-done : goal.returns-in-Some-2-clause-done
returns-in-Some-2-clause-done c =
    let table : PlainTable = record { def = c.table-lent.result.def.now; rows = c.table-lent.result.rows.now } in
    let nulls : flat_map (null_causes table.def.columns) c.args.tuples ≡ [] =
    first_of-nothing _ (ap (λ columns. first_of (flat_map (null_causes columns) c.args.tuples)) (sym c.as_slice.ensures) ∙ ap (λ tuples. first_of (flat_map (null_causes c.as_slice.result.now) tuples)) (sym c.as_slice-2.ensures) ∙ c.in_default.ensures) in
    let clash : first_of (flat_map (twin_causes (values_of table.rows ++ c.args.tuples)) table.def.indexes) ≡ Some (DuplicateKey c.in-Some-2.index.now) =
    ap (λ indexes. first_of (flat_map (twin_causes (values_of table.rows ++ c.args.tuples)) indexes)) (sym c.as_slice-3.ensures)
    ∙ ap (λ tuples. first_of (flat_map (twin_causes (values_of table.rows ++ tuples)) c.as_slice-3.result.now)) (sym c.as_slice-4.ensures) ∙ c.in_ok-index.ensures
    ∙ ap (option_map (λ name. DuplicateKey name.now)) c.in-Some-2.is in
    insert_clashes c.args.tables.now c.args.table table c.args.tuples (DuplicateKey c.in-Some-2.index.now) c.in_ok-duplicate_key.field-0 c.table-lent.ensures nulls clash c.in_ok-duplicate_key.ensures

pub returns-in_default-checked_add-clause-done : goal.returns-in_default-checked_add-clause-done
returns-in_default-checked_add-clause-done c =
    let table : PlainTable = record { def = c.table-lent.result.def.now; rows = c.table-lent.result.rows.now } in
    let nulls : flat_map (null_causes table.def.columns) c.args.tuples ≡ [] =
    first_of-nothing _ (ap (λ columns. first_of (flat_map (null_causes columns) c.args.tuples)) (sym c.as_slice.ensures) ∙ ap (λ tuples. first_of (flat_map (null_causes c.as_slice.result.now) tuples)) (sym c.as_slice-2.ensures) ∙ c.in_default.ensures) in
    let keys : flat_map (twin_causes (values_of table.rows ++ c.args.tuples)) table.def.indexes ≡ [] =
    first_of-nothing _ (ap (λ indexes. first_of (flat_map (twin_causes (values_of table.rows ++ c.args.tuples)) indexes)) (sym c.as_slice-3.ensures)
    ∙ ap (λ tuples. first_of (flat_map (twin_causes (values_of table.rows ++ tuples)) c.as_slice-3.result.now)) (sym c.as_slice-4.ensures) ∙ c.in_ok-index.ensures
    ∙ ap (option_map (λ name. DuplicateKey name.now)) c.in_default-2.is) in
    let count : c.len-count.result ≡ length c.args.tuples = c.len-count.ensures in
    let over : 18446744073709551616 ≤ table.def.next + length c.args.tuples = omega (arith, c.in_default-checked_add.ensures, count) in
    insert_used_up c.args.tables.now c.args.table table c.args.tuples c.numbers_used_up.result c.table-lent.ensures nulls keys over c.numbers_used_up.ensures

pub returns-clause-done : goal.returns-clause-done
returns-clause-done c =
    let table : PlainTable = record { def = c.table-lent.result.def.now; rows = c.table-lent.result.rows.now } in
    let nulls : flat_map (null_causes table.def.columns) c.args.tuples ≡ [] =
    first_of-nothing _ (ap (λ columns. first_of (flat_map (null_causes columns) c.args.tuples)) (sym c.as_slice.ensures) ∙ ap (λ tuples. first_of (flat_map (null_causes c.as_slice.result.now) tuples)) (sym c.as_slice-2.ensures) ∙ c.in_default.ensures) in
    let keys : flat_map (twin_causes (values_of table.rows ++ c.args.tuples)) table.def.indexes ≡ [] =
    first_of-nothing _ (ap (λ indexes. first_of (flat_map (twin_causes (values_of table.rows ++ c.args.tuples)) indexes)) (sym c.as_slice-3.ensures)
    ∙ ap (λ tuples. first_of (flat_map (twin_causes (values_of table.rows ++ tuples)) c.as_slice-3.result.now)) (sym c.as_slice-4.ensures) ∙ c.in_ok-index.ensures
    ∙ ap (option_map (λ name. DuplicateKey name.now)) c.in_default-2.is) in
    let count : c.len-count.result ≡ length c.args.tuples = c.len-count.ensures in
    let sum = c.in-Some-checked_add.ensures in
    let after : c.in-Some-checked_add.after ≡ table.def.next + length c.args.tuples = omega (arith, sum.1) in
    insert_is c.args.tables.now c.take_rows-rows.new.self c.put_rows.new.self c.number_from.new.self c.args.table c.args.tuples table c.take_rows-rows.result.items c.append-appended.new.self.items c.in-Some-checked_add.after c.len-count.result
    c.table-lent.ensures nulls keys (not_used_up table.def.next (length c.args.tuples) (omega (arith, sum.0))) c.take_rows-rows.ensures.taken c.take_rows-rows.ensures.left c.put_rows.ensures c.number_from.ensures
    (c.in_ok-appended.ensures.items ∙ ap (λ added. c.take_rows-rows.result.items ++ added) c.in_ok-added.ensures) after count
