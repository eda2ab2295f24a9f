use Rattle.std.proofs.Common.{◌≡◌, ◌∙◌, ap, false, refl, subst, sym, true}
use Rattle.std.specs.Prelude.{IfSome}
use Rattle.store_api.proofs.RunsOverPagesLemmas.{runs_exit_as, runs_memory, runs_wider}
use Rattle.mdc_ast.specs.declared.bound.Bound.TheVariants as bound
use Rattle.mdc_ast.specs.declared.definition.TableDef.{TableDef}
use Rattle.mdc_ast.specs.declared.reply.Outcome.TheVariants as said
use Rattle.extent_map.specs.Damages.{store_part_of}
use Rattle.block_rows.specs.HeldRows.{HaveReadValues}
use Rattle.entry_tree.proofs.ClaimsLemmas.{if_err_by}
use Rattle.script_engine.proofs.IndexedRowsLemmas.{doubled_as, finds_as, is_unique}
use Rattle.script_engine.proofs.IndexedTablesLemmas.{does_since, finds_still, full_index, indexed, may_gain, refuses_index, runs_index}
use Rattle.script_engine.proofs.ReadyTablesLemmas.{served_def}
use Rattle.script_engine.proofs.ScannedTablesLemmas.{ready_still, runs_scan}
use Rattle.script_engine.proofs.ServedDefsLemmas.{served_gained}
use Rattle.script_engine.proofs.TouchesForStatementLemmas.{touches_index, touches_still}
use Rattle.script_engine.proofs.indexing.create_index.Goals as goal

pub find_rows-requires-clause-defined : goal.find_rows-requires-clause-defined
find_rows-requires-clause-defined g c = (served_def c.args.tables.now.catalog c.args.table c.in-Some.def.now c.requires.served c.in-Some.ensures).limits

pub returns-in_err-hits-clause-runs : goal.returns-in_err-hits-clause-runs
returns-in_err-hits-clause-runs g c =
    runs_exit_as store_part_of c.from_residual.result c.from_residual.ensures.1
    (runs_wider (runs_scan g.P.Pages c.args.pages.now c.find_rows.new.pages c.args.tables.now c.args.table c.in-Some.def.now c.requires.served c.in-Some.ensures c.in_err-hits.ensures.runs)
    (λ p there none. absurd none) (λ p any. any) (λ damage breaks. breaks))

pub returns-in_err-is_doubled-clause-runs : goal.returns-in_err-is_doubled-clause-runs
returns-in_err-is_doubled-clause-runs g c =
    runs_exit_as store_part_of c.from_residual-in_err-is_doubled.result c.from_residual-in_err-is_doubled.ensures.1
    (runs_memory (runs_wider (runs_scan g.P.Pages c.args.pages.now c.find_rows.new.pages c.args.tables.now c.args.table c.in-Some.def.now c.requires.served c.in-Some.ensures c.in_ok-hits.ensures.runs)
    (λ p there none. absurd none) (λ p any. any) (λ damage breaks. breaks)))

pub returns-in_err-duplicate_key-clause-runs : goal.returns-in_err-duplicate_key-clause-runs
returns-in_err-duplicate_key-clause-runs g c =
    runs_exit_as store_part_of c.from_residual-in_err-duplicate_key.result c.from_residual-in_err-duplicate_key.ensures.1
    (runs_memory (runs_wider (runs_scan g.P.Pages c.args.pages.now c.find_rows.new.pages c.args.tables.now c.args.table c.in-Some.def.now c.requires.served c.in-Some.ensures c.in_ok-hits.ensures.runs)
    (λ p there none. absurd none) (λ p any. any) (λ damage breaks. breaks)))

pub returns-then-branch-clause-does : goal.returns-then-branch-clause-does
returns-then-branch-clause-does g c ready =
    let finds = finds_as g.P.Pages c.args.tables.now.shape c.args.pages.now c.in-Some.def.now c.in_ok-hits.hits.items c.as_slice.result.now c.as_slice.ensures.value c.in_ok-hits.ensures.finds in
    let told = c.in_ok-hits.ensures.runs.works.steady.is_told in
    does_since g.P.Pages c.args.pages.now c.find_rows.new.pages c.find_rows.new.pages c.args.tables.now c.args.tables.now (bound.CreateIndex c.args.table c.args.index) _ c.find_rows.ensures.same
    (refuses_index g.P.Pages c.find_rows.new.pages c.args.tables.now c.args.table c.in-Some.def.now c.args.index c.as_slice.result.now c.requires.served c.in-Some.ensures
    (finds_still g.P.Pages c.args.pages.now c.find_rows.new.pages c.args.tables.now c.args.table c.in-Some.def.now c.args.index c.as_slice.result.now c.requires.served c.in-Some.ensures told c.find_rows.ensures.same finds)
    (ready_still g.P.Pages c.args.pages.now c.find_rows.new.pages told c.find_rows.ensures.same c.args.tables.now ready) _
    (doubled_as c.args.index c.as_slice.result.now c.as_slice.result.now c.in_ok-is_doubled.field-0 true refl c.in_ok-is_doubled.ensures c.if-branch.true)
    (ap said.Refused c.in_ok-duplicate_key.ensures))

pub returns-then-branch-clause-named : goal.returns-then-branch-clause-named
returns-then-branch-clause-named g c refusal is =
    let same : c.in_ok-duplicate_key.field-0 ≡ refusal = cc in
    (is_unique c.args.index _ c.in_ok-is_doubled.field-0 c.in_ok-is_doubled.ensures c.if-branch.true, sym same ∙ c.in_ok-duplicate_key.ensures)

pub returns-then-branch-clause-runs : goal.returns-then-branch-clause-runs
returns-then-branch-clause-runs g c =
    runs_wider (runs_scan g.P.Pages c.args.pages.now c.find_rows.new.pages c.args.tables.now c.args.table c.in-Some.def.now c.requires.served c.in-Some.ensures c.in_ok-hits.ensures.runs)
    (λ p there none. absurd none) (λ p any. any) (λ damage breaks. breaks)

pub add_index-requires-clause-place : goal.add_index-requires-clause-place
add_index-requires-clause-place g c = (may_gain c.args.tables.now.catalog c.args.table c.args.index c.requires.served c.requires.there c.requires.new).below

pub add_index-requires-clause-takes : goal.add_index-requires-clause-takes
add_index-requires-clause-takes g c = (may_gain c.args.tables.now.catalog c.args.table c.args.index c.requires.served c.requires.there c.requires.new).takes_some

pub add_index-requires-clause-read : goal.add_index-requires-clause-read
add_index-requires-clause-read g c =
    subst (λ found. IfSome found (λ (def : TableDef). HaveReadValues def.columns c.as_slice-2.result.now)) (sym c.in-Some.ensures)
    (subst (HaveReadValues c.in-Some.def.now.columns) (sym c.as_slice-2.ensures.value) c.in_ok-hits.ensures.keyed)

pub returns-in_err-add_index-clause-full : goal.returns-in_err-add_index-clause-full
returns-in_err-add_index-clause-full g c =
    let finds = finds_as g.P.Pages c.args.tables.now.shape c.args.pages.now c.in-Some.def.now c.in_ok-hits.hits.items c.as_slice-2.result.now c.as_slice-2.ensures.value c.in_ok-hits.ensures.finds in
    let same_rows = c.as_slice-2.ensures.value ∙ sym c.as_slice.ensures.value in
    if_err_by c.from_residual-in_err-add_index.result _ _ c.from_residual-in_err-add_index.ensures.1
    (full_index g.P.Pages c.args.pages.now c.find_rows.new.pages c.args.tables.now c.args.table c.in-Some.def.now c.args.index c.as_slice-2.result.now c.requires.served c.in-Some.ensures
    c.in_ok-hits.ensures.runs.works.steady.is_told c.find_rows.ensures.same finds
    (doubled_as c.args.index c.as_slice.result.now c.as_slice-2.result.now c.in_ok-is_doubled.field-0 false same_rows c.in_ok-is_doubled.ensures c.if-branch.false) _ c.in_err-add_index.ensures.full)

pub returns-in_err-add_index-clause-runs : goal.returns-in_err-add_index-clause-runs
returns-in_err-add_index-clause-runs g c =
    let finds = finds_as g.P.Pages c.args.tables.now.shape c.args.pages.now c.in-Some.def.now c.in_ok-hits.hits.items c.as_slice-2.result.now c.as_slice-2.ensures.value c.in_ok-hits.ensures.finds in
    runs_exit_as store_part_of c.from_residual-in_err-add_index.result c.from_residual-in_err-add_index.ensures.1
    (runs_index g.P.Pages c.args.pages.now c.find_rows.new.pages c.args.tables.now c.args.table c.in-Some.def.now c.args.index c.as_slice-2.result.now c.requires.served c.in-Some.ensures
    c.in_ok-hits.ensures.runs.works.steady.is_told c.find_rows.ensures.same finds c.in_ok-hits.ensures.runs c.in_err-add_index.ensures.runs)

pub forget_table-requires : goal.forget_table-requires
forget_table-requires g c = (may_gain c.args.tables.now.catalog c.args.table c.args.index c.requires.served c.requires.there c.requires.new).below

pub returns-clause-does : goal.returns-clause-does
returns-clause-does g c ready =
    let finds = finds_as g.P.Pages c.args.tables.now.shape c.args.pages.now c.in-Some.def.now c.in_ok-hits.hits.items c.as_slice-2.result.now c.as_slice-2.ensures.value c.in_ok-hits.ensures.finds in
    let told = c.in_ok-hits.ensures.runs.works.steady.is_told in
    let same_rows = c.as_slice-2.ensures.value ∙ sym c.as_slice.ensures.value in
    does_since g.P.Pages c.args.pages.now c.find_rows.new.pages c.add_index.new.pages c.args.tables.now _ (bound.CreateIndex c.args.table c.args.index) _ c.find_rows.ensures.same
    (indexed g.P.Pages c.find_rows.new.pages c.add_index.new.pages c.args.tables.now _ c.args.table c.in-Some.def.now c.args.index c.as_slice-2.result.now (record {
      rootless = c.requires.new.rootless;
      stored = c.in_ok-add_index.ensures.stored;
      adds = c.in_ok-add_index.ensures.adds;
      stands_for = c.in_ok-add_index.ensures.stands_for;
      told = c.in_ok-add_index.ensures.runs.works.steady.is_told;
      shape = refl;
      touches = c.in_ok-add_index.ensures.runs.touches;
      rooms = c.forget_table.ensures.forgotten;
      other_rooms = c.forget_table.ensures.others;
    }) c.requires.served c.in-Some.ensures
    (finds_still g.P.Pages c.args.pages.now c.find_rows.new.pages c.args.tables.now c.args.table c.in-Some.def.now c.args.index c.as_slice-2.result.now c.requires.served c.in-Some.ensures told c.find_rows.ensures.same finds)
    (doubled_as c.args.index c.as_slice.result.now c.as_slice-2.result.now c.in_ok-is_doubled.field-0 false same_rows c.in_ok-is_doubled.ensures c.if-branch.false)
    (ready_still g.P.Pages c.args.pages.now c.find_rows.new.pages told c.find_rows.ensures.same c.args.tables.now ready))

pub returns-clause-keeps : goal.returns-clause-keeps
returns-clause-keeps g c = record {
  shape = refl;
  settings = refl;
  served = served_gained c.args.tables.now.catalog c.add_index.new.catalog c.args.table c.args.index c.requires.served c.requires.there c.requires.free c.in_ok-add_index.ensures.entered c.in_ok-add_index.ensures.limits;
  kept = tt;
}

pub returns-clause-runs : goal.returns-clause-runs
returns-clause-runs g c =
    let finds = finds_as g.P.Pages c.args.tables.now.shape c.args.pages.now c.in-Some.def.now c.in_ok-hits.hits.items c.as_slice-2.result.now c.as_slice-2.ensures.value c.in_ok-hits.ensures.finds in
    runs_index g.P.Pages c.args.pages.now c.find_rows.new.pages c.args.tables.now c.args.table c.in-Some.def.now c.args.index c.as_slice-2.result.now c.requires.served c.in-Some.ensures
    c.in_ok-hits.ensures.runs.works.steady.is_told c.find_rows.ensures.same finds c.in_ok-hits.ensures.runs c.in_ok-add_index.ensures.runs

pub returns-in_err-hits-clause-touches : goal.returns-in_err-hits-clause-touches
returns-in_err-hits-clause-touches g c =
    touches_still g.P.Pages c.args.tables.now.shape c.args.tables.now.catalog c.args.tables.now.settings c.args.pages.now c.find_rows.new.pages c.in_err-hits.ensures.runs.works.steady.is_told c.find_rows.ensures.same
    (bound.CreateIndex c.args.table c.args.index)

pub returns-in_err-is_doubled-clause-touches : goal.returns-in_err-is_doubled-clause-touches
returns-in_err-is_doubled-clause-touches g c =
    touches_still g.P.Pages c.args.tables.now.shape c.args.tables.now.catalog c.args.tables.now.settings c.args.pages.now c.find_rows.new.pages c.in_ok-hits.ensures.runs.works.steady.is_told c.find_rows.ensures.same
    (bound.CreateIndex c.args.table c.args.index)

pub returns-in_err-duplicate_key-clause-touches : goal.returns-in_err-duplicate_key-clause-touches
returns-in_err-duplicate_key-clause-touches g c =
    touches_still g.P.Pages c.args.tables.now.shape c.args.tables.now.catalog c.args.tables.now.settings c.args.pages.now c.find_rows.new.pages c.in_ok-hits.ensures.runs.works.steady.is_told c.find_rows.ensures.same
    (bound.CreateIndex c.args.table c.args.index)

pub returns-then-branch-clause-touches : goal.returns-then-branch-clause-touches
returns-then-branch-clause-touches g c =
    touches_still g.P.Pages c.args.tables.now.shape c.args.tables.now.catalog c.args.tables.now.settings c.args.pages.now c.find_rows.new.pages c.in_ok-hits.ensures.runs.works.steady.is_told c.find_rows.ensures.same
    (bound.CreateIndex c.args.table c.args.index)

pub returns-in_err-add_index-clause-touches : goal.returns-in_err-add_index-clause-touches
returns-in_err-add_index-clause-touches g c =
    touches_index g.P.Pages c.args.tables.now.shape c.args.tables.now.catalog c.args.tables.now.settings c.args.pages.now c.find_rows.new.pages c.in_ok-hits.ensures.runs.works.steady.is_told c.find_rows.ensures.same c.add_index.new.pages c.args.table c.args.index
    c.in_err-add_index.ensures.runs.touches

pub returns-clause-touches : goal.returns-clause-touches
returns-clause-touches g c =
    touches_index g.P.Pages c.args.tables.now.shape c.args.tables.now.catalog c.args.tables.now.settings c.args.pages.now c.find_rows.new.pages c.in_ok-hits.ensures.runs.works.steady.is_told c.find_rows.ensures.same c.add_index.new.pages c.args.table c.args.index
    c.in_ok-add_index.ensures.runs.touches
