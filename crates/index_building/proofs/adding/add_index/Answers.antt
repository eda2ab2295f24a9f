use Rattle.std.proofs.Common.{◌≡◌, ◌∙◌, ℕ, IsTrue, Some, length, map, ap, subst, sym}
use Rattle.mdc_ast.specs.Definitions.{def_at, with_def, with_index}
use Rattle.mdc_ast.specs.declared.definition.TableDef.{TableDef}
use Rattle.mdc_ast.specs.TableLimits.{IsTableDef}
use Rattle.store_api.proofs.RunsOverPagesLemmas.{runs_exit_as}
use Rattle.extent_map.specs.Damages.{store_part_of}
use Rattle.entry_tree.proofs.ClaimsLemmas.{if_err_by}
use Rattle.block_rows.specs.HeldRows.{placed_row}
use Rattle.mdc_sound.specs.SpaceRules.{DatabaseView}
use Rattle.record_index.specs.RecordIndexes.{HasRecordIndexes}
use Rattle.record_index.proofs.IndexesLemmas.{has_indexes}
use Rattle.stored_catalog.specs.StoredDefinitions.{AreStored, AreWithinLimits, with_stored}
use Rattle.stored_catalog.proofs.LeftDefinitionsLemmas.{def_there, limits_at, stored_at}
use Rattle.stored_catalog.proofs.MakingTreesLemmas.{map_tells}
use Rattle.index_building.specs.IndexSteps.{AddsIndex}
use Rattle.index_building.specs.IndexViews.{TakesIndex, rooted_index}
use Rattle.index_building.proofs.AddedIndexLemmas.{limits_with, name_is_free}
use Rattle.index_building.proofs.AddingIndexLemmas.{MakesIndex, adds, filled_of, found, stands_for_more}
use Rattle.index_building.proofs.AddingIndexRunsLemmas.{filling_index, making_index, writing_index}
use Rattle.index_building.proofs.IndexFullLemmas.{filling_full, making_full, rows_there}
use Rattle.index_building.proofs.PutDefinitionsLemmas.{defines_written, limits_put, making_untouched, of_there, own_number, stored_put, to_there}
use Rattle.index_building.proofs.adding.add_index.Given.{Over}
use Rattle.index_building.proofs.adding.add_index.Goals as goal

pub with_index-requires-clause-defined : goal.with_index-requires-clause-defined
with_index-requires-clause-defined g c = own_number c.args.table c.in-Some.def.now (limits_at c.args.catalog.now c.args.table c.in-Some.def.now c.requires.catalog c.in-Some.ensures)

pub returns-in_err-now-clause-full : goal.returns-in_err-now-clause-full
returns-in_err-now-clause-full g c =
    if_err_by c.from_residual.result c.in_err-now.field-0.0 _ c.from_residual.ensures.1
    (making_full g.P.Pages c.args.shape c.args.notes.now c.args.pages.now c.args.catalog.now c.args.table c.requires.place c.in-Some.def.now c.in-Some.ensures c.args.index (map placed_row c.args.rows.now) c.in_err-now.field-0.0 c.in_err-now.ensures.full)

pub returns-in_err-now-clause-runs : goal.returns-in_err-now-clause-runs
returns-in_err-now-clause-runs g c =
    runs_exit_as store_part_of c.from_residual.result c.from_residual.ensures.1
    (making_index g.P.Pages c.args.shape c.args.pages.now c.args.catalog.now c.args.table c.in-Some.def.now c.in-Some.ensures c.args.index (map placed_row c.args.rows.now) c.in_err-now.ensures.runs)

pub fill_index-requires-clause-indexes : goal.fill_index-requires-clause-indexes
fill_index-requires-clause-indexes g c =
    let def = c.in-Some.def.now in
    let limits = limits_at c.args.catalog.now c.args.table def c.requires.catalog c.in-Some.ensures in
    let copy = c.in_ok-now.ensures.copy in
    let takes = of_there (λ (d : TableDef). TakesIndex d c.args.index) _ def c.in-Some.ensures c.requires.takes in
    subst HasRecordIndexes (sym copy.2)
    (has_indexes c.args.table _ (limits_with c.args.table def c.args.index copy.0 c.args.catalog.now takes copy.1 limits c.requires.free (def_there c.args.catalog.now c.args.table def c.in-Some.ensures)))

pub returns-in_err-fill_index-clause-full : goal.returns-in_err-fill_index-clause-full
returns-in_err-fill_index-clause-full g c =
    let copy = c.in_ok-now.ensures.copy in
    if_err_by c.from_residual-in_err-fill_index.result c.in_err-fill_index.field-0.0 _ c.from_residual-in_err-fill_index.ensures.1
    (filling_full g.P.Pages c.args.shape c.args.notes.now c.args.pages.now c.args.catalog.now c.args.table c.requires.place c.in-Some.def.now c.in-Some.ensures c.args.index (map placed_row c.args.rows.now)
    c.with_index.new.notes c.with_index.new.pages copy.0 c.in_ok-now.ensures.runs.works.steady.is_told copy.3 c.in_ok-now.now c.len-place.result copy.2 c.len-place.ensures c.in_err-fill_index.field-0.0 c.in_err-fill_index.ensures.full)

pub returns-in_err-fill_index-clause-runs : goal.returns-in_err-fill_index-clause-runs
returns-in_err-fill_index-clause-runs g c =
    let copy = c.in_ok-now.ensures.copy in
    runs_exit_as store_part_of c.from_residual-in_err-fill_index.result c.from_residual-in_err-fill_index.ensures.1
    (filling_index g.P.Pages c.args.shape c.args.pages.now c.args.catalog.now c.args.table c.in-Some.def.now c.in-Some.ensures c.args.index (map placed_row c.args.rows.now)
    c.args.notes.now c.with_index.new.notes c.with_index.new.pages copy.0 copy.3 c.in_ok-now.now c.len-place.result copy.2 c.len-place.ensures c.in_ok-now.ensures.runs c.in_err-fill_index.ensures.runs)

pub write_def-requires-clause-limits : goal.write_def-requires-clause-limits
write_def-requires-clause-limits g c =
    let def = c.in-Some.def.now in
    let limits = limits_at c.args.catalog.now c.args.table def c.requires.catalog c.in-Some.ensures in
    let copy = c.in_ok-now.ensures.copy in
    let takes = of_there (λ (d : TableDef). TakesIndex d c.args.index) _ def c.in-Some.ensures c.requires.takes in
    subst (IsTableDef c.args.table) (sym copy.2)
    (limits_with c.args.table def c.args.index copy.0 c.args.catalog.now takes copy.1 limits c.requires.free (def_there c.args.catalog.now c.args.table def c.in-Some.ensures))

pub returns-in_err-write_def-clause-runs : goal.returns-in_err-write_def-clause-runs
returns-in_err-write_def-clause-runs g c =
    let copy = c.in_ok-now.ensures.copy in
    runs_exit_as store_part_of c.from_residual-in_err-write_def.result c.from_residual-in_err-write_def.ensures.1
    (writing_index g.P.Pages c.args.shape c.args.pages.now c.args.catalog.now c.args.table c.in-Some.def.now c.in-Some.ensures c.args.index (map placed_row c.args.rows.now) c.requires.place
    (filling_index g.P.Pages c.args.shape c.args.pages.now c.args.catalog.now c.args.table c.in-Some.def.now c.in-Some.ensures c.args.index (map placed_row c.args.rows.now)
    c.args.notes.now c.with_index.new.notes c.with_index.new.pages copy.0 copy.3 c.in_ok-now.now c.len-place.result copy.2 c.len-place.ensures c.in_ok-now.ensures.runs c.in_ok-fill_index.ensures.runs)
    c.in_err-write_def.ensures.runs)

pub put-requires : goal.put-requires
put-requires g c =
    let limits = limits_at c.args.catalog.now c.args.table c.in-Some.def.now c.requires.catalog c.in-Some.ensures in
    (c.requires.place, ap (λ (d : TableDef). d.number) c.in_ok-now.ensures.copy.2 ∙ limits.stands)

pub returns-clause-limits : goal.returns-clause-limits
returns-clause-limits g c =
    let def = c.in-Some.def.now in
    let limits = limits_at c.args.catalog.now c.args.table def c.requires.catalog c.in-Some.ensures in
    let copy = c.in_ok-now.ensures.copy in
    let takes = of_there (λ (d : TableDef). TakesIndex d c.args.index) _ def c.in-Some.ensures c.requires.takes in
    let now = limits_with c.args.table def c.args.index copy.0 c.args.catalog.now takes copy.1 limits c.requires.free (def_there c.args.catalog.now c.args.table def c.in-Some.ensures) in
    subst AreWithinLimits (sym c.put.ensures) (limits_put c.args.catalog.now c.args.table c.in_ok-now.now (subst (IsTableDef c.args.table) (sym copy.2) now) c.requires.catalog)

pub returns-clause-stored : goal.returns-clause-stored
returns-clause-stored g c owners held stored =
    let def = c.in-Some.def.now in
    let limits = limits_at c.args.catalog.now c.args.table def c.requires.catalog c.in-Some.ensures in
    let copy = c.in_ok-now.ensures.copy in
    let takes = of_there (λ (d : TableDef). TakesIndex d c.args.index) _ def c.in-Some.ensures c.requires.takes in
    let now = limits_with c.args.table def c.args.index copy.0 c.args.catalog.now takes copy.1 limits c.requires.free (def_there c.args.catalog.now c.args.table def c.in-Some.ensures) in
    let rows = map placed_row c.args.rows.now in
    let run = writing_index g.P.Pages c.args.shape c.args.pages.now c.args.catalog.now c.args.table def c.in-Some.ensures c.args.index rows c.requires.place
    (filling_index g.P.Pages c.args.shape c.args.pages.now c.args.catalog.now c.args.table def c.in-Some.ensures c.args.index rows
    c.args.notes.now c.with_index.new.notes c.with_index.new.pages copy.0 copy.3 c.in_ok-now.now c.len-place.result copy.2 c.len-place.ensures c.in_ok-now.ensures.runs c.in_ok-fill_index.ensures.runs)
    c.in_ok-write_def.ensures.runs in
    let told = map_tells g.P.Pages c.args.shape c.args.pages.now owners held in
    let saved = c.in_ok-write_def.ensures.saves (c.in_ok-fill_index.ensures.runs.works.steady.is_told ∙ (c.in_ok-now.ensures.runs.works.steady.is_told ∙ told)) in
    subst (AreStored (g.P.Pages.state c.write_def.new.pages).work) (sym c.put.ensures)
    (stored_put (g.P.Pages.state c.args.pages.now).work (g.P.Pages.state c.write_def.new.pages).work c.args.catalog.now c.args.table c.in_ok-now.now stored
    (making_untouched g.P.Pages c.args.shape c.args.pages.now c.write_def.new.pages c.args.table owners held run.touches)
    (defines_written (g.P.Pages.state c.fill_index.new.pages).work (g.P.Pages.state c.write_def.new.pages).work c.args.table c.in_ok-now.now (subst (IsTableDef c.args.table) (sym copy.2) now) c.in_ok-write_def.ensures.there saved))

-- what the call goes from and to, where the catalog is stored
abbrev Makes : (g : Over) → goal.After-put g → Type 0
Makes g c =
    MakesIndex g.P.Pages c.args.shape c.args.notes.now c.with_index.new.notes c.fill_index.new.notes c.args.pages.now c.with_index.new.pages c.fill_index.new.pages c.write_def.new.pages c.args.table c.in-Some.def.now c.args.index
    c.in_ok-now.ensures.copy.0 (map placed_row c.args.rows.now)

makes_index : (g : Over) (c : goal.After-put g) → IsTrue (g.P.Pages.state c.args.pages.now).is_told → AreStored (g.P.Pages.state c.args.pages.now).work c.args.catalog.now → Makes g c
makes_index g c told stored =
    let def = c.in-Some.def.now in
    let limits = limits_at c.args.catalog.now c.args.table def c.requires.catalog c.in-Some.ensures in
    let copy = c.in_ok-now.ensures.copy in
    let index = c.args.index in
    let which = rooted_index index copy.0 in
    let takes = of_there (λ (d : TableDef). TakesIndex d index) _ def c.in-Some.ensures c.requires.takes in
    let rows = map placed_row c.args.rows.now in
    let run = writing_index g.P.Pages c.args.shape c.args.pages.now c.args.catalog.now c.args.table def c.in-Some.ensures index rows c.requires.place
    (filling_index g.P.Pages c.args.shape c.args.pages.now c.args.catalog.now c.args.table def c.in-Some.ensures index rows
    c.args.notes.now c.with_index.new.notes c.with_index.new.pages copy.0 copy.3 c.in_ok-now.now c.len-place.result copy.2 c.len-place.ensures c.in_ok-now.ensures.runs c.in_ok-fill_index.ensures.runs)
    c.in_ok-write_def.ensures.runs in
    let saved = c.in_ok-write_def.ensures.saves (c.in_ok-fill_index.ensures.runs.works.steady.is_told ∙ (c.in_ok-now.ensures.runs.works.steady.is_told ∙ told)) in
    record {
      told = told;
      low = c.requires.place;
      made = copy.3;
      touched_one = c.in_ok-now.ensures.runs.touches;
      told_one = c.in_ok-now.ensures.runs.works.steady.is_told;
      longer_one = c.in_ok-now.ensures.runs.works.no_shorter;
      fill = filled_of g.P.Pages c.args.shape c.with_index.new.notes c.fill_index.new.notes c.with_index.new.pages c.fill_index.new.pages rows (with_index def which) c.in_ok-now.now (length def.indexes) c.len-place.result copy.2 c.len-place.ensures
          (record { fills = c.in_ok-fill_index.ensures.fills; makes = c.in_ok-fill_index.ensures.makes; grows = c.in_ok-fill_index.ensures.grows; touched = c.in_ok-fill_index.ensures.runs.touches });
      told_two = c.in_ok-fill_index.ensures.runs.works.steady.is_told;
      longer_two = c.in_ok-fill_index.ensures.runs.works.no_shorter;
      touched = run.touches;
      saved = saved ∙ ap (λ d. with_stored (g.P.Pages.state c.fill_index.new.pages).work c.args.table (Some d)) copy.2;
      defines = stored_at (g.P.Pages.state c.args.pages.now).work c.args.catalog.now c.args.table def stored c.in-Some.ensures;
      limits = limits_with c.args.table def index copy.0 c.args.catalog.now takes copy.1 limits c.requires.free (def_there c.args.catalog.now c.args.table def c.in-Some.ensures);
    }

-- what it adds, said of the definition in the place
abbrev AddsTo : (g : Over) → goal.After-put g → DatabaseView → TableDef → Type 0
AddsTo g c view def =
    (root : ℕ) × (c.put.new.self ≡ with_def c.args.catalog.now c.args.table (with_index def (rooted_index c.args.index root)))
    × AddsIndex c.args.shape c.args.notes.now c.fill_index.new.notes (g.P.Pages.state c.args.pages.now).work (g.P.Pages.state c.write_def.new.pages).work c.args.table (rooted_index c.args.index root) (map placed_row c.args.rows.now) view

pub returns-clause-adds : goal.returns-clause-adds
returns-clause-adds g c told stored view keeps are =
    let def = c.in-Some.def.now in
    let copy = c.in_ok-now.ensures.copy in
    let index = c.args.index in
    let rows = map placed_row c.args.rows.now in
    let m = makes_index g c told stored in
    let old = (g.P.Pages.state c.args.pages.now).work in
    let here = found g.P.Pages c.args.shape c.args.notes.now c.with_index.new.notes c.fill_index.new.notes c.args.pages.now c.with_index.new.pages c.fill_index.new.pages c.write_def.new.pages c.args.table def index copy.0 rows m view keeps in
    let same = rows_there c.args.shape old view c.args.table rows here.table here.there are in
    to_there (λ (d : TableDef). AddsTo g c view d) (def_at c.args.catalog.now c.args.table) def c.in-Some.ensures (
      copy.0,
      c.put.ensures ∙ ap (with_def c.args.catalog.now c.args.table) copy.2,
      adds g.P.Pages c.args.shape c.args.notes.now c.with_index.new.notes c.fill_index.new.notes c.args.pages.now c.with_index.new.pages c.fill_index.new.pages c.write_def.new.pages c.args.table def index copy.0 rows m view keeps
          same (name_is_free c.args.shape old view c.args.catalog.now index.name keeps stored c.requires.free),
    )

pub returns-clause-stands_for : goal.returns-clause-stands_for
returns-clause-stands_for g c told stored view keeps =
    stands_for_more g.P.Pages c.args.shape c.args.notes.now c.with_index.new.notes c.fill_index.new.notes c.args.pages.now c.with_index.new.pages c.fill_index.new.pages c.write_def.new.pages c.args.table c.in-Some.def.now c.args.index
    c.in_ok-now.ensures.copy.0 (map placed_row c.args.rows.now) (makes_index g c told stored) view keeps

pub returns-clause-runs : goal.returns-clause-runs
returns-clause-runs g c =
    let copy = c.in_ok-now.ensures.copy in
    writing_index g.P.Pages c.args.shape c.args.pages.now c.args.catalog.now c.args.table c.in-Some.def.now c.in-Some.ensures c.args.index (map placed_row c.args.rows.now) c.requires.place
    (filling_index g.P.Pages c.args.shape c.args.pages.now c.args.catalog.now c.args.table c.in-Some.def.now c.in-Some.ensures c.args.index (map placed_row c.args.rows.now)
    c.args.notes.now c.with_index.new.notes c.with_index.new.pages copy.0 copy.3 c.in_ok-now.now c.len-place.result copy.2 c.len-place.ensures c.in_ok-now.ensures.runs c.in_ok-fill_index.ensures.runs)
    c.in_ok-write_def.ensures.runs
