use Rattle.std.proofs.Common.{◌++◌, ◌∙◌, List, subst, take}
use Rattle.std.specs.Prelude.{Some}
use Rattle.mdc_ast.specs.declared.definition.IndexDef.{IndexDef}
use Rattle.store_api.specs.Causes.{store_fault_in}
use Rattle.store_api.specs.RunsOverPages.{RunsOverPages}
use Rattle.store_api.proofs.RunsOverPagesLemmas.{runs_exit_as}
use Rattle.extent_map.specs.Damages.{store_part_of}
use Rattle.table_trees.specs.SpaceChanges.{MakesChanges, RunsFull, added_entries, removed_entries}
use Rattle.table_trees.specs.TableTrees.{record_places}
use Rattle.table_trees.specs.TreesBeside.{IsSpaceOfTrees}
use Rattle.table_trees.proofs.SpaceChainsLemmas.{changes_then, full_then}
use Rattle.mdc_sound.specs.RunningFull.{listings_in}
use Rattle.mdc_sound.specs.StandingTable.{pages_of}
use Rattle.record_index.proofs.OneIndexLemmas.{full_states, on_ok}
use Rattle.row_entries.specs.ChosenIndexes.{LacksOrHasEntry, differing_chosen}
use Rattle.row_entries.specs.ChosenTrees.{BreaksIndexes}
use Rattle.row_entries.specs.RowEntries.{HasRowEntriesOnly}
use Rattle.row_entries.proofs.RenewingLemmas.{differing_are, renewed_table, runs_leaving, runs_of_differing, runs_renewing, told_in_front}
use Rattle.row_entries.proofs.TableEntriesLemmas.{indexes_stand, on_ok_both, only_rules_out, runs_in_space}
use Rattle.row_entries.proofs.renewing.renew_row.Given.{Over}
use Rattle.row_entries.proofs.renewing.renew_row.Goals as goal

-- an entry that goes met a fault
goes : (g : Over) (c : goal.After-from_residual g) → RunsOverPages g.P.Pages (IsSpaceOfTrees g.P.Pages c.args.shape c.args.pages.now (record_places c.args.def.now)) (IsSpaceOfTrees g.P.Pages c.args.shape c.args.pages.now (record_places c.args.def.now))
    (BreaksIndexes g.P.Pages c.args.shape c.args.pages.now c.args.def.now (differing_chosen c.args.def.now c.args.was.now c.args.is.now) (LacksOrHasEntry c.args.def.now c.args.was.now c.args.is.now c.args.rid))
    c.args.pages.now c.leave_chosen.new.pages (store_fault_in store_part_of c.from_residual.result)
goes g c =
    runs_exit_as store_part_of c.from_residual.result c.from_residual.ensures.1
    (runs_of_differing g.P.Pages c.args.shape c.args.notes.now c.args.notes.now c.args.notes.now c.args.pages.now c.args.pages.now c.args.pages.now c.args.def.now c.args.was.now c.args.is.now c.args.rid (take c.len.result c.differing_indexes-differing.result) c.leave_chosen.new.pages (Some c.in_err-leave_chosen.field-0.0) (told_in_front c.args.def.now c.args.was.now c.args.is.now c.len.result c.differing_indexes-differing.result c.len.ensures c.differing_indexes-differing.ensures)
    (runs_leaving g.P.Pages c.args.shape c.args.notes.now c.args.notes.now c.args.notes.now c.args.pages.now c.args.pages.now c.args.pages.now c.args.def.now c.args.was.now c.args.is.now c.args.rid (take c.len.result c.differing_indexes-differing.result) c.leave_chosen.new.pages (Some c.in_err-leave_chosen.field-0.0) c.in_err-leave_chosen.ensures.runs))

pub returns-in_err-leave_chosen-clause-runs : goal.returns-in_err-leave_chosen-clause-runs
returns-in_err-leave_chosen-clause-runs g c =
    runs_in_space c.args.shape c.args.def.now c.requires.defined c.args.pages.now c.leave_chosen.new.pages (differing_chosen c.args.def.now c.args.was.now c.args.is.now) (LacksOrHasEntry c.args.def.now c.args.was.now c.args.is.now c.args.rid)
    (HasRowEntriesOnly c.args.def.now c.args.was.now c.args.is.now c.args.rid) (store_fault_in store_part_of c.from_residual.result) (only_rules_out c.args.def.now c.args.was.now c.args.is.now c.args.rid) (goes g c)

pub returns-in_err-leave_chosen-clause-names : goal.returns-in_err-leave_chosen-clause-names
returns-in_err-leave_chosen-clause-names g c damage is = (goes g c).cause.damaged damage is

pub returns-clause-renews : goal.returns-clause-renews
returns-clause-renews g c =
    on_ok_both c.enter_chosen.result
    (λ enters grows owners forests st.
    renewed_table g.P.Pages c.args.shape c.args.notes.now c.leave_chosen.new.notes c.enter_chosen.new.notes c.args.pages.now c.leave_chosen.new.pages c.enter_chosen.new.pages c.args.def.now c.args.was.now c.args.is.now c.args.rid (take c.len.result c.differing_indexes-differing.result)
    c.requires.defined (told_in_front c.args.def.now c.args.was.now c.args.is.now c.len.result c.differing_indexes-differing.result c.len.ensures c.differing_indexes-differing.ensures) owners forests st
    c.in_ok-leave_chosen.ensures.leaves c.in_ok-leave_chosen.ensures.runs c.in_ok-leave_chosen.ensures.count enters grows
    (store_fault_in store_part_of c.enter_chosen.result) c.enter_chosen.ensures.runs)
    c.enter_chosen.ensures.enters c.enter_chosen.ensures.grows

pub returns-clause-makes : goal.returns-clause-makes
returns-clause-makes g c =
    on_ok c.enter_chosen.result
    (λ makes owners forests st notes.
    let indexes_st = indexes_stand c.args.shape c.args.def.now c.requires.defined c.args.pages.now owners forests st in
    let m = c.in_ok-leave_chosen.ensures.leaves owners forests.indexes indexes_st in
    subst (λ (some : List IndexDef). MakesChanges c.args.shape (pages_of g.P.Pages c.args.pages.now) (removed_entries (listings_in c.args.def.now some c.args.was.now c.args.rid) ++ added_entries (listings_in c.args.def.now some c.args.is.now c.args.rid)) (pages_of g.P.Pages c.enter_chosen.new.pages))
    (differing_are c.args.def.now c.args.was.now c.args.is.now (take c.len.result c.differing_indexes-differing.result) (told_in_front c.args.def.now c.args.was.now c.args.is.now c.len.result c.differing_indexes-differing.result c.len.ensures c.differing_indexes-differing.ensures))
    (changes_then c.args.shape _ _ _ _ _ (c.in_ok-leave_chosen.ensures.makes owners forests.indexes indexes_st st.told)
    (makes m.owners_now m.trees_now m.changes.stand (c.in_ok-leave_chosen.ensures.runs.works.steady.is_told ∙ st.told) (m.changes.notes notes))))
    c.enter_chosen.ensures.makes

pub returns-clause-full : goal.returns-clause-full
returns-clause-full g c =
    full_states c.args.shape.extents c.enter_chosen.result
    (λ full owners forests st notes.
    let indexes_st = indexes_stand c.args.shape c.args.def.now c.requires.defined c.args.pages.now owners forests st in
    let m = c.in_ok-leave_chosen.ensures.leaves owners forests.indexes indexes_st in
    subst (λ (some : List IndexDef). RunsFull c.args.shape (pages_of g.P.Pages c.args.pages.now) (removed_entries (listings_in c.args.def.now some c.args.was.now c.args.rid) ++ added_entries (listings_in c.args.def.now some c.args.is.now c.args.rid)))
    (differing_are c.args.def.now c.args.was.now c.args.is.now (take c.len.result c.differing_indexes-differing.result) (told_in_front c.args.def.now c.args.was.now c.args.is.now c.len.result c.differing_indexes-differing.result c.len.ensures c.differing_indexes-differing.ensures))
    (full_then c.args.shape _ _ _ _ (c.in_ok-leave_chosen.ensures.makes owners forests.indexes indexes_st st.told)
    (full m.owners_now m.trees_now m.changes.stand (c.in_ok-leave_chosen.ensures.runs.works.steady.is_told ∙ st.told) (m.changes.notes notes))))
    c.enter_chosen.ensures.full

-- both were gone over
comes : (g : Over) (c : goal.After-enter_chosen g) → RunsOverPages g.P.Pages (IsSpaceOfTrees g.P.Pages c.args.shape c.args.pages.now (record_places c.args.def.now)) (IsSpaceOfTrees g.P.Pages c.args.shape c.args.pages.now (record_places c.args.def.now))
    (BreaksIndexes g.P.Pages c.args.shape c.args.pages.now c.args.def.now (differing_chosen c.args.def.now c.args.was.now c.args.is.now) (LacksOrHasEntry c.args.def.now c.args.was.now c.args.is.now c.args.rid))
    c.args.pages.now c.enter_chosen.new.pages (store_fault_in store_part_of c.enter_chosen.result)
comes g c =
    runs_of_differing g.P.Pages c.args.shape c.args.notes.now c.leave_chosen.new.notes c.enter_chosen.new.notes c.args.pages.now c.leave_chosen.new.pages c.enter_chosen.new.pages c.args.def.now c.args.was.now c.args.is.now c.args.rid (take c.len.result c.differing_indexes-differing.result) c.enter_chosen.new.pages (store_fault_in store_part_of c.enter_chosen.result) (told_in_front c.args.def.now c.args.was.now c.args.is.now c.len.result c.differing_indexes-differing.result c.len.ensures c.differing_indexes-differing.ensures)
    (runs_renewing g.P.Pages c.args.shape c.args.notes.now c.leave_chosen.new.notes c.enter_chosen.new.notes c.args.pages.now c.leave_chosen.new.pages c.enter_chosen.new.pages c.args.def.now c.args.was.now c.args.is.now c.args.rid (take c.len.result c.differing_indexes-differing.result)
    (store_fault_in store_part_of c.enter_chosen.result) c.in_ok-leave_chosen.ensures.leaves c.in_ok-leave_chosen.ensures.runs c.enter_chosen.ensures.runs)

pub returns-clause-runs : goal.returns-clause-runs
returns-clause-runs g c =
    runs_in_space c.args.shape c.args.def.now c.requires.defined c.args.pages.now c.enter_chosen.new.pages (differing_chosen c.args.def.now c.args.was.now c.args.is.now) (LacksOrHasEntry c.args.def.now c.args.was.now c.args.is.now c.args.rid)
    (HasRowEntriesOnly c.args.def.now c.args.was.now c.args.is.now c.args.rid) (store_fault_in store_part_of c.enter_chosen.result) (only_rules_out c.args.def.now c.args.was.now c.args.is.now c.args.rid) (comes g c)

pub returns-clause-names : goal.returns-clause-names
returns-clause-names g c damage is = (comes g c).cause.damaged damage is
