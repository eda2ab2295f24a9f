use Rattle.std.proofs.Common.{◌≡◌, ◌∙◌, List, ap, replicate, subst, take, true}
use Rattle.mdc_ast.specs.declared.definition.IndexDef.{IndexDef}
use Rattle.store_api.specs.Causes.{fault_of}
use Rattle.store_api.specs.RunsOverPages.{RunsOverPages}
use Rattle.table_trees.specs.SpaceChanges.{MakesChanges, removed_entries}
use Rattle.table_trees.specs.TableTrees.{record_places}
use Rattle.table_trees.specs.TreesBeside.{IsTreesOrMapPage}
use Rattle.mdc_sound.specs.RunningFull.{listings_in}
use Rattle.mdc_sound.specs.StandingTable.{pages_of}
use Rattle.record_index.proofs.OneIndexLemmas.{on_ok}
use Rattle.row_entries.specs.ChosenIndexes.{LacksEntry, all_chosen, chosen_indexes}
use Rattle.row_entries.specs.ChosenTrees.{BreaksIndexes}
use Rattle.row_entries.specs.RowEntries.{LeavesChosen, HasRowEntries}
use Rattle.row_entries.proofs.ChosenBitsLemmas.{all_true, chosen_all}
use Rattle.row_entries.proofs.TableEntriesLemmas.{left_table, indexes_stand, row_rules_out, runs_on_map}
use Rattle.row_entries.proofs.leaving.leave_row.Given.{Over}
use Rattle.row_entries.proofs.leaving.leave_row.Goals as goal

-- the part of the array that is handed on says that all are chosen
all : (g : Over) (c : goal.After-leave_chosen g) → take c.len.result (replicate 8 true) ≡ all_chosen c.args.def.now
all g c = ap (λ n. take n (replicate 8 true)) c.len.ensures ∙ all_true 8 c.args.def.now.indexes c.requires.defined.indexes.few

indexes : (g : Over) (c : goal.After-leave_chosen g) → chosen_indexes (take c.len.result (replicate 8 true)) c.args.def.now.indexes ≡ c.args.def.now.indexes
indexes g c = ap (λ chosen. chosen_indexes chosen c.args.def.now.indexes) (all g c) ∙ chosen_all c.args.def.now.indexes

pub returns-clause-leaves : goal.returns-clause-leaves
returns-clause-leaves g c =
    on_ok c.leave_chosen.result
    (λ leaves owners forests st.
    let indexes_st = indexes_stand c.args.shape c.args.def.now c.requires.defined c.args.pages.now owners forests st in
    subst (λ chosen. LeavesChosen g.P.Pages c.args.shape c.args.notes.now c.leave_chosen.new.notes c.args.pages.now c.leave_chosen.new.pages c.args.def.now chosen c.args.row.now c.args.rid owners forests) (all g c)
    (left_table c.args.shape c.args.def.now c.requires.defined c.args.notes.now c.leave_chosen.new.notes c.args.pages.now c.leave_chosen.new.pages c.args.row.now c.args.rid _ owners forests st
    (leaves owners forests.indexes indexes_st) c.leave_chosen.ensures.runs.touches c.leave_chosen.ensures.runs.works.steady.is_told c.leave_chosen.ensures.count))
    c.leave_chosen.ensures.leaves

pub returns-clause-makes : goal.returns-clause-makes
returns-clause-makes g c =
    on_ok c.leave_chosen.result
    (λ makes owners forests st.
    subst (λ (some : List IndexDef). MakesChanges c.args.shape (pages_of g.P.Pages c.args.pages.now) (removed_entries (listings_in c.args.def.now some c.args.row.now c.args.rid)) (pages_of g.P.Pages c.leave_chosen.new.pages)) (indexes g c)
    (makes owners forests.indexes (indexes_stand c.args.shape c.args.def.now c.requires.defined c.args.pages.now owners forests st) st.told))
    c.leave_chosen.ensures.makes

runs : (g : Over) (c : goal.After-leave_chosen g) → RunsOverPages g.P.Pages (IsTreesOrMapPage g.P.Pages c.args.shape c.args.pages.now (record_places c.args.def.now)) (IsTreesOrMapPage g.P.Pages c.args.shape c.args.pages.now (record_places c.args.def.now))
    (BreaksIndexes g.P.Pages c.args.shape c.args.pages.now c.args.def.now (all_chosen c.args.def.now) (LacksEntry c.args.def.now c.args.row.now c.args.rid)) c.args.pages.now c.leave_chosen.new.pages (fault_of c.leave_chosen.result)
runs g c =
    subst (λ chosen. RunsOverPages g.P.Pages (IsTreesOrMapPage g.P.Pages c.args.shape c.args.pages.now (record_places c.args.def.now)) (IsTreesOrMapPage g.P.Pages c.args.shape c.args.pages.now (record_places c.args.def.now))
    (BreaksIndexes g.P.Pages c.args.shape c.args.pages.now c.args.def.now chosen (LacksEntry c.args.def.now c.args.row.now c.args.rid)) c.args.pages.now c.leave_chosen.new.pages (fault_of c.leave_chosen.result)) (all g c) c.leave_chosen.ensures.runs

pub returns-clause-runs : goal.returns-clause-runs
returns-clause-runs g c =
    runs_on_map c.args.shape c.args.def.now c.requires.defined c.args.pages.now c.leave_chosen.new.pages (all_chosen c.args.def.now) (LacksEntry c.args.def.now c.args.row.now c.args.rid) (HasRowEntries c.args.def.now c.args.row.now c.args.rid)
    (fault_of c.leave_chosen.result) (row_rules_out c.args.def.now c.args.row.now c.args.rid) (runs g c)

pub returns-clause-names : goal.returns-clause-names
returns-clause-names g c damage is = (runs g c).cause.damaged damage is

pub returns-clause-touches : goal.returns-clause-touches
returns-clause-touches g c = c.leave_chosen.ensures.runs.touches
