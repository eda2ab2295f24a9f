use Rattle.std.proofs.Common.{◌≡◌, ◌∙◌, List, ap, replicate, subst, take, true}
use Rattle.mdc_ast.specs.declared.definition.IndexDef.{IndexDef}
use Rattle.store_api.specs.Causes.{store_fault_in}
use Rattle.store_api.specs.RunsOverPages.{RunsOverPages}
use Rattle.extent_map.specs.Damages.{store_part_of}
use Rattle.table_trees.specs.SpaceChanges.{MakesChanges, RunsFull, added_entries}
use Rattle.table_trees.specs.TableTrees.{record_places}
use Rattle.table_trees.specs.TreesBeside.{IsSpaceOfTrees}
use Rattle.mdc_sound.specs.RunningFull.{listings_in}
use Rattle.mdc_sound.specs.StandingTable.{pages_of}
use Rattle.record_index.proofs.OneIndexLemmas.{full_states, on_ok}
use Rattle.row_entries.specs.ChosenIndexes.{HasEntry, all_chosen, chosen_indexes}
use Rattle.row_entries.specs.ChosenTrees.{BreaksIndexes}
use Rattle.row_entries.specs.RowEntries.{EntersChosen, LacksRowEntries}
use Rattle.row_entries.proofs.ChosenBitsLemmas.{all_true, chosen_all}
use Rattle.row_entries.proofs.TableEntriesLemmas.{entered_table, indexes_stand, no_row_rules_out, on_ok_both, runs_in_space}
use Rattle.row_entries.proofs.entering.enter_row.Given.{Over}
use Rattle.row_entries.proofs.entering.enter_row.Goals as goal

-- the part of the array that is handed on says that all are chosen
all : (g : Over) (c : goal.After-enter_chosen g) → take c.len.result (replicate 8 true) ≡ all_chosen c.args.def.now
all g c = ap (λ n. take n (replicate 8 true)) c.len.ensures ∙ all_true 8 c.args.def.now.indexes c.requires.defined.indexes.few

indexes : (g : Over) (c : goal.After-enter_chosen g) → chosen_indexes (take c.len.result (replicate 8 true)) c.args.def.now.indexes ≡ c.args.def.now.indexes
indexes g c = ap (λ chosen. chosen_indexes chosen c.args.def.now.indexes) (all g c) ∙ chosen_all c.args.def.now.indexes

pub returns-clause-enters : goal.returns-clause-enters
returns-clause-enters g c =
    on_ok_both c.enter_chosen.result
    (λ enters grows owners forests st.
    let indexes_st = indexes_stand c.args.shape c.args.def.now c.requires.defined c.args.pages.now owners forests st in
    subst (λ chosen. EntersChosen g.P.Pages c.args.shape c.args.notes.now c.enter_chosen.new.notes c.args.pages.now c.enter_chosen.new.pages c.args.def.now chosen c.args.row.now c.args.rid owners forests) (all g c)
    (entered_table c.args.shape c.args.def.now c.requires.defined c.args.notes.now c.enter_chosen.new.notes c.args.pages.now c.enter_chosen.new.pages c.args.row.now c.args.rid _ owners forests st
    (enters owners forests.indexes indexes_st) c.enter_chosen.ensures.runs.touches c.enter_chosen.ensures.runs.works.steady.is_told (grows owners forests.indexes indexes_st)))
    c.enter_chosen.ensures.enters c.enter_chosen.ensures.grows

pub returns-clause-makes : goal.returns-clause-makes
returns-clause-makes g c =
    on_ok c.enter_chosen.result
    (λ makes owners forests st notes.
    subst (λ (some : List IndexDef). MakesChanges c.args.shape (pages_of g.P.Pages c.args.pages.now) (added_entries (listings_in c.args.def.now some c.args.row.now c.args.rid)) (pages_of g.P.Pages c.enter_chosen.new.pages)) (indexes g c)
    (makes owners forests.indexes (indexes_stand c.args.shape c.args.def.now c.requires.defined c.args.pages.now owners forests st) st.told notes))
    c.enter_chosen.ensures.makes

pub returns-clause-full : goal.returns-clause-full
returns-clause-full g c =
    full_states c.args.shape.extents c.enter_chosen.result
    (λ full owners forests st notes.
    subst (λ (some : List IndexDef). RunsFull c.args.shape (pages_of g.P.Pages c.args.pages.now) (added_entries (listings_in c.args.def.now some c.args.row.now c.args.rid))) (indexes g c)
    (full owners forests.indexes (indexes_stand c.args.shape c.args.def.now c.requires.defined c.args.pages.now owners forests st) st.told notes))
    c.enter_chosen.ensures.full

runs : (g : Over) (c : goal.After-enter_chosen g) → RunsOverPages g.P.Pages (IsSpaceOfTrees g.P.Pages c.args.shape c.args.pages.now (record_places c.args.def.now)) (IsSpaceOfTrees g.P.Pages c.args.shape c.args.pages.now (record_places c.args.def.now))
    (BreaksIndexes g.P.Pages c.args.shape c.args.pages.now c.args.def.now (all_chosen c.args.def.now) (HasEntry c.args.def.now c.args.row.now c.args.rid)) c.args.pages.now c.enter_chosen.new.pages (store_fault_in store_part_of c.enter_chosen.result)
runs g c =
    subst (λ chosen. RunsOverPages g.P.Pages (IsSpaceOfTrees g.P.Pages c.args.shape c.args.pages.now (record_places c.args.def.now)) (IsSpaceOfTrees g.P.Pages c.args.shape c.args.pages.now (record_places c.args.def.now))
    (BreaksIndexes g.P.Pages c.args.shape c.args.pages.now c.args.def.now chosen (HasEntry c.args.def.now c.args.row.now c.args.rid)) c.args.pages.now c.enter_chosen.new.pages (store_fault_in store_part_of c.enter_chosen.result)) (all g c) c.enter_chosen.ensures.runs

pub returns-clause-runs : goal.returns-clause-runs
returns-clause-runs g c =
    runs_in_space c.args.shape c.args.def.now c.requires.defined c.args.pages.now c.enter_chosen.new.pages (all_chosen c.args.def.now) (HasEntry c.args.def.now c.args.row.now c.args.rid) (LacksRowEntries c.args.def.now c.args.row.now c.args.rid)
    (store_fault_in store_part_of c.enter_chosen.result) (no_row_rules_out c.args.def.now c.args.row.now c.args.rid) (runs g c)

pub returns-clause-names : goal.returns-clause-names
returns-clause-names g c damage is = (runs g c).cause.damaged damage is
