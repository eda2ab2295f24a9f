use Rattle.std.proofs.Common.{◌≡◌, ◌<◌, ◌+◌, ◌∙◌, ◌∷◌, [], ◌++◌, ℕ, List, Some, None, ap, arith, get_or, length, subst, sym, take}
use Rattle.std.specs.List.{AllByRecursion}
use Rattle.std.specs.Prelude.{Contains}
use Rattle.std.proofs.lemmas.List.{get_or_default, length-map, map-append, take_all, take_more}
use Rattle.store_api.specs.Frame.{NoPage}
use Rattle.store_api.specs.RunsOverPages.{RunsOverPages}
use Rattle.store_api.proofs.RunsOverPagesLemmas.{runs_exit, runs_memory}
use Rattle.extent_map.specs.declared.kind.Kind.{Kind}
use Rattle.entry_tree.specs.Forest.{Forest, leaf_entries}
use Rattle.block_map.specs.MapLines.{used_blocks}
use Rattle.block_index.specs.ListedCells.{AreCellEntries}
use Rattle.block_index.specs.declared.listed_cells.CellBlock.{CellBlock}
use Rattle.block_rows.proofs.MetRowsLemmas.{each_append, each_at}
use Rattle.table_trees.specs.TableTrees.{composite_place}
use Rattle.table_trees.specs.TreesBeside.{HoldsTreeAt}
use Rattle.mdc_sound.proofs.DefinitionTreesLemmas.{has_block_indexes}
use Rattle.mdc_sound.proofs.MappedBlocksLemmas.{few_extents}
use Rattle.mdc_sound.specs.StandingTable.{BreaksTable, StandsTable, TableForests}
use Rattle.mdc_table.specs.declared.listed.ListedBlock.{ListedBlock}
use Rattle.table_scan.specs.Choices.{ChoosesBlocks, IsChoiceOf, IsOfEntry, blocks_chosen}
use Rattle.table_scan.specs.declared.choosing.ChosenEntry.{ChosenEntry}
use Rattle.table_scan.specs.FoundRows.{HaveQualifying, IsChoicePage}
use Rattle.table_scan.specs.SeenTable.{blocks_listed}
use Rattle.table_scan.proofs.BlocksThatMayLemmas.{element_at}
use Rattle.table_scan.proofs.ChoosingLemmas.{have_qualifying, listed_cell}
use Rattle.table_scan.proofs.ListingLemmas.{chosen_listed_so, listed_more, lists_chosen, none_listed, runs_line}
use Rattle.table_scan.proofs.ScanningLemmas.{is_chosen, runs_cells}
use Rattle.table_scan.proofs.choosing.listed_by_cell.Given.{Over}
use Rattle.table_scan.proofs.choosing.listed_by_cell.Goals.{In-Ok}
use Rattle.table_scan.proofs.choosing.listed_by_cell.Goals as goal

-- all that the composite index lists was read
read_all : (g : Over) (c : In-Ok g) (t : Forest) → HoldsTreeAt g.P.Pages c.args.pages.now (composite_place c.args.def.now) t → (all : List CellBlock) → AreCellEntries c.args.def.now (leaf_entries t) all
    → c.as_slice-entries.result.now ≡ all
read_all g c t held all are = c.as_slice-entries.ensures ∙ c.in_ok-found.ensures.listed t held all are

-- of the entries, those whose blocks are listed were chosen
chooses : (g : Over) (c : In-Ok g) {items : List ChosenEntry} → items ≡ c.in-Ok.chosen.items → ChoosesBlocks c.args.def.now c.args.pred.now c.as_slice-entries.result.now (blocks_chosen items)
chooses g c are = subst (λ l. ChoosesBlocks c.args.def.now c.args.pred.now c.as_slice-entries.result.now (blocks_chosen l)) (sym are) c.in-Ok.ensures.chosen

-- their blocks have all rows that qualify
have : (g : Over) (c : In-Ok g) {items : List ChosenEntry} → items ≡ c.in-Ok.chosen.items → (owners : List Kind) (forests : TableForests)
    → StandsTable g.P.Pages c.args.shape c.args.pages.now c.args.def.now owners forests
    → HaveQualifying g.P.Pages c.args.shape c.args.pages.now c.args.def.now (Some c.args.pred.now) (blocks_chosen items) forests
have g c {items} are owners forests st =
    have_qualifying g.P.Pages c.args.shape c.args.pages.now c.args.def.now owners forests st (has_block_indexes c.args.def.now.number c.args.def.now c.requires.defined).composite.key.there
    (omega (arith, few_extents c.args.shape)) c.args.pred.now c.as_slice-entries.result.now (blocks_chosen items) (read_all g c forests.composite st.trees.held.1.0) (chooses g c are)

-- so each is Used
used : (g : Over) (c : In-Ok g) {items : List ChosenEntry} → items ≡ c.in-Ok.chosen.items → (i : ℕ) → i < length items → (owners : List Kind) (forests : TableForests)
    → StandsTable g.P.Pages c.args.shape c.args.pages.now c.args.def.now owners forests → Contains (used_blocks forests.map) (get_or items i (record { block = 0; at = 0 })).block
used g c {items} are i low owners forests st =
    let one : ChosenEntry = get_or items i (record { block = 0; at = 0 }) in
    subst (Contains (used_blocks forests.map)) (element_at (λ (one : ChosenEntry). one.block) items i one 0 low (get_or_default items i (record { block = 0; at = 0 }) one low))
    (is_chosen c.args.shape c.args.pages.now c.args.def.now (Some c.args.pred.now) (blocks_chosen items) forests i (have g c are owners forests st) (omega (arith, low, length-map items (λ (one : ChosenEntry). one.block)))).used

pub cells-requires-clause-parts : goal.cells-requires-clause-parts
cells-requires-clause-parts g c = (has_block_indexes c.args.def.now.number c.args.def.now c.requires.defined).composite

pub returns-in_err-found-clause-runs : goal.returns-in_err-found-clause-runs
returns-in_err-found-clause-runs g c =
    runs_exit c.from_residual.result c.from_residual.ensures.1 (runs_cells c.args.shape c.args.def.now {fault = Some c.in_err-found.field-0.0} c.in_err-found.ensures.runs)

pub loop-one-init : goal.loop-one-init
loop-one-init g c = record {
  to = none_listed c.args.def.now c.args.pages.now _ c.new-listed.ensures.items;
  of_entries = subst (AllByRecursion (IsOfEntry c.args.def.now c.args.pred.now c.as_slice-entries.result.now)) (sym c.new-listed.ensures.items) tt;
  same = c.cells.ensures.same;
  going = c.in_ok-found.ensures.runs.works.steady.ended ∙ c.requires.going;
  runs = runs_cells c.args.shape c.args.def.now {fault = None} c.in_ok-found.ensures.runs;
}

pub listed_block-requires-clause-choice : goal.listed_block-requires-clause-choice
listed_block-requires-clause-choice g c =
    let items : List ChosenEntry = c.as_slice-one-items.result.now in
    each_at (IsChoiceOf c.args.def.now c.args.pred.now c.as_slice-entries.result.now) items c.loop-one.one-index (record { block = 0; at = 0 })
    (subst (AllByRecursion (IsChoiceOf c.args.def.now c.args.pred.now c.as_slice-entries.result.now)) (sym c.as_slice-one-items.ensures.value) c.in-Ok.ensures.entries) c.loop-one-test.true

pub returns-in_err-block-clause-runs : goal.returns-in_err-block-clause-runs
returns-in_err-block-clause-runs g c =
    let so = c.loop-one.invariant in
    let is_used = used g (goal.at.returns-in_err-block-clause-runs g c).In-Ok c.as_slice-one-items.ensures.value c.loop-one.one-index c.loop-one-test.true in
    runs_exit c.from_residual-in_err-block.result c.from_residual-in_err-block.ensures.1
    (runs_line c.args.def.now {fault = Some c.in_err-block.field-0.0} c.args.shape _ so.same is_used so.runs c.in_err-block.ensures.runs)

pub returns-in_err-push_listed-clause-runs : goal.returns-in_err-push_listed-clause-runs
returns-in_err-push_listed-clause-runs g c =
    let so = c.loop-one.invariant in
    let is_used = used g (goal.at.returns-in_err-push_listed-clause-runs g c).In-Ok c.as_slice-one-items.ensures.value c.loop-one.one-index c.loop-one-test.true in
    let run = runs_line c.args.def.now {fault = None} c.args.shape _ so.same is_used so.runs c.in_ok-block.ensures.runs in
    runs_exit c.from_residual-in_err-push_listed.result c.from_residual-in_err-push_listed.ensures.1
    (subst (λ fault. RunsOverPages g.P.Pages NoPage (IsChoicePage g.P.Pages c.args.shape c.args.pages.now c.args.def.now) (BreaksTable g.P.Pages c.args.shape c.args.pages.now c.args.def.now) c.args.pages.now c.listed_block.new.pages (Some fault))
    (sym c.in_err-push_listed.ensures.memory) (runs_memory run))

pub loop-one-preserved : goal.loop-one-preserved
loop-one-preserved g c =
    let so = c.loop-one.invariant in
    let items : List ChosenEntry = c.as_slice-one-items.result.now in
    let i = c.loop-one.one-index in
    let low = c.loop-one-test.true in
    let one : ChosenEntry = get_or items i (record { block = 0; at = 0 }) in
    let block : ListedBlock = c.in_ok-block.block in
    record {
      to = listed_more c.args.def.now c.args.pages.now c.loop-one.pages c.loop-one.listed.items c.push_listed.new.listed.items (blocks_chosen (take i items)) (blocks_chosen (take (i + 1) items)) block
          so.runs.works.steady.is_told so.same c.in_ok-push_listed.ensures.pushed
          (ap blocks_chosen (take_more items i (record { block = 0; at = 0 }) low) ∙ (map-append (λ (o : ChosenEntry). o.block) (take i items) (one ∷ [])
          ∙ ap (λ b. blocks_chosen (take i items) ++ b ∷ []) (sym c.in_ok-block.ensures.block)))
          c.in_ok-block.ensures.line so.to;
      of_entries = subst (AllByRecursion (IsOfEntry c.args.def.now c.args.pred.now c.as_slice-entries.result.now)) (sym c.in_ok-push_listed.ensures.pushed)
          (each_append (IsOfEntry c.args.def.now c.args.pred.now c.as_slice-entries.result.now) c.loop-one.listed.items (block ∷ []) so.of_entries
          (c.in_ok-block.ensures.entry, tt));
      same = c.listed_block.ensures.same ∙ so.same;
      going = c.in_ok-block.ensures.runs.works.steady.ended ∙ so.going;
      runs = runs_line c.args.def.now {fault = None} c.args.shape one.block so.same (used g (goal.at.loop-one-preserved g c).In-Ok c.as_slice-one-items.ensures.value i low) so.runs c.in_ok-block.ensures.runs;
    }

pub returns-clause-lists : goal.returns-clause-lists
returns-clause-lists g c =
    let so = c.loop-one.invariant in
    let found = (goal.at.returns-clause-lists g c).In-Ok in
    lists_chosen c.args.def.now c.args.pages.now c.args.pred.now c.as_slice-entries.result.now c.loop-one.listed.items c.as_slice-one-items.result.now c.loop-one.one-index c.loop-one-test.false so.to
    (chooses g found c.as_slice-one-items.ensures.value) (read_all g found) so.of_entries

pub returns-clause-chosen : goal.returns-clause-chosen
returns-clause-chosen g c = λ owners forests st.
    let are : blocks_listed c.loop-one.listed.items ≡ blocks_chosen c.as_slice-one-items.result.now =
    c.loop-one.invariant.to.blocks_are ∙ ap blocks_chosen (take_all c.loop-one.one-index c.as_slice-one-items.result.now c.loop-one-test.false) in
    subst (λ blocks. HaveQualifying g.P.Pages c.args.shape c.args.pages.now c.args.def.now (Some c.args.pred.now) blocks forests) (sym are)
    (have g (goal.at.returns-clause-chosen g c).In-Ok c.as_slice-one-items.ensures.value owners forests st)

pub returns-clause-listed : goal.returns-clause-listed
returns-clause-listed g c = λ owners forests st.
    let so = c.loop-one.invariant in
    chosen_listed_so c.args.def.now c.args.shape c.args.pages.now c.args.pred.now c.as_slice-entries.result.now c.loop-one.listed.items owners forests st.trees.held.0
    (listed_cell g.P.Pages c.args.shape c.args.pages.now c.args.def.now owners forests st (has_block_indexes c.args.def.now.number c.args.def.now c.requires.defined).composite.key.there
    (omega (arith, few_extents c.args.shape)) c.as_slice-entries.result.now (read_all g (goal.at.returns-clause-listed g c).In-Ok forests.composite st.trees.held.1.0)) so.of_entries so.to.lines
