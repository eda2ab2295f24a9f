-- A block that is wiped, takes its first row, and is listed under the row's cell.
use Rattle.std.proofs.Common.{◌≡◌, ◌<◌, ◌^◌, ℕ, List, ◌∷◌, length, sym, subst, inl, inr, Result, Ok, Err}
use Rattle.std.specs.Prelude.{IfErr, IsTrue, OnOk, Option, Some, None, replicate, slice_set}
use Rattle.mdc_ast.specs.declared.definition.TableDef.{TableDef}
use Rattle.mdc_ast.specs.declared.row.Cell.{Cell}
use Rattle.mdc_ast.specs.declared.row.Row.{Row}
use Rattle.store_api.specs.Causes.{store_fault_in}
use Rattle.store_api.specs.RunsOverPages.{RunsOverPages}
use Rattle.store_api.specs.declared.fault.Damage.{Damage}
use Rattle.store_api.specs.declared.fault.StoreFault.{StoreFault}
use Rattle.store_api.specs.declared.fault.StoreFault.TheVariants.{Memory}
use Rattle.store_api.specs.declared.pages.Pages.{Ghosts}
use Rattle.store_api.specs.declared.shape.Shape.{Shape}
use Rattle.store_api.proofs.RunsOverPagesLemmas.{runs_memory, runs_none, runs_wider}
use Rattle.extent_map.specs.Damages.{IfFull, store_part_of}
use Rattle.extent_map.specs.Owners.{AreRightNotes}
use Rattle.extent_map.specs.declared.fault.SpaceFault.{SpaceFault}
use Rattle.extent_map.specs.declared.fault.SpaceFault.TheVariants.{Full, Store}
use Rattle.extent_map.specs.declared.kind.Kind.{Kind}
use Rattle.extent_map.specs.declared.space_notes.SpaceNotes.{SpaceNotes}
use Rattle.mdc_ast.specs.TableLimits.{IsTableDef}
use Rattle.entry_tree.specs.Forest.{Forest}
use Rattle.table_trees.specs.RowCells.{cell_places, IsCellOf}
use Rattle.table_trees.specs.TableTrees.{HasBlockIndexes, block_index_places}
use Rattle.table_trees.specs.TreesBeside.{GrowsPages, IsSpaceOfTrees, StandTrees}
use Rattle.block_index.specs.Cells.{HaveKeys}
use Rattle.block_index.specs.Listing.{BreaksListing, FillsListing, ListsBlock}
use Rattle.block_index.proofs.CellsLemmas.{keys_of_fitting}
use Rattle.block_rows.specs.HeldRows.{BreaksExtent, BreaksRows, HoldsRows}
use Rattle.mdc_ast.specs.FittingRows.{RowFits}
use Rattle.mdc_sound.specs.Placing.{AfterClaims, block_slot_count}
use Rattle.mdc_sound.specs.StandingTable.{IsPageOfBlock, MeetsNoFree, TableForests}
use Rattle.mdc_sound.proofs.DefinitionTreesLemmas.{has_block_indexes}
use Rattle.table_blocks.specs.AroundBlock.{StandsAround}
use Rattle.table_blocks.specs.BlockChanges.{BreaksAround, ChangesAround, IsSpaceAround}
use Rattle.table_blocks.specs.BlockNow.{IsOwnBlock, IsUnlisted}
use Rattle.table_blocks.specs.BlockSteps.{FillsBegun, StepsTo}
use Rattle.table_blocks.proofs.AroundLemmas.{around_then, breaks_extent, breaks_rows, rows_step, runs_around_then, some_notes}
use Rattle.table_blocks.proofs.IndexStepLemmas.{breaks_listing, full_listing, indexes_around, lists_entries, space_of_indexes}
use Rattle.table_blocks.proofs.SpotChangesLemmas.{claims_change}

-- a row that fits has keys in the dimension columns
pub row_keys : (def : TableDef) (row : Row) → IsTableDef def.number def → RowFits def row → HaveKeys def.columns (cell_places def) row.values
row_keys def row defined fits = keys_of_fitting def.columns (cell_places def) row.values (has_block_indexes def.number def defined).composite.key.there fits.values

-- the slots of a block without rows
abbrev pub no_rows : Shape → TableDef → List (Option Row)
no_rows shape def = replicate (block_slot_count shape def) None

-- what is expected of the block: no block index names it
abbrev Unlisted : TableDef → ℕ → List Kind → TableForests → Type 0
Unlisted def block owners forests = IsUnlisted def forests block

-- and, midway, that its pages have rows
abbrev HasRows : {S : Type 0} → Ghosts S → Shape → S → TableDef → ℕ → List Kind → TableForests → Type 0
HasRows g shape s def block owners forests = (slots : List (Option Row)) × HoldsRows g shape s def block slots

-- The block was wiped and has a row in its lowest slot, a row that fits and whose cell this is.
pub record PutsFirstRow {S : Type 0} (g : Ghosts S) (shape : Shape) (old mid new : S) (def : TableDef) (block : ℕ) (row : Row) (cell : Cell) : Type 0 where
  pub low : block < shape.extents
  pub wipes : RunsOverPages g (IsPageOfBlock shape block) (IsPageOfBlock shape block) (BreaksExtent g shape old block) old mid None
  pub wipe_count : length (g.state mid).work ≡ length (g.state old).work
  pub empty : IsTrue (g.state old).is_told → HoldsRows g shape mid def block (no_rows shape def)
  pub puts : RunsOverPages g (IsPageOfBlock shape block) (IsPageOfBlock shape block) (BreaksRows g shape mid def block) mid new None
  pub put_count : length (g.state new).work ≡ length (g.state mid).work
  pub has : (slots : List (Option Row)) → HoldsRows g shape mid def block slots → HoldsRows g shape new def block (slice_set slots 0 (Some row))
  pub small : block < 2 ^ 32
  pub defined : IsTableDef def.number def
  pub fits : RowFits def row
  pub of_row : IsCellOf def cell row.values

module _ {S : Type 0} {g : Ghosts S} (shape : Shape) (def : TableDef) (block : ℕ) where
  -- memory ran out before
  pub run_before : (s : S) (fault : StoreFault) → fault ≡ Memory
      → RunsOverPages g (IsSpaceAround g shape s def block) (IsSpaceAround g shape s def block) (BreaksAround g shape s def block (Unlisted def block)) s s (Some fault)
  run_before s fault is =
      subst (λ (f : StoreFault). RunsOverPages g (IsSpaceAround g shape s def block) (IsSpaceAround g shape s def block) (BreaksAround g shape s def block (Unlisted def block)) s s (Some f))
      (sym is) (runs_memory runs_none)

  -- a page of the block is one of those that may change
  page_here : (s : S) (p : ℕ) → IsPageOfBlock shape block p → IsSpaceAround g shape s def block p
  page_here s p of owners forests st own = inr (inl of)

  -- the pages of the block are wiped
  pub run_wiping : (old new : S) (fault : Option StoreFault) → block < shape.extents → RunsOverPages g (IsPageOfBlock shape block) (IsPageOfBlock shape block) (BreaksExtent g shape old block) old new fault
      → RunsOverPages g (IsSpaceAround g shape old def block) (IsSpaceAround g shape old def block) (BreaksAround g shape old def block (Unlisted def block)) old new fault
  run_wiping old new fault low run = runs_wider run (λ p there of. page_here old p of) (page_here old) (λ damage breaks. breaks_extent shape old def block (Unlisted def block) damage breaks low)

  -- a run on the rows of the block
  run_rows : (old new : S) (fault : Option StoreFault) → block < shape.extents → RunsOverPages g (IsPageOfBlock shape block) (IsPageOfBlock shape block) (BreaksRows g shape old def block) old new fault
      → RunsOverPages g (IsSpaceAround g shape old def block) (IsSpaceAround g shape old def block) (BreaksAround g shape old def block (HasRows g shape old def block)) old new fault
  run_rows old new fault low run = runs_wider run (λ p there of. page_here old p of) (page_here old) (λ damage breaks. breaks_rows shape old def block damage breaks low)

  -- one run on the pages of the block is such a step
  step_on_rows : (noted : SpaceNotes) {Breaks : Damage → Type 0} (old new : S) (owners : List Kind) (forests : TableForests) → StandsAround g shape old def owners forests block → IsOwnBlock shape owners def block
      → RunsOverPages g (IsPageOfBlock shape block) (IsPageOfBlock shape block) Breaks old new None → length (g.state new).work ≡ length (g.state old).work
      → ChangesAround g AfterClaims shape noted noted old new def block owners forests owners forests
  step_on_rows noted old new owners forests st own run count = rows_step claims_change shape noted old new def block owners forests st own run.touches run.works.steady.is_told count

  -- and a row is put into a slot
  pub run_putting : (old mid new : S) (fault : Option StoreFault) → block < shape.extents → RunsOverPages g (IsPageOfBlock shape block) (IsPageOfBlock shape block) (BreaksExtent g shape old block) old mid None
      → length (g.state mid).work ≡ length (g.state old).work → (IsTrue (g.state old).is_told → HoldsRows g shape mid def block (no_rows shape def))
      → RunsOverPages g (IsPageOfBlock shape block) (IsPageOfBlock shape block) (BreaksRows g shape mid def block) mid new fault
      → RunsOverPages g (IsSpaceAround g shape old def block) (IsSpaceAround g shape old def block) (BreaksAround g shape old def block (Unlisted def block)) old new fault
  run_putting old mid new fault low wipes count empty puts =
      runs_around_then shape some_notes some_notes old mid new def block (Unlisted def block) (HasRows g shape mid def block) fault step (run_wiping old mid None low wipes) (run_rows mid new fault low puts)
    where
      step : (owners : List Kind) (forests : TableForests) → StandsAround g shape old def owners forests block → IsOwnBlock shape owners def block → StepsTo g AfterClaims shape some_notes some_notes old mid def block (Unlisted def block) (HasRows g shape mid def block) owners forests
      step owners forests st own = record {
        owners_now = owners;
        forests_now = forests;
        changes = step_on_rows some_notes old mid owners forests st own wipes count;
        expects = λ unlisted. (no_rows shape def, empty st.told);
      }

module _ {S : Type 0} {g : Ghosts S} {shape : Shape} {old mid new : S} {def : TableDef} {block : ℕ} {row : Row} {cell : Cell} (is : PutsFirstRow g shape old mid new def block row cell) where
  pub changes_put : (noted : SpaceNotes) (owners : List Kind) (forests : TableForests) → StandsAround g shape old def owners forests block → IsOwnBlock shape owners def block
      → ChangesAround g AfterClaims shape noted noted old new def block owners forests owners forests
  changes_put noted owners forests st own =
      let first = step_on_rows shape def block noted old mid owners forests st own is.wipes is.wipe_count in
      around_then claims_change shape noted noted noted old mid new def block owners owners owners forests forests forests first (step_on_rows shape def block noted mid new owners forests first.stands own is.puts is.put_count)

  indexes : HasBlockIndexes def
  indexes = has_block_indexes def.number def is.defined

  keys : HaveKeys def.columns (cell_places def) row.values
  keys = row_keys def row is.defined is.fits

  -- it is listed then
  pub fills_begun : (noted notes_now : SpaceNotes) (now : S) {Breaks : Damage → Type 0} → ((owners : List Kind) (trees : List Forest) → StandTrees g shape new owners (block_index_places def) trees → ListsBlock g shape noted notes_now now def cell.values block owners trees)
      → ((owners : List Kind) (trees : List Forest) → StandTrees g shape new owners (block_index_places def) trees → GrowsPages g shape new now)
      → RunsOverPages g (IsSpaceOfTrees g shape new (block_index_places def)) (IsSpaceOfTrees g shape new (block_index_places def)) Breaks new now None
      → (owners : List Kind) (forests : TableForests) → StandsAround g shape old def owners forests block → IsOwnBlock shape owners def block
      → FillsBegun g shape noted notes_now old now def block row owners forests
  fills_begun noted notes_now now lists grows run owners forests st own =
      let first = changes_put noted owners forests st own in
      let stand = indexes_around def block indexes shape new owners forests first.stands in
      let listed =
      lists_entries def cell row.values block is.small indexes is.of_row keys shape noted notes_now new now owners forests first.stands own (lists owners (forests.composite ∷ forests.dims) stand)
      (grows owners (forests.composite ∷ forests.dims) stand) run.touches run.works.steady.is_told run.works.no_shorter in
      let moves = listed.0 in
      record {
        owners_now = moves.owners_now;
        forests_now = moves.forests_now;
        changes = around_then claims_change shape noted noted notes_now old new now def block owners owners moves.owners_now forests forests moves.forests_now first moves.changes;
        same_map = moves.same_map;
        rows = moves.rows (slice_set (no_rows shape def) 0 (Some row)) (is.has (no_rows shape def) (is.empty st.told));
        listed = listed.1;
      }

  pub run_listing : (noted : SpaceNotes) (now : S) (fault : Option StoreFault) → RunsOverPages g (IsSpaceOfTrees g shape new (block_index_places def)) (IsSpaceOfTrees g shape new (block_index_places def)) (BreaksListing g shape noted new def cell.values block) new now fault
      → RunsOverPages g (IsSpaceAround g shape old def block) (IsSpaceAround g shape old def block) (BreaksAround g shape old def block (Unlisted def block)) old now fault
  run_listing noted now fault run =
      runs_around_then shape noted noted old new now def block (Unlisted def block) (Unlisted def block) fault step (run_putting shape def block old mid new None is.low is.wipes is.wipe_count is.empty is.puts)
      (runs_wider run (λ p there of. space_of_indexes def block indexes shape new p of) (space_of_indexes def block indexes shape new)
      (breaks_listing def cell row.values block is.small indexes is.of_row keys shape noted new))
    where
      step : (owners : List Kind) (forests : TableForests) → StandsAround g shape old def owners forests block → IsOwnBlock shape owners def block → StepsTo g AfterClaims shape noted noted old new def block (Unlisted def block) (Unlisted def block) owners forests
      step owners forests st own = record { owners_now = owners; forests_now = forests; changes = changes_put noted owners forests st own; expects = λ unlisted. unlisted }

  -- or it met a full map
  pub full_begun : (noted notes_now : SpaceNotes) (now : S) → FillsListing g shape noted notes_now new now def cell.values block
      → (owners : List Kind) (forests : TableForests) → StandsAround g shape old def owners forests block → IsOwnBlock shape owners def block → AreRightNotes shape noted owners → MeetsNoFree g shape now
  full_begun noted notes_now now fills owners forests st own notes =
      let first = changes_put noted owners forests st own in
      full_listing def cell row.values block is.small indexes is.of_row keys shape noted notes_now new now owners forests fills first.stands notes

  -- both by what the listing answers
  pub fills_listed : (noted notes_now : SpaceNotes) (now : S) (result : Result (Unit {0}) SpaceFault)
      → OnOk result ((owners : List Kind) (trees : List Forest) → StandTrees g shape new owners (block_index_places def) trees → ListsBlock g shape noted notes_now now def cell.values block owners trees)
      → OnOk result ((owners : List Kind) (trees : List Forest) → StandTrees g shape new owners (block_index_places def) trees → GrowsPages g shape new now)
      → RunsOverPages g (IsSpaceOfTrees g shape new (block_index_places def)) (IsSpaceOfTrees g shape new (block_index_places def)) (BreaksListing g shape noted new def cell.values block) new now (store_fault_in store_part_of result)
      → OnOk result ((owners : List Kind) (forests : TableForests) → StandsAround g shape old def owners forests block → IsOwnBlock shape owners def block → FillsBegun g shape noted notes_now old now def block row owners forests)
  fills_listed noted notes_now now (Ok done) lists grows run = fills_begun noted notes_now now lists grows run
  fills_listed noted notes_now now (Err fault) lists grows run = tt

  pub full_listed : (noted notes_now : SpaceNotes) (now : S) (result : Result (Unit {0}) SpaceFault)
      → IfErr result (λ fault. IfFull fault (λ cap. (cap ≡ shape.extents) × FillsListing g shape noted notes_now new now def cell.values block))
      → IfErr result (λ fault. IfFull fault (λ cap. (cap ≡ shape.extents) × ((owners : List Kind) (forests : TableForests) → StandsAround g shape old def owners forests block → IsOwnBlock shape owners def block
      → AreRightNotes shape noted owners → MeetsNoFree g shape now)))
  full_listed noted notes_now now (Ok done) full = tt
  full_listed noted notes_now now (Err (Full cap)) full = (full.0, full_begun noted notes_now now full.1)
  full_listed noted notes_now now (Err (Store fault)) full = tt
