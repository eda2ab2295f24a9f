-- What a scan has seen of a table, whatever its pages hold: the blocks that its trees list, and the rows in them.
use Rattle.std.specs.Prelude.{◌≡◌, ◌≤◌, ℕ, true, List, map, flat_map, Option, Some, None, Contains, IsPermutation, AllPairs}
use Rattle.std.specs.List.{AllByRecursion}
use Rattle.mdc_values.specs.Rising.{IsLower, IsRising}
use Rattle.mdc_ast.specs.declared.definition.TableDef.{TableDef}
use Rattle.mdc_ast.specs.declared.predicate.Pred.{Pred}
use Rattle.mdc_ast.specs.declared.row.Cell.{Cell}
use Rattle.store_api.specs.declared.pages.Pages.{Ghosts}
use Rattle.store_api.specs.declared.shape.Shape.{Shape}
use Rattle.extent_map.specs.declared.kind.Kind.{Kind}
use Rattle.entry_tree.specs.Forest.{Forest, leaf_entries}
use Rattle.block_map.specs.MapLines.{map_lines, used_blocks}
use Rattle.block_map.specs.declared.row.BlockRow.{BlockRow}
use Rattle.block_index.specs.ListedCells.{AreCellEntries}
use Rattle.block_index.specs.declared.listed_cells.CellBlock.{CellBlock}
use Rattle.block_rows.specs.Giving.{WasGiven}
use Rattle.block_rows.specs.HeldRows.{placed_row, qualifying}
use Rattle.block_rows.specs.declared.hit.Hit.{Hit}
use Rattle.block_rows.specs.declared.row_sink.RowSink
use Rattle.cell_filter.specs.Cells.{may_hold}
use Rattle.table_trees.specs.TableTrees.{composite_place, map_place}
use Rattle.table_trees.specs.TreesBeside.{HoldsTreeAt}
use Rattle.mdc_sound.specs.StandingTable.{TableForests, pages_of}
use Rattle.mdc_sound.specs.TableRows.{PlacedRow, rows_in_block}
use Rattle.mdc_table.specs.SeenBlocks.{HasSeenBlock, IsListedSo, used_line_of}
use Rattle.mdc_table.specs.declared.listed.ListedBlock.{ListedBlock}
use Rattle.table_scan.specs.Choices.{ChoosesBlocks}

-- ---- blocks that are listed

-- their numbers
abbrev pub blocks_listed : List ListedBlock → List ℕ
blocks_listed listed = map (λ one. one.block) listed

-- a Used block with what its line in the block map says, without a cell
abbrev pub listed_line : BlockRow → ListedBlock
listed_line line = record { block = line.block; rows = line.rows; cell = None }

-- each is as the trees of a table that stands list it
abbrev pub AreListedSo : {S : Type 0} → Ghosts S → Shape → S → TableDef → List Kind → TableForests → List ListedBlock → Type 0
AreListedSo g shape s def owners forests listed = AllByRecursion (λ one. IsListedSo g shape s def one owners forests) listed

-- the block is listed under a cell in which a predicate may hold; without one it may be any block, and no cell is given
abbrev pub HasCellThatMay : TableDef → Option Pred → ListedBlock → Type 0
HasCellThatMay def None one = one.cell ≡ None
HasCellThatMay def (Some pred) one = (cell : Cell) × (one.cell ≡ Some cell) × (may_hold def cell pred ≡ true)

-- these are all Used blocks of the block map, or all that the composite index lists under a cell in which a predicate may hold
abbrev pub AreAllChosen : {S : Type 0} → Ghosts S → S → TableDef → Option Pred → List ListedBlock → Type 0
AreAllChosen g s def None listed = (t : Forest) → HoldsTreeAt g s (map_place def) t → blocks_listed listed ≡ used_blocks t
AreAllChosen g s def (Some pred) listed =
    (t : Forest) → HoldsTreeAt g s (composite_place def) t → (all : List CellBlock) → AreCellEntries def (leaf_entries t) all → ChoosesBlocks def pred all (blocks_listed listed)

-- each that was found under a cell is listed under it by the composite index
abbrev pub IsListedAs : List CellBlock → ListedBlock → Type 0
IsListedAs all one = (cell : Cell) → one.cell ≡ Some cell → Contains all (record { cell = cell; block = one.block })

abbrev pub AreListedAs : {S : Type 0} → Ghosts S → S → TableDef → List ListedBlock → Type 0
AreListedAs g s def listed =
    (t : Forest) → HoldsTreeAt g s (composite_place def) t → (all : List CellBlock) → AreCellEntries def (leaf_entries t) all → AllByRecursion (IsListedAs all) listed

-- These blocks rise. They are all that the trees list for a predicate, each under such a cell, and the block map has the line of each.
pub record ListsBlocks {S : Type 0} (g : Ghosts S) (s : S) (def : TableDef) (pred : Option Pred) (listed : List ListedBlock) : Type 0 where
  pub rising : IsRising IsLower (blocks_listed listed)
  pub whole : AreAllChosen g s def pred listed
  pub lines : (t : Forest) → HoldsTreeAt g s (map_place def) t → AllByRecursion (λ one. Contains (map_lines t) (used_line_of one)) listed
  pub cells : AllByRecursion (HasCellThatMay def pred) listed
  pub entries : AreListedAs g s def listed

-- ---- rows

-- A scan went over all blocks that the trees list for its predicate, and has seen of each that it is as they list it. These are
-- exactly the rows in these blocks that qualify.
pub record HasSeenBlocks {S : Type 0} (g : Ghosts S) (shape : Shape) (s : S) (def : TableDef) (pred : Option Pred) (rows : List PlacedRow) : Type 0 where
  pub listed : List ListedBlock
  pub lists : ListsBlocks g s def pred listed
  pub seen : AllByRecursion (HasSeenBlock shape (pages_of g s) def) listed
  pub rows_are : rows ≡ qualifying pred (flat_map (rows_in_block shape (pages_of g s) def) (blocks_listed listed))

-- a scan has seen blocks so, and its sink was given these rows
pub record HasScanned {K : Type 0} (sinks : RowSink.Ghosts K) (sink_old sink_new : K) {S : Type 0} (g : Ghosts S) (shape : Shape) (s : S) (def : TableDef) (pred : Option Pred) : Type 0 where
  pub rows : List PlacedRow
  pub seen : HasSeenBlocks g shape s def pred rows
  pub given : WasGiven sinks sink_old sink_new rows

-- a scan has seen blocks so, and found these rows, by row number
pub record HasSeenTable {S : Type 0} (g : Ghosts S) (shape : Shape) (s : S) (def : TableDef) (pred : Option Pred) (hits : List Hit) : Type 0 where
  pub rows : List PlacedRow
  pub seen : HasSeenBlocks g shape s def pred rows
  pub found : IsPermutation rows (map placed_row hits)
  pub in_order : AllPairs (λ a b. a.row.number ≤ b.row.number) hits
