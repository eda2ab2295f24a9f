-- Which blocks are chosen of those that the composite index lists.
use Rattle.std.specs.Prelude.{◌≡◌, ◌↔◌, ◌<◌, ℕ, true, List, length, map, filter, Contains, Some, slice_index_or}
use Rattle.mdc_values.specs.Rising.{IsLower, IsRising}
use Rattle.mdc_ast.specs.declared.definition.TableDef.{TableDef}
use Rattle.mdc_ast.specs.declared.predicate.Pred.{Pred}
use Rattle.mdc_ast.specs.declared.row.Cell.{Cell}
use Rattle.block_index.specs.declared.listed_cells.CellBlock.{CellBlock}
use Rattle.cell_filter.specs.Cells.{may_hold}
use Rattle.mdc_table.specs.declared.listed.ListedBlock.{ListedBlock}
use Rattle.table_scan.specs.declared.choosing.ChosenEntry.{ChosenEntry}

-- the blocks that are listed under a cell in which the predicate may hold
abbrev pub blocks_that_may : TableDef → Pred → List CellBlock → List ℕ
blocks_that_may def pred listed = map (λ one. one.block) (filter (λ one. may_hold def one.cell pred) listed)

-- the same numbers are in both lists
abbrev pub HaveSameMembers : List ℕ → List ℕ → Type 0
HaveSameMembers xs ys = (x : ℕ) → Contains xs x ↔ Contains ys x

-- These blocks rise, and are those that are listed under a cell in which the predicate may hold.
pub record ChoosesBlocks (def : TableDef) (pred : Pred) (listed : List CellBlock) (blocks : List ℕ) : Type 0 where
  pub rising : IsRising IsLower blocks
  pub same : HaveSameMembers (blocks_that_may def pred listed) blocks

-- the blocks of entries that were chosen
abbrev pub blocks_chosen : List ChosenEntry → List ℕ
blocks_chosen chosen = map (λ one. one.block) chosen

-- an entry in its place lists this block, under a cell in which the predicate may hold
pub record IsChoiceOf (def : TableDef) (pred : Pred) (listed : List CellBlock) (chosen : ChosenEntry) : Type 0 where
  pub there : chosen.at < length listed
  pub is_its : (d : CellBlock) → (slice_index_or listed chosen.at d).block ≡ chosen.block
  pub may : (d : CellBlock) → may_hold def (slice_index_or listed chosen.at d).cell pred ≡ true

-- a block is listed so by one of these entries: under its cell, in which the predicate may hold
pub record IsOfEntry (def : TableDef) (pred : Pred) (listed : List CellBlock) (one : ListedBlock) : Type 0 where
  pub cell : Cell
  pub cell_is : one.cell ≡ Some cell
  pub there : Contains listed (record { cell = cell; block = one.block })
  pub may : may_hold def cell pred ≡ true
