-- What the calls that read a table answer.
use Rattle.std.specs.Prelude.{◌≡◌, ◌⊎◌, ◌==◌, if◌then◌else◌, ℕ, List, [], Contains, length}
use Rattle.std.specs.List.{list_any}
use Rattle.mdc_ast.specs.declared.definition.TableDef.{TableDef}
use Rattle.store_api.specs.declared.pages.Pages.{Ghosts}
use Rattle.store_api.specs.declared.shape.Shape.{Shape}
use Rattle.extent_map.specs.declared.kind.Kind.{Kind}
use Rattle.entry_tree.specs.Forest.{Forest}
use Rattle.block_map.specs.MapLines.{free_blocks, pending_blocks, used_blocks}
use Rattle.table_trees.specs.TableTrees.{map_place}
use Rattle.table_trees.specs.TreesBeside.{IsTreePageAt}
use Rattle.table_trees.specs.ToldPages.{PageList}
use Rattle.mdc_sound.specs.StandingTable.{IsPageOfBlock, StandsTable, TableForests}
use Rattle.mdc_sound.specs.TableRows.{PlacedRow, rows_in_block}
use Rattle.mdc_table.specs.declared.account.Account.{Account}

-- the table has this Used block
pub record HasUsedBlock (block : ℕ) (owners : List Kind) (forests : TableForests) : Type 0 where
  pub used : Contains (used_blocks forests.map) block

-- how many blocks a block map names in each state
pub record CountsBlocks (map_tree : Forest) (account : Account) : Type 0 where
  pub used : account.used ≡ length (used_blocks map_tree)
  pub free : account.free ≡ length (free_blocks map_tree)
  pub pending : account.pending ≡ length (pending_blocks map_tree)

-- the pages that looking for the row of a place brings to hand: those of the block map, where it is a tree, and of the block
abbrev pub IsRowLook : {S : Type 0} → Ghosts S → Shape → S → TableDef → ℕ → ℕ → Type 0
IsRowLook g shape s def block p = IsTreePageAt g s (map_place def) p ⊎ IsPageOfBlock shape block p

-- the rows of a block that a block map has as a Used one, and none of another
abbrev pub rows_if_used : Shape → PageList → TableDef → Forest → ℕ → List PlacedRow
rows_if_used shape pages def map_tree block = if list_any (λ used. used == block) (used_blocks map_tree) then rows_in_block shape pages def block else []

-- a page of a block that is Used, where the table was told to stand
abbrev pub IsPageOfUsed : {S : Type 0} → Ghosts S → Shape → S → TableDef → ℕ → ℕ → Type 0
IsPageOfUsed g shape s def block p =
    (owners : List Kind) (forests : TableForests) → StandsTable g shape s def owners forests → Contains (used_blocks forests.map) block × IsPageOfBlock shape block p

-- a page of the block map, or of a block where that is Used
abbrev pub IsPartPage : {S : Type 0} → Ghosts S → Shape → S → TableDef → ℕ → ℕ → Type 0
IsPartPage g shape s def block p = IsTreePageAt g s (map_place def) p ⊎ IsPageOfUsed g shape s def block p
