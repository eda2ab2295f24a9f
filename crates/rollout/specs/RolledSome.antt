-- What becomes of a table as some of its blocks are made Free.
use Rattle.std.specs.Prelude.{◌≡◌, ◌≢◌, ◌≤◌, ◌<◌, ◌*◌, ◌++◌, ℕ, List, [], ◌∷◌, AllPairs, Contains, IsPermutation, flat_map, length, slice_index_or, slice_set, sum_by}
use Rattle.mdc_ast.specs.declared.definition.TableDef.{TableDef}
use Rattle.store_api.specs.declared.pages.Pages.{Ghosts}
use Rattle.store_api.specs.declared.shape.Shape.{Shape}
use Rattle.extent_map.specs.Owners.{owner_of}
use Rattle.extent_map.specs.declared.kind.Kind.{Kind}
use Rattle.extent_map.specs.declared.space_notes.SpaceNotes.{SpaceNotes}
use Rattle.entry_tree.specs.Forest.{times}
use Rattle.table_trees.specs.TreesBeside.{table_of_block}
use Rattle.mdc_sound.specs.Placing.{Spot, SpotsAfterReturns, rows_in_spot}
use Rattle.mdc_sound.specs.Placing.Spot.{FreeBlock, OtherBlock}
use Rattle.mdc_sound.specs.StandingTable.{ChangesTable, TableForests, forests_in_order, pages_of, spots_of}
use Rattle.mdc_sound.specs.TableRows.{PlacedRow, rows_in_table}
use Rattle.rollout.specs.declared.rolling.RolledOut.{RolledOut}

-- the spots of these blocks are this one
abbrev pub turned : Spot → List ℕ → List Spot → List Spot
turned spot [] spots = spots
turned spot (block ∷ blocks) spots = turned spot blocks (slice_set spots block spot)

-- these blocks are Free
abbrev pub freed : List ℕ → List Spot → List Spot
freed = turned FreeBlock

-- the rows of blocks
abbrev pub rows_of : List Spot → List ℕ → List PlacedRow
rows_of spots blocks = flat_map (λ b. rows_in_spot b (slice_index_or spots b OtherBlock)) blocks

-- These blocks, each of which was the table's, are Free now, and trees may have given extents back. So many rows and blocks went. The
-- record indexes have the trees that they had.
pub record RollsSome {S : Type 0} (g : Ghosts S) (shape : Shape) (before noted : SpaceNotes) (old now : S) (def : TableDef) (blocks : List ℕ) (rolled : RolledOut) (owners : List Kind) (forests : TableForests) : Type 0 where
  pub owners_now : List Kind
  pub forests_now : TableForests
  pub changes : ChangesTable g shape before noted old now def owners forests owners_now forests_now
  pub owned : (e : ℕ) → table_of_block (owner_of owners_now e) ≡ table_of_block (owner_of owners e)
  pub pages : (p : ℕ) → 0 < sum_by (times p) (forests_in_order forests_now) → 0 < sum_by (times p) (forests_in_order forests)
  pub records : forests_now.indexes ≡ forests.indexes
  pub once : AllPairs (λ a b. a ≢ b) blocks
  pub within : (b : ℕ) → Contains blocks b → b < length (spots_of g shape old def owners forests)
  pub spots : SpotsAfterReturns (freed blocks (spots_of g shape old def owners forests)) (spots_of g shape now def owners_now forests_now)
  pub whole : IsPermutation (rows_of (spots_of g shape old def owners forests) blocks ++ rows_in_table shape (pages_of g now) def forests_now.map) (rows_in_table shape (pages_of g old) def forests.map)
  pub rows : rolled.rows ≡ length (rows_of (spots_of g shape old def owners forests) blocks)
  pub count : rolled.blocks ≡ length blocks
  pub few : length (rows_of (spots_of g shape old def owners forests) blocks) ≤ 65535 * length blocks
