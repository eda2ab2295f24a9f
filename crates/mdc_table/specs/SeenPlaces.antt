-- What a call that looked for the row in a place has seen, whatever the pages hold.
use Rattle.std.specs.Prelude.{◌≡◌, ◌≢◌, ◌≤◌, ◌⊎◌, ℕ, Bool, true, false, List, Option, Some, None, length}
use Rattle.mdc_values.specs.declared.rid.Rid.{Rid}
use Rattle.mdc_ast.specs.declared.definition.TableDef.{TableDef}
use Rattle.mdc_ast.specs.declared.row.Row.{Row}
use Rattle.store_api.specs.declared.pages.Pages.{Ghosts}
use Rattle.store_api.specs.declared.shape.Shape.{Shape}
use Rattle.entry_tree.specs.Forest.{Forest}
use Rattle.block_map.specs.BlockMaps.{FindsBlock}
use Rattle.block_map.specs.declared.row.BlockRow.{BlockRow}
use Rattle.block_map.specs.declared.state.BlockState.TheVariants.{Used}
use Rattle.block_rows.specs.ListedSlots.{HasSeenSlots, rows_in_slots}
use Rattle.table_trees.specs.TableTrees.{map_place}
use Rattle.table_trees.specs.ToldPages.{PageList}
use Rattle.table_trees.specs.TreesBeside.{HoldsTreeAt}
use Rattle.mdc_sound.specs.Placing.{block_slot_count}
use Rattle.mdc_sound.specs.StandingTable.{pages_of}
use Rattle.mdc_sound.specs.TableRows.{rows_in_block}
use Rattle.table_blocks.specs.SeenSlots.{IsUsedInMap, SeesUsedSlot}

-- no row of a block map, or that of a block which isn't Used
abbrev pub IsUnusedRow : Option BlockRow → Type 0
IsUnusedRow None = Unit {0}
IsUnusedRow (Some row) = row.state ≢ Used

-- of any such tree it was found that it doesn't name the block, or has it in another state
pub record IsSeenUnused {S : Type 0} (g : Ghosts S) (s : S) (def : TableDef) (block : ℕ) : Type 0 where
  pub found : Option BlockRow
  pub finds : (t : Forest) → HoldsTreeAt g s (map_place def) t → FindsBlock t block found
  pub unused : IsUnusedRow found

-- there is no such extent, or no such slot
abbrev pub IsNoPlace : Shape → TableDef → Rid → Type 0
IsNoPlace shape def rid = (shape.extents ≤ rid.block) ⊎ (block_slot_count shape def ≤ rid.slot)

-- A row was seen in a slot of a Used block. Where none was found, such a slot was seen empty, or the block isn't Used, or there is no
-- such place.
abbrev pub SeesPlace : {S : Type 0} → Ghosts S → Shape → S → TableDef → Rid → Option Row → Type 0
SeesPlace g shape s def rid None = SeesUsedSlot g shape s def rid None ⊎ (IsSeenUnused g s def rid.block ⊎ IsNoPlace shape def rid)
SeesPlace g shape s def rid (Some row) = SeesUsedSlot g shape s def rid (Some row)

-- The pages in which some slots of a block lie were seen, and each of the slots has a row.
pub record HasSeenFilled (shape : Shape) (pages : PageList) (def : TableDef) (block : ℕ) (slots : List ℕ) : Type 0 where
  pub seen : HasSeenSlots shape pages def block slots
  pub filled : length (rows_in_slots slots (rows_in_block shape pages def block)) ≡ length slots

-- Some slots of a Used block were seen so, or the block isn't Used, or there is no such extent.
abbrev pub SeesSlots : {S : Type 0} → Ghosts S → Shape → S → TableDef → ℕ → List ℕ → Type 0
SeesSlots g shape s def block slots = (IsUsedInMap g s def block × HasSeenFilled shape (pages_of g s) def block slots) ⊎ (IsSeenUnused g s def block ⊎ (shape.extents ≤ block))

-- The same by the answer whether the block is a Used one.
abbrev pub SeesSlotsSo : {S : Type 0} → Ghosts S → Shape → S → TableDef → ℕ → List ℕ → Bool → Type 0
SeesSlotsSo g shape s def block slots true = IsUsedInMap g s def block × HasSeenFilled shape (pages_of g s) def block slots
SeesSlotsSo g shape s def block slots false = IsSeenUnused g s def block ⊎ (shape.extents ≤ block)
