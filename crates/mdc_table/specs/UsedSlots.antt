-- The rows in some slots of a block that may be Used: which pages are looked at for them, and what is damage.
use Rattle.std.specs.Prelude.{◌≡◌, ◌<◌, ◌≤◌, ◌⊎◌, ℕ, Bool, true, false, List, None, Some, Contains, length, slice_get}
use Rattle.mdc_ast.specs.declared.definition.IndexDef.{IndexDef}
use Rattle.mdc_ast.specs.declared.definition.TableDef.{TableDef}
use Rattle.store_api.specs.Extents.{first_page_of}
use Rattle.store_api.specs.declared.fault.StoreFault.{StoreFault}
use Rattle.store_api.specs.declared.fault.StoreFault.TheVariants.{Damaged}
use Rattle.store_api.specs.declared.pages.Pages.{Ghosts}
use Rattle.store_api.specs.declared.shape.Shape.{Shape}
use Rattle.extent_map.specs.declared.kind.Kind.{Kind}
use Rattle.block_map.specs.MapLines.{used_blocks}
use Rattle.block_rows.specs.ListedSlots.{IsPageOfSlots, rows_in_slots}
use Rattle.table_trees.specs.TableTrees.{map_place}
use Rattle.table_trees.specs.TreesBeside.{IsTreePageAt}
use Rattle.mdc_sound.specs.StandingTable.{StandsTable, TableForests, pages_of}
use Rattle.mdc_sound.specs.TableRows.{rows_in_block}
use Rattle.table_blocks.specs.SeenSlots.{IsUsedInMap}
use Rattle.mdc_table.specs.SeenPlaces.{IsSeenUnused}

-- ---- the pages that are looked at

-- a page in which one of some slots lies, of a block that is Used, where the table was told to stand
abbrev pub IsPageOfUsedSlots : {S : Type 0} → Ghosts S → Shape → S → TableDef → ℕ → List ℕ → ℕ → Type 0
IsPageOfUsedSlots g shape s def block slots p =
    (owners : List Kind) (forests : TableForests) → StandsTable g shape s def owners forests → Contains (used_blocks forests.map) block × IsPageOfSlots shape def block slots p

-- a page of the block map, or such a page
abbrev pub IsSlotsPage : {S : Type 0} → Ghosts S → Shape → S → TableDef → ℕ → List ℕ → ℕ → Type 0
IsSlotsPage g shape s def block slots p = IsTreePageAt g s (map_place def) p ⊎ IsPageOfUsedSlots g shape s def block slots p

-- ---- what is expected

-- where a block is Used each of some slots has a row
abbrev pub HasRowsInSlots : {S : Type 0} → Ghosts S → Shape → S → TableDef → ℕ → List ℕ → List Kind → TableForests → Type 0
HasRowsInSlots g shape s def block slots owners forests = Contains (used_blocks forests.map) block → length (rows_in_slots slots (rows_in_block shape (pages_of g s) def block)) ≡ length slots

-- the block is Used, and each of some slots has a row
pub record HasFilledSlots {S : Type 0} (g : Ghosts S) (shape : Shape) (s : S) (def : TableDef) (block : ℕ) (slots : List ℕ) (owners : List Kind) (forests : TableForests) : Type 0 where
  pub used : Contains (used_blocks forests.map) block
  pub filled : length (rows_in_slots slots (rows_in_block shape (pages_of g s) def block)) ≡ length slots

-- ---- midway

-- the block map has the block, which is an extent, as a Used one; or it was seen that it hasn't, or there is no such extent
abbrev pub SeesUse : {S : Type 0} → Ghosts S → Shape → S → TableDef → ℕ → Bool → Type 0
SeesUse g shape s def block true = IsUsedInMap g s def block × (block < shape.extents)
SeesUse g shape s def block false = IsSeenUnused g s def block ⊎ (shape.extents ≤ block)

-- the damage of a slot that is listed and has no row: rule 11 at the first record index of the table, or rule 8 at the block, if there is no such index
pub data NamesLackingRow (shape : Shape) (def : TableDef) (block : ℕ) (fault : StoreFault) : Type 0 where
  of_index : (which : IndexDef) → slice_get def.indexes 0 ≡ Some which → fault ≡ Damaged (record { page = which.root; rule = 11 }) → NamesLackingRow shape def block fault
  of_block : slice_get def.indexes 0 ≡ None → fault ≡ Damaged (record { page = first_page_of shape.extents shape.extent_pages block; rule = 8 }) → NamesLackingRow shape def block fault
