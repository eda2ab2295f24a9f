-- What calls on one block of a table make of it, which pages they touch, and what they may name.
use Rattle.std.specs.Prelude.{◌≡◌, ◌≢◌, ◌<◌, ◌≤◌, ◌⊎◌, ℕ, List, length, sum_by, slice_set}
use Rattle.std.specs.List.{AllZip}
use Rattle.mdc_ast.specs.declared.definition.TableDef.{TableDef}
use Rattle.store_api.specs.declared.fault.Damage.{Damage}
use Rattle.store_api.specs.declared.pages.Pages.{Ghosts}
use Rattle.store_api.specs.declared.shape.Shape.{Shape}
use Rattle.extent_map.specs.Map.{IsMapPage, IsSpacePage}
use Rattle.extent_map.specs.Owners.{owner_of}
use Rattle.extent_map.specs.declared.kind.Kind.{Kind}
use Rattle.extent_map.specs.declared.space_notes.SpaceNotes.{SpaceNotes}
use Rattle.entry_tree.specs.Forest.{times}
use Rattle.entry_tree.specs.Standing.{IsIdlePage}
use Rattle.table_trees.specs.TableTrees.{tree_places}
use Rattle.table_trees.specs.TreesBeside.{ChangesTrees, GrowsPages}
use Rattle.mdc_sound.specs.Placing.{Spot, spot_of_kind}
use Rattle.mdc_sound.specs.StandingTable.{ChangesTable, IsPageOfBlock, NamesTablePart, StandsTable, TableForests, forests_in_order, pages_of, spots_of}
use Rattle.table_blocks.specs.AroundBlock.{StandsAround}
use Rattle.table_blocks.specs.BlockNow.{IsOwnBlock}

-- ---- spots

-- what an extent is to the table
abbrev pub spot_in : {S : Type 0} → Ghosts S → Shape → S → TableDef → List Kind → TableForests → ℕ → Spot
spot_in g shape s def owners forests e = spot_of_kind shape (pages_of g s) def forests.map e (owner_of owners e)

-- the same spot
abbrev pub SameSpot : Spot → Spot → Type 0
SameSpot a b = a ≡ b

-- a relation of spots that one call after another keeps
pub record IsSpotChange (After : Spot → Spot → Type 0) : Type 0 where
  pub stays : (a : Spot) → After a a
  pub goes_on : (a b c : Spot) → After a b → After b c → After a c

-- ---- midway

-- Calls changed one block, and the trees of its table but for its record indexes: all else stands, and other extents are as they
-- were but for what trees took or gave back.
pub record ChangesAround {S : Type 0} (g : Ghosts S) (After : Spot → Spot → Type 0) (shape : Shape) (before noted : SpaceNotes) (old new : S) (def : TableDef) (block : ℕ)
    (owners : List Kind) (forests : TableForests) (owners_now : List Kind) (forests_now : TableForests) : Type 0 where
  pub stands : StandsAround g shape new def owners_now forests_now block
  pub trees : ChangesTrees g shape before noted new (tree_places def) owners (forests_in_order forests) owners_now (forests_in_order forests_now)
  pub records : forests_now.indexes ≡ forests.indexes
  pub spots : (e : ℕ) → e ≢ block → After (spot_in g shape old def owners forests e) (spot_in g shape new def owners_now forests_now e)
  pub longer : length (pages_of g old) ≤ length (pages_of g new)
  pub grows : GrowsPages g shape old new

-- The pages that they may change and bring to hand: those of the table's trees and of the block, those of the extent map with
-- page 0, and idle ones; where the table stood but for the block.
abbrev pub IsSpaceAround : {S : Type 0} → Ghosts S → Shape → S → TableDef → ℕ → ℕ → Type 0
IsSpaceAround g shape s def block p =
    (owners : List Kind) (forests : TableForests) → StandsAround g shape s def owners forests block → IsOwnBlock shape owners def block
    → 0 < sum_by (times p) (forests_in_order forests) ⊎ (IsPageOfBlock shape block p ⊎ (IsSpacePage shape p ⊎ IsIdlePage shape owners p))

-- the same of calls that claim nothing
abbrev pub IsPlaceAround : {S : Type 0} → Ghosts S → Shape → S → TableDef → ℕ → ℕ → Type 0
IsPlaceAround g shape s def block p =
    (owners : List Kind) (forests : TableForests) → StandsAround g shape s def owners forests block → IsOwnBlock shape owners def block
    → 0 < sum_by (times p) (forests_in_order forests) ⊎ (IsPageOfBlock shape block p ⊎ IsMapPage shape p)

-- the pages that a call on the trees of a table may change and bring to hand where it claims nothing: those of the trees and of the
-- extent map, where the table was told to stand
abbrev pub IsTreeOrMapPageOfTable : {S : Type 0} → Ghosts S → Shape → S → TableDef → ℕ → Type 0
IsTreeOrMapPageOfTable g shape s def p =
    (owners : List Kind) (forests : TableForests) → StandsTable g shape s def owners forests
    → 0 < sum_by (times p) (forests_in_order forests) ⊎ IsMapPage shape p

-- What they may name: a part of the table, where it wasn't told to stand but for the block, which was as the call expects it.
pub record BreaksAround {S : Type 0} (g : Ghosts S) (shape : Shape) (s : S) (def : TableDef) (block : ℕ) (Expected : List Kind → TableForests → Type 0) (damage : Damage) : Type 0 where
  pub names : NamesTablePart shape def damage
  pub broken : (owners : List Kind) (forests : TableForests) → StandsAround g shape s def owners forests block → IsOwnBlock shape owners def block → Expected owners forests → ⊥

-- ---- afterwards

-- A table that stood stands again, with one block another spot. Other extents are as they were but for what trees took or gave
-- back, and the record indexes have the trees that they had.
pub record TurnsSpot {S : Type 0} (g : Ghosts S) (After : Spot → Spot → Type 0) (shape : Shape) (before noted : SpaceNotes) (old new : S) (def : TableDef) (block : ℕ) (spot : Spot)
    (owners : List Kind) (forests : TableForests) (owners_now : List Kind) (forests_now : TableForests) : Type 0 where
  pub changes : ChangesTable g shape before noted old new def owners forests owners_now forests_now
  pub records : forests_now.indexes ≡ forests.indexes
  pub spots : AllZip After (slice_set (spots_of g shape old def owners forests) block spot) (spots_of g shape new def owners_now forests_now)
