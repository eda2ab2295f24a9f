-- Which pages a call on a row touches where the row's block may be known to be Used, so that the block map isn't asked of it.
use Rattle.std.specs.Prelude.{◌≡◌, ◌<◌, ◌⊎◌, ℕ, List, Option, Some, sum_by}
use Rattle.mdc_ast.specs.declared.definition.TableDef.{TableDef}
use Rattle.store_api.specs.declared.pages.Pages.{Ghosts}
use Rattle.store_api.specs.declared.shape.Shape.{Shape}
use Rattle.extent_map.specs.Map.{IsMapPage, IsSpacePage}
use Rattle.extent_map.specs.declared.kind.Kind.{Kind}
use Rattle.entry_tree.specs.Forest.{times}
use Rattle.entry_tree.specs.Standing.{IsIdlePage}
use Rattle.mdc_sound.specs.StandingTable.{IsBlockPageOf, StandsTable, TableForests, forests_in_order}
use Rattle.mdc_table.specs.TableReading.{HasUsedBlock}

-- where the block is the known one, the table has it as a Used one
abbrev pub IsUsedIfKnown : Option ℕ → ℕ → List Kind → TableForests → Type 0
IsUsedIfKnown known block owners forests = known ≡ Some block → HasUsedBlock block owners forests

-- the pages of a table and of the extent map, where the table was told to stand and is as a call expects it
abbrev pub IsExpectedPlace : {S : Type 0} → Ghosts S → Shape → S → TableDef → (List Kind → TableForests → Type 0) → ℕ → Type 0
IsExpectedPlace g shape s def Expected p =
    (owners : List Kind) (forests : TableForests) → StandsTable g shape s def owners forests → Expected owners forests
    → 0 < sum_by (times p) (forests_in_order forests) ⊎ (IsBlockPageOf shape owners def.number p ⊎ IsMapPage shape p)

-- the same of a call that may claim pages
abbrev pub IsExpectedSpace : {S : Type 0} → Ghosts S → Shape → S → TableDef → (List Kind → TableForests → Type 0) → ℕ → Type 0
IsExpectedSpace g shape s def Expected p =
    (owners : List Kind) (forests : TableForests) → StandsTable g shape s def owners forests → Expected owners forests
    → 0 < sum_by (times p) (forests_in_order forests) ⊎ (IsBlockPageOf shape owners def.number p ⊎ (IsSpacePage shape p ⊎ IsIdlePage shape owners p))
