-- One page of a block: the slots that it is told to have, and what calls on it say.
use Rattle.std.specs.Prelude.{◌≡◌, ℕ, List, Option, Some, None, slice_set}
use Rattle.mdc_ast.specs.declared.definition.ColumnDef.{ColumnDef}
use Rattle.mdc_ast.specs.declared.row.Row.{Row}
use Rattle.store_api.specs.Frame.{HoldsPage}
use Rattle.store_api.specs.declared.fault.Damage.{Damage}
use Rattle.store_api.specs.declared.fault.StoreFault.{StoreFault}
use Rattle.store_api.specs.declared.fault.StoreFault.TheVariants.{Device, Damaged, Memory}
use Rattle.store_api.specs.declared.pages.Pages.{Ghosts}
use Rattle.row_page.specs.RowPage.{IsRowPage}
use Rattle.mdc_sound.specs.Placing.{HoldsNowhere, IsEmptySlot, IsLowestAt}

-- page p is told to be a row page of these columns with these slots
pub record HoldsRowPage {S : Type 0} (g : Ghosts S) (columns : List ColumnDef) (s : S) (p : ℕ) (slots : List (Option Row)) : Type 0 where
  pub bytes : List ℕ
  pub page : HoldsPage g s p bytes
  pub has : IsRowPage columns bytes slots

-- rule 7: these bytes of page p aren't a row page of these columns
pub record RefusesBytes (columns : List ColumnDef) (bytes : List ℕ) (p : ℕ) (damage : Damage) : Type 0 where
  pub page : damage.page ≡ p
  pub rule : damage.rule ≡ 7
  pub no_rows : (slots : List (Option Row)) → IsRowPage columns bytes slots → ⊥

-- what a call on the bytes of page p may fail by: they aren't a row page, or memory ran out
abbrev pub IsFaultOfBytes : List ColumnDef → List ℕ → ℕ → StoreFault → Type 0
IsFaultOfBytes columns bytes p Device = ⊥
IsFaultOfBytes columns bytes p (Damaged damage) = RefusesBytes columns bytes p damage
IsFaultOfBytes columns bytes p Memory = Unit {0}

-- the same of a page of the store: it isn't told to be a row page of these columns
pub record RefusesPage {S : Type 0} (g : Ghosts S) (columns : List ColumnDef) (s : S) (p : ℕ) (damage : Damage) : Type 0 where
  pub page : damage.page ≡ p
  pub rule : damage.rule ≡ 7
  pub no_rows : (slots : List (Option Row)) → HoldsRowPage g columns s p slots → ⊥

-- the lowest empty slot, or none is empty
abbrev pub IsLowestEmpty : List (Option Row) → Option ℕ → Type 0
IsLowestEmpty slots None = HoldsNowhere IsEmptySlot slots
IsLowestEmpty slots (Some slot) = IsLowestAt IsEmptySlot slots slot None

-- the page has a row in its lowest empty slot now; or none was empty, and nothing changed
abbrev pub PutsInPage : {S : Type 0} → Ghosts S → List ColumnDef → S → S → ℕ → Row → List (Option Row) → Option ℕ → Type 0
PutsInPage g columns old new p row slots None = HoldsNowhere IsEmptySlot slots × ((g.state new).work ≡ (g.state old).work)
PutsInPage g columns old new p row slots (Some slot) =
    IsLowestAt IsEmptySlot slots slot None × HoldsRowPage g columns new p (slice_set slots slot (Some row))
