-- The rows that a block is told to hold: the slots of its pages, one page behind the other (docs/FORMAT.md, "Rows").
use Rattle.std.specs.Prelude.{◌≡◌, ◌⊎◌, ◌≤◌, ◌<◌, ◌+◌, ℕ, Bool, IsTrue, List, length, Option, Some, None, Contains, is_some, slice_index_or, slice_set}
use Rattle.std.specs.List.{All, filter}
use Rattle.mdc_values.specs.declared.rid.Rid.{Rid}
use Rattle.mdc_ast.specs.Truth.{value_at, qualifies}
use Rattle.mdc_ast.specs.declared.definition.ColumnDef.{ColumnDef}
use Rattle.mdc_ast.specs.declared.definition.TableDef.{TableDef}
use Rattle.mdc_ast.specs.declared.predicate.Pred.{Pred}
use Rattle.mdc_ast.specs.declared.row.Row.{Row}
use Rattle.store_api.specs.Extents.{first_page_of}
use Rattle.store_api.specs.Frame.{HoldsPage}
use Rattle.store_api.specs.declared.fault.Damage.{Damage}
use Rattle.store_api.specs.declared.pages.Pages.{Ghosts}
use Rattle.store_api.specs.declared.shape.Shape.{Shape}
use Rattle.extent_map.specs.Map.{map_page_of}
use Rattle.key_codec.specs.Keys.{has_key, type_of_column}
use Rattle.row_page.specs.RowPage.{IsRowPage, rows_of}
use Rattle.mdc_sound.specs.BlockRules.{IsBlockPageSound}
use Rattle.mdc_sound.specs.Placing.{IsEmptySlot, IsLowestAt}
use Rattle.mdc_sound.specs.StandingTable.{IsPageOfBlock, pages_of}
use Rattle.mdc_sound.specs.TableRows.{PlacedRow, block_slots}
use Rattle.block_rows.specs.declared.hit.Hit.{Hit}

-- the pages of a block are told to be row pages with these slots
pub record HoldsRows {S : Type 0} (g : Ghosts S) (shape : Shape) (s : S) (def : TableDef) (block : ℕ) (slots : List (Option Row)) : Type 0 where
  pub told : IsTrue (g.state s).is_told
  pub there : first_page_of shape.extents shape.extent_pages (block + 1) ≤ length (pages_of g s)
  pub forms : (j : ℕ) → j < shape.extent_pages → IsBlockPageSound shape (pages_of g s) def block j
  pub slots_are : block_slots shape (pages_of g s) def block ≡ slots

-- a row and its place, as a call gives them
abbrev pub placed_row : Hit → PlacedRow
placed_row hit = record { rid = hit.rid; row = hit.row }

-- those of these rows for whose values a predicate is true, or all if there is none
abbrev pub qualifying : Option Pred → List PlacedRow → List PlacedRow
qualifying pred rows = filter (λ placed. qualifies pred placed.row.values) rows

-- a row that was read from bytes has a value in each column, with a key in it
pub record HasReadValues (columns : List ColumnDef) (row : Row) : Type 0 where
  pub each : (place : ℕ) → place < length columns → (place < length row.values) × IsTrue (has_key (type_of_column columns place) (value_at row.values place))

-- so has each row that was found
abbrev pub HaveReadValues : List ColumnDef → List Hit → Type 0
HaveReadValues columns = All (λ hit. HasReadValues columns hit.row)

-- The row went into the lowest empty slot of the block; or none was empty, and nothing changed.
abbrev pub PutsFirst : {S : Type 0} → Ghosts S → Shape → S → S → TableDef → ℕ → Row → List (Option Row) → Option ℕ → Type 0
PutsFirst g shape old new def block row slots None = (Contains slots None → ⊥) × (pages_of g new ≡ pages_of g old)
PutsFirst g shape old new def block row slots (Some slot) =
    IsLowestAt IsEmptySlot slots slot None × HoldsRows g shape new def block (slice_set slots slot (Some row))

-- whether there is a row in a slot
abbrev pub IsFilledSlot : List (Option Row) → ℕ → Bool → Type 0
IsFilledSlot slots slot filled = filled ≡ is_some (slice_index_or slots slot None)

-- the slot is empty, and whether there was a row in it
pub record ClearsSlot {S : Type 0} (g : Ghosts S) (shape : Shape) (new : S) (def : TableDef) (rid : Rid) (slots : List (Option Row)) (filled : Bool) : Type 0 where
  pub was : IsFilledSlot slots rid.slot filled
  pub held : HoldsRows g shape new def rid.block (slice_set slots rid.slot None)

-- rule 2: the extent lies past the pages that there are
pub record BreaksExtent {S : Type 0} (g : Ghosts S) (shape : Shape) (s : S) (block : ℕ) (damage : Damage) : Type 0 where
  pub page : damage.page ≡ map_page_of block
  pub rule : damage.rule ≡ 2
  pub past : length (pages_of g s) < first_page_of shape.extents shape.extent_pages (block + 1)

-- rule 7: a page of the block isn't told to be a row page
pub record BreaksRowPage {S : Type 0} (g : Ghosts S) (shape : Shape) (s : S) (def : TableDef) (block : ℕ) (damage : Damage) : Type 0 where
  pub page : IsPageOfBlock shape block damage.page
  pub rule : damage.rule ≡ 7
  pub no_rows : (bytes : List ℕ) → HoldsPage g s damage.page bytes → IsRowPage def.columns bytes (rows_of def.columns bytes) → ⊥

-- what a call on the rows of a block may name
abbrev pub BreaksRows : {S : Type 0} → Ghosts S → Shape → S → TableDef → ℕ → Damage → Type 0
BreaksRows g shape s def block damage = BreaksExtent g shape s block damage ⊎ BreaksRowPage g shape s def block damage
