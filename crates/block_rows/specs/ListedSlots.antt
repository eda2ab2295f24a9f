-- The rows in some slots of a block, and the pages in which these slots lie.
use Rattle.std.specs.Prelude.{◌≡◌, ◌≤◌, ◌<◌, ◌+◌, ◌/◌, ◌==◌, ℕ, List, Option, filter, length, Contains}
use Rattle.std.specs.List.{AllByRecursion, list_any}
use Rattle.mdc_values.specs.Rising.{IsLower, IsRising}
use Rattle.mdc_ast.specs.declared.definition.ColumnDef.{ColumnDef}
use Rattle.mdc_ast.specs.declared.definition.TableDef.{TableDef}
use Rattle.mdc_ast.specs.declared.predicate.Pred.{Pred}
use Rattle.store_api.specs.Extents.{first_page_of}
use Rattle.store_api.specs.declared.shape.Shape.{Shape}
use Rattle.row_page.specs.RowPage.{StartsAsRowPage, rows_of, slot_count}
use Rattle.table_trees.specs.ToldPages.{PageList}
use Rattle.mdc_sound.specs.Placing.{block_slot_count}
use Rattle.mdc_sound.specs.TableRows.{PlacedRow, block_page, rows_from_slot}
use Rattle.block_rows.specs.Giving.{WasGiven}
use Rattle.block_rows.specs.HeldRows.{qualifying}
use Rattle.block_rows.specs.declared.row_sink.RowSink.{Ghosts}

-- those of some rows that lie in one of these slots
abbrev pub rows_in_slots : List ℕ → List PlacedRow → List PlacedRow
rows_in_slots slots rows = filter (λ placed. list_any (λ slot. slot == placed.rid.slot) slots) rows

-- a page of a block in which one of these slots lies
pub record IsPageOfSlots (shape : Shape) (def : TableDef) (block : ℕ) (slots : List ℕ) (p : ℕ) : Type 0 where
  pub slot : ℕ
  pub there : Contains slots slot
  pub below : slot < block_slot_count shape def
  pub page : p ≡ first_page_of shape.extents shape.extent_pages block + slot / slot_count def.columns

-- The pages of a block are there, and each one in which one of these slots lies begins as a row page does.
pub record HasSeenSlots (shape : Shape) (pages : PageList) (def : TableDef) (block : ℕ) (slots : List ℕ) : Type 0 where
  pub there : first_page_of shape.extents shape.extent_pages (block + 1) ≤ length pages
  pub starts : (slot : ℕ) → Contains slots slot → slot < block_slot_count shape def → StartsAsRowPage def.columns (block_page shape pages block (slot / slot_count def.columns))

-- ---- midway

-- rising slots, which lie in a page that begins with one of them and has so many
pub record AreOnPage (first count : ℕ) (slots : List ℕ) : Type 0 where
  pub rise : IsRising IsLower slots
  pub behind : AllByRecursion (λ slot. first ≤ slot) slots
  pub before : AllByRecursion (λ slot. slot < first + count) slots

-- Where some slots are listed the page begins as a row page does. A sink was given its rows in them that qualify, and how many of them
-- have a row is known.
pub record SeesSlotsOfPage {K : Type 0} (sinks : Ghosts K) (columns : List ColumnDef) (page : List ℕ) (block first : ℕ) (slots : List ℕ) (pred : Option Pred) (old new : K) (count : ℕ) : Type 0 where
  pub starts : 0 < length slots → StartsAsRowPage columns page
  pub given_rows : WasGiven sinks old new (qualifying pred (rows_in_slots slots (rows_from_slot block first (rows_of columns page))))
  pub counted : count ≡ length (rows_in_slots slots (rows_from_slot block first (rows_of columns page)))

-- this page, where some slots are listed
abbrev pub IsPageForSlots : List ℕ → ℕ → ℕ → Type 0
IsPageForSlots slots p q = (q ≡ p) × (0 < length slots)
