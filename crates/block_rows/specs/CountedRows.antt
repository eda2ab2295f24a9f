-- The pages of a block that are read until so many rows were met, and the rows on them.
use Rattle.std.specs.Prelude.{◌≡◌, ◌≤◌, ◌<◌, ◌+◌, ◌*◌, ℕ, IsTrue, List, length, nat_lt, take}
use Rattle.std.specs.List.{AllByRecursion, prefix_len, range_with_len}
use Rattle.mdc_ast.specs.declared.definition.TableDef.{TableDef}
use Rattle.store_api.specs.Extents.{first_page_of}
use Rattle.store_api.specs.declared.pages.Pages.{Ghosts}
use Rattle.store_api.specs.declared.shape.Shape.{Shape}
use Rattle.row_page.specs.RowPage.{slot_count}
use Rattle.table_trees.specs.ToldPages.{PageList}
use Rattle.mdc_sound.specs.StandingTable.{IsPageOfBlock, pages_of}
use Rattle.mdc_sound.specs.TableRows.{PlacedRow, block_page, block_slots, rows_from_slot}
use Rattle.block_rows.specs.HeldRows.{HasReadValues}
use Rattle.block_rows.specs.SeenRows.{IsSeenPage}

-- the rows on the first pages of a block, by rising slot
abbrev pub rows_on_pages : Shape → PageList → TableDef → ℕ → ℕ → List PlacedRow
rows_on_pages shape pages def block n = rows_from_slot block 0 (take (n * slot_count def.columns) (block_slots shape pages def block))

-- how many pages are read until so many rows were met: from the first on, each one before which fewer lie
abbrev pub counted_pages : Shape → PageList → TableDef → ℕ → ℕ → ℕ
counted_pages shape pages def block rows = prefix_len (λ j. nat_lt (length (rows_on_pages shape pages def block j)) rows) (range_with_len 0 shape.extent_pages)

-- the rows on these pages
abbrev pub counted_rows : Shape → PageList → TableDef → ℕ → ℕ → List PlacedRow
counted_rows shape pages def block rows = rows_on_pages shape pages def block (counted_pages shape pages def block rows)

-- The block's pages are there, and each of those that are read until so many rows were met begins as a row page and has as many rows
-- as its head says. So many rows were met, and have a key in each column.
pub record HasSeenCounted (shape : Shape) (pages : PageList) (def : TableDef) (block rows count : ℕ) : Type 0 where
  pub there : first_page_of shape.extents shape.extent_pages (block + 1) ≤ length pages
  pub forms : (j : ℕ) → j < counted_pages shape pages def block rows → IsSeenPage def.columns (block_page shape pages block j)
  pub counted : count ≡ length (counted_rows shape pages def block rows)
  pub read : AllByRecursion (λ placed. HasReadValues def.columns placed.row) (counted_rows shape pages def block rows)

-- A page of a block. Where the pages are told, fewer rows than so many lie on those before it.
pub record IsCountedPage {S : Type 0} (g : Ghosts S) (shape : Shape) (s : S) (def : TableDef) (block rows p : ℕ) : Type 0 where
  pub of_block : IsPageOfBlock shape block p
  pub few : IsTrue (g.state s).is_told → (j : ℕ) → p ≡ first_page_of shape.extents shape.extent_pages block + j → length (rows_on_pages shape (pages_of g s) def block j) < rows
