-- The rows of a block whose pages are row pages, as calls on blocks read them.
use Rattle.std.proofs.Common.{◌≡◌, ◌<◌, ◌≤◌, ◌+◌, ◌-◌, ℕ, List, [], Option, refl, ap, sym, subst, ◌∙◌, arith, inl, inr, length}
use Rattle.std.proofs.lemmas.Bool.{cases_lt}
use Rattle.std.proofs.lemmas.List.{get_or_past}
use Rattle.mdc_ast.specs.declared.definition.ColumnDef.{ColumnDef}
use Rattle.mdc_ast.specs.declared.definition.TableDef.{TableDef}
use Rattle.mdc_ast.specs.declared.row.Row.{Row}
use Rattle.store_api.specs.Extents.{first_page_of}
use Rattle.store_api.specs.StoreState.{page_at}
use Rattle.store_api.specs.declared.fault.Damage.{Damage}
use Rattle.store_api.specs.declared.pages.Pages.{Ghosts}
use Rattle.store_api.specs.declared.shape.Shape.{Shape}
use Rattle.extent_map.specs.Owners.{place_in_extent}
use Rattle.extent_map.proofs.ExtentsLemmas.{extent_limits, page_of-parts, place_below}
use Rattle.row_page.specs.RowPage.{IsRowPage, row_page_head, rows_of}
use Rattle.table_trees.specs.ToldPages.{PageList}
use Rattle.block_rows.specs.HeldRows.{BreaksRows}
use Rattle.file_check.specs.Known.{BlockHasRowPages}
use Rattle.file_check.specs.Looking.{Unless}

-- no bytes are no row page
pub no_bytes_no_rows : (columns : List ColumnDef) (slots : List (Option Row)) → IsRowPage columns [] slots → ⊥
unfolding row_page_head
no_bytes_no_rows columns slots is = let e = is.head in cc

-- a row page is there
pub row_page_there : (pages : PageList) (columns : List ColumnDef) (p : ℕ) → IsRowPage columns (page_at pages p) (rows_of columns (page_at pages p)) → p < length pages
row_page_there pages columns p is = elim (cases_lt p (length pages)) [
  | inl low ↦ low
  | inr past ↦ absurd (no_bytes_no_rows columns (rows_of columns [])
      (subst (λ (bytes : List ℕ). IsRowPage columns bytes (rows_of columns bytes)) (get_or_past pages p [] past) is))
]

-- so is the last page of a block of row pages
pub block_there : (shape : Shape) (pages : PageList) (def : TableDef) (block : ℕ) → BlockHasRowPages shape pages def block → first_page_of shape.extents shape.extent_pages (block + 1) ≤ length pages
block_there shape pages def block has =
    let n = shape.extent_pages in
    let some = (extent_limits shape).0 in
    let last : first_page_of shape.extents n block + (n - 1) < length pages = row_page_there pages def.columns (first_page_of shape.extents n block + (n - 1)) (has (n - 1) (omega (arith, some))) in
    omega (arith, some, last)

module _ {S : Type 0} {g : Ghosts S} where
  -- no call finds a block of row pages broken
  pub reading_breaks_none : (shape : Shape) (s : S) (def : TableDef) (block : ℕ) (damage : Damage) → BreaksRows g shape s def block damage → Unless g s (λ pages. BlockHasRowPages shape pages def block) damage
  reading_breaks_none shape s def block damage (inl b) told has =
      let there = block_there shape (g.state s).work def block has in
      omega (arith, there, b.past)
  reading_breaks_none shape s def block damage (inr b) told has =
      let p = damage.page in
      let at : first_page_of shape.extents shape.extent_pages block + place_in_extent shape p ≡ p =
      ap (λ e. first_page_of shape.extents shape.extent_pages e + place_in_extent shape p) (sym b.page.1) ∙ page_of-parts shape p b.page.0 in
      let is : IsRowPage def.columns (page_at (g.state s).work p) (rows_of def.columns (page_at (g.state s).work p)) =
      subst (λ (q : ℕ). IsRowPage def.columns (page_at (g.state s).work q) (rows_of def.columns (page_at (g.state s).work q))) at
      (has (place_in_extent shape p) (place_below shape p)) in
      b.no_rows (page_at (g.state s).work p) (record { is_told = told; within = row_page_there (g.state s).work def.columns p is; bytes_are = refl }) is
