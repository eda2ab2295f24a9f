-- Pages that aren't there, or aren't what they should be.
use Rattle.std.proofs.Common.{◌≡◌, ◌≢◌, ◌<◌, ◌≤◌, ◌+◌, ℕ, List, [], length, ap, sym, subst, ◌∙◌, arith}
use Rattle.std.proofs.lemmas.List.{get_or_past, length-replicate}
use Rattle.std.specs.Prelude.{Option, Some}
use Rattle.mdc_ast.specs.declared.definition.ColumnDef.{ColumnDef}
use Rattle.mdc_ast.specs.declared.row.Row.{Row}
use Rattle.store_api.specs.StoreState.{page_at, zero_page}
use Rattle.store_api.specs.declared.shape.Shape.{Shape}
use Rattle.row_page.specs.RowPage.{IsRowPage, row_page_head}
use Rattle.table_page.specs.TablePage.{table_page}
use Rattle.table_page.specs.PageAnswers.{IsNoTablePage}
use Rattle.table_trees.specs.ToldPages.{PageList}
use Rattle.mdc_sound.specs.Breaks.{BreaksRule}

-- behind the last page there are no bytes
pub page_at-past : (pages : PageList) (p : ℕ) → length pages ≤ p → page_at pages p ≡ []
page_at-past pages p past = get_or_past pages p [] past

-- no bytes are no page of zeros, no table page and no row page
pub no_bytes_no_zeros : [] ≢ zero_page
unfolding zero_page
no_bytes_no_zeros e = omega (arith, ap length e, length-replicate {A = ℕ} 4096 0)

pub no_bytes_no_table : (t : ℕ) → IsNoTablePage t []
unfolding table_page
no_bytes_no_table t def is = let e = is.printed in cc

pub no_bytes_no_rows : (columns : List ColumnDef) (slots : List (Option Row)) → IsRowPage columns [] slots → ⊥
unfolding row_page_head
no_bytes_no_rows columns slots is = let e = is.head in cc

-- a table page that has neither zeros alone nor a definition breaks rule 3
pub breaks_table : (shape : Shape) (pages : PageList) (t p : ℕ) (page : List ℕ) → t < 16 → p ≡ 1 + t → page ≡ page_at pages p → page ≢ zero_page → IsNoTablePage t page → BreaksRule shape pages 3 p
breaks_table shape pages t p page low at is blank none =
    let there : page_at pages (1 + t) ≡ page = ap (page_at pages) (sym at) ∙ sym is in
    subst (BreaksRule shape pages 3) (sym at)
    (BreaksRule.table t low (λ e. blank (sym there ∙ e)) (λ def defines. none def (record { limits = defines.limits; printed = sym there ∙ defines.printed })))

-- one page is at hand
pub one_at_hand : (hand : Option (List ℕ)) (a b : List ℕ) → hand ≡ Some a → hand ≡ Some b → a ≡ b
one_at_hand hand a b e f = cc
