-- Rows in the slots of a page that fit, or don't.
use Rattle.std.proofs.Common.{◌≡◌, ◌<◌, ◌+◌, ℕ, Bool, true, false, List, Option, Some, None, cond, subst, ◌∙◌, below_more, inr}
use Rattle.mdc_ast.specs.declared.definition.TableDef.{TableDef}
use Rattle.mdc_ast.specs.declared.row.Row.{Row}
use Rattle.row_page.specs.RowPage.{is_slot_filled, slot_bytes, slot_row}
use Rattle.row_page.specs.Row.{row_in}
use Rattle.mdc_ast.specs.FittingRows.{RowFits}
use Rattle.file_check.specs.BlocksJudged.{HasRowForm, JudgesPage, JudgesRows}

-- the row of a slot is the one that is stored in it
pub slot_empty : (filled : Bool) (stored row : Row) → filled ≡ false → cond filled (Some stored) None ≡ Some row → ⊥
slot_empty false stored row e is = cc
slot_empty true stored row e is = cc

pub slot_stored : (filled : Bool) (stored row : Row) → cond filled (Some stored) None ≡ Some row → stored ≡ row
slot_stored true stored row is = cc
slot_stored false stored row is = cc

module _ (def : TableDef) (bytes : List ℕ) (n : ℕ) (so_far : (slot : ℕ) (row : Row) → slot < n → slot_row def.columns bytes slot ≡ Some row → RowFits def row) where
  fits_more : ((row : Row) → slot_row def.columns bytes n ≡ Some row → RowFits def row) → (slot : ℕ) (row : Row) → slot < n + 1 → slot_row def.columns bytes slot ≡ Some row → RowFits def row
  fits_more here slot row low is =
      below_more (λ k. (r : Row) → slot_row def.columns bytes k ≡ Some r → RowFits def r) n (λ k less r at. so_far k r less at) here slot low row is

  -- one slot more that is empty
  pub fits_empty : is_slot_filled bytes n ≡ false → (slot : ℕ) (row : Row) → slot < n + 1 → slot_row def.columns bytes slot ≡ Some row → RowFits def row
  fits_empty empty = fits_more (λ row is. absurd (slot_empty (is_slot_filled bytes n) (row_in def.columns (slot_bytes def.columns bytes n)) row empty is))

  -- and one with a row that fits
  pub fits_filled : (found : Row) → found ≡ row_in def.columns (slot_bytes def.columns bytes n) → RowFits def found
      → (slot : ℕ) (row : Row) → slot < n + 1 → slot_row def.columns bytes slot ≡ Some row → RowFits def row
  fits_filled found stored fits =
      fits_more (λ row is. subst (RowFits def) (stored ∙ slot_stored (is_slot_filled bytes n) (row_in def.columns (slot_bytes def.columns bytes n)) row is) fits)

-- a page is judged by its form and its rows
pub judges_page : (def : TableDef) (bytes : List ℕ) (fit : Bool) → HasRowForm def bytes → JudgesRows def bytes fit → JudgesPage def bytes fit
judges_page def bytes true form rows = record { form = form; rows = rows }
judges_page def bytes false form misfit = inr misfit

-- one page is at hand
pub one_at_hand : (hand : Option (List ℕ)) (a b : List ℕ) → hand ≡ Some a → hand ≡ Some b → a ≡ b
one_at_hand hand a b e f = cc
