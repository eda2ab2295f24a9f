-- Slots with one row, in the lowest.
use Rattle.std.proofs.Common.{◌≡◌, ◌<◌, ◌+◌, ℕ, zero, suc, refl, ap, arith, sym, ◌∙◌, subst}
use Rattle.std.specs.Prelude.{Contains, Some, None, cond, is_some, replicate, slice_set}
use Rattle.std.proofs.lemmas.List.Sums.{sum_by-cons}
use Rattle.std.proofs.lemmas.Option.{same_Some}
use Rattle.mdc_ast.specs.declared.definition.TableDef.{TableDef}
use Rattle.mdc_ast.specs.declared.row.Row.{Row}
use Rattle.row_page.specs.RowPage.{count_rows}
use Rattle.table_trees.specs.RowCells.{cell_values}
use Rattle.mdc_ast.specs.FittingRows.{RowFits}
use Rattle.table_blocks.specs.BlockNow.{AreOfCell}

none_there : (n : ℕ) (other : Row) → Contains (replicate n None) (Some other) → ⊥
none_there zero other (k, low, at) = omega (arith, low)
none_there (suc n) other (zero, low, at) = absurd cc
none_there (suc n) other (suc k, low, at) = none_there n other (k, omega (arith, low), at)

begun_only : (n : ℕ) (row other : Row) → Contains (slice_set (replicate n None) 0 (Some row)) (Some other) → other ≡ row
begun_only zero row other (k, low, at) = absurd (omega (arith, low))
begun_only (suc n) row other (zero, low, at) = sym (same_Some row other at)
begun_only (suc n) row other (suc k, low, at) = absurd (none_there n other (k, omega (arith, low), at))

count_none : (n : ℕ) → count_rows (replicate n None) ≡ 0
count_none zero = refl
count_none (suc n) = omega (arith, count_none n)

pub begun_count : (n : ℕ) (row : Row) → 0 < n → count_rows (slice_set (replicate n None) 0 (Some row)) ≡ 1
begun_count zero row some = absurd (omega arith)
begun_count (suc n) row some = sum_by-cons (λ slot. cond (is_some slot) 1 0) (Some row) (replicate n None) ∙ ap (λ k. 1 + k) (count_none n)

-- they are of the row's cell
pub begun_cell : (def : TableDef) (n : ℕ) (row : Row) → 0 < n → RowFits def row → AreOfCell def row.values (slice_set (replicate n None) 0 (Some row))
begun_cell def n row some fits = record {
  some = omega (arith, begun_count n row some);
  fit = λ other there. subst (RowFits def) (sym (begun_only n row other there)) fits;
  one_cell = λ other there. ap (λ (one : Row). cell_values def one.values) (begun_only n row other there);
}
