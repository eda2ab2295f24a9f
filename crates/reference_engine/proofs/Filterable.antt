-- Rows on which a predicate may be judged.
use Rattle.std.proofs.Common.{◌≡◌, ◌<◌, ℕ, List, ◌∷◌, ◌∙◌, sym, length, drop, get_or, drop-cons}
use Rattle.std.specs.Prelude.{Option, IsTrue}
use Rattle.mdc_ast.specs.declared.predicate.Pred.{Pred}
use Rattle.mdc_ast.specs.declared.row.Row.{Row}
use Rattle.row_filter.specs.Filtering.{may_filter}
use Rattle.row_checks.specs.Filtering.{are_filterable}
use Rattle.row_checks.proofs.Each.{list_all-at}

heads : {X : Type 0} (x y : X) (xs ys : List X) → x ∷ xs ≡ y ∷ ys → x ≡ y
heads x y xs ys e = cc

-- lists that are the same from a place on have the same element there
same_from : {X : Type 0} (xs ys : List X) (i : ℕ) (d : X) → drop i ys ≡ drop i xs → i < length xs → i < length ys → get_or ys i d ≡ get_or xs i d
same_from xs ys i d e lt within = heads _ _ _ _ (sym (drop-cons ys i d within) ∙ e ∙ drop-cons xs i d lt)

-- a row that stands where it stood
pub filterable-at : (pred : Option Pred) (rows now : List Row) (i : ℕ) (row : Row) → drop i now ≡ drop i rows → i < length rows → i < length now → row ≡ get_or now i row → IsTrue (are_filterable pred rows) → IsTrue (may_filter pred row.values)
filterable-at pred rows now i row rest lt within is h =
    list_all-at (λ row. may_filter pred row.values) rows i row lt (is ∙ same_from rows now i row rest lt within) h
