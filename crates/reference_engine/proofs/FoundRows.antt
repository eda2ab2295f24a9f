-- The rows that qualify among the first of a list.
use Rattle.std.proofs.Common.{◌≡◌, ◌+◌, ◌<◌, ◌≤◌, ℕ, List, [], ◌∷◌, ◌++◌, ◌∙◌, refl, sym, ap, length, take, get_or, true, false, arith, length-append}
use Rattle.std.specs.Prelude.{Bool, filter, not}
use Rattle.std.proofs.lemmas.List.{append-nil, length-take-le, take_more}
use Rattle.std.proofs.lemmas.List.Elements.{filter-append}
use Rattle.std.proofs.lemmas.List.Filters.{length-filter_both}
use Rattle.mdc_ast.specs.declared.row.Row.{Row}

filter_more : {X : Type 0} (test : X → Bool) (xs : List X) (x : X) → test x ≡ true → filter test (xs ++ x ∷ []) ≡ filter test xs ++ x ∷ []
filter_more test xs x e =
    let one : filter test (x ∷ []) ≡ x ∷ [] = rw e refl in
    filter-append test xs (x ∷ []) ∙ ap (λ l. filter test xs ++ l) one

filter_same : {X : Type 0} (test : X → Bool) (xs : List X) (x : X) → test x ≡ false → filter test (xs ++ x ∷ []) ≡ filter test xs
filter_same test xs x e =
    let none : filter test (x ∷ []) ≡ [] = rw e refl in
    filter-append test xs (x ∷ []) ∙ ap (λ l. filter test xs ++ l) none ∙ append-nil (filter test xs)

-- one more that passes
pub filter_take-more : {X : Type 0} (test : X → Bool) (xs : List X) (i : ℕ) (x : X) → i < length xs → x ≡ get_or xs i x → test x ≡ true → filter test (take (i + 1) xs) ≡ filter test (take i xs) ++ x ∷ []
filter_take-more test xs i x lt is e = ap (filter test) (take_more xs i x lt ∙ ap (λ y. take i xs ++ y ∷ []) (sym is)) ∙ filter_more test (take i xs) x e

-- one more that doesn't
pub filter_take-same : {X : Type 0} (test : X → Bool) (xs : List X) (i : ℕ) (x : X) → i < length xs → x ≡ get_or xs i x → test x ≡ false → filter test (take (i + 1) xs) ≡ filter test (take i xs)
filter_take-same test xs i x lt is e = ap (filter test) (take_more xs i x lt ∙ ap (λ y. take i xs ++ y ∷ []) (sym is)) ∙ filter_same test (take i xs) x e

-- ---- how many there are

pub count_more : (test : Row → Bool) (rows : List Row) (i : ℕ) (row : Row) (count : ℕ) → i < length rows → row ≡ get_or rows i row → test row ≡ true → count ≡ length (filter test (take i rows)) → count + 1 ≡ length (filter test (take (i + 1) rows))
count_more test rows i row count lt is e so_far =
    omega (arith, ap length (filter_take-more test rows i row lt is e), length-append (filter test (take i rows)) (row ∷ []))

pub count_same : (test : Row → Bool) (rows : List Row) (i : ℕ) (row : Row) (count : ℕ) → i < length rows → row ≡ get_or rows i row → test row ≡ false → count ≡ length (filter test (take i rows)) → count ≡ length (filter test (take (i + 1) rows))
count_same test rows i row count lt is e so_far = so_far ∙ ap length (sym (filter_take-same test rows i row lt is e))

-- no more than were looked at
pub count_below : (test : Row → Bool) (rows : List Row) (i count : ℕ) → i ≤ length rows → count ≡ length (filter test (take i rows)) → count ≤ i
count_below test rows i count within so_far =
    omega (arith, length-filter_both test (λ row. not (test row)) (λ row. refl) (take i rows), length-take-le i rows within)
