-- Lists without the element in a place.
use Rattle.std.proofs.Common.{◌≡◌, ◌<◌, ◌+◌, ◌∙◌, ℕ, zero, suc, List, [], ◌∷◌, ◌++◌, Some, false, length, map, sum_by, refl, ap, arith, subst, sym}
use Rattle.std.specs.Prelude.{remove, slice_get, slice_index_or}
use Rattle.std.specs.List.{AllByRecursion, AllZip}
use Rattle.std.proofs.lemmas.List.Sums.{sum_by-cons}
use Rattle.std.proofs.lemmas.Option.{same_Some}
use Rattle.mdc_ast.specs.declared.name.Name.{Name}
use Rattle.mdc_ast.specs.Definitions.{AllNamesDiffer, is_among, is_same}
use Rattle.mdc_ast.proofs.DefinitionsLemmas.{neither}

remove-nil : {X : Type 0} (n : ℕ) → remove {X = X} [] n ≡ []
remove-nil zero = refl
remove-nil (suc n) = refl

pub map-remove : {X Y : Type 0} (f : X → Y) (xs : List X) (n : ℕ) → map f (remove xs n) ≡ remove (map f xs) n
map-remove {X} {Y} f [] n = ap (map f) (remove-nil {X = X} n) ∙ sym (remove-nil {X = Y} n)
map-remove f (x ∷ xs) zero = refl
map-remove f (x ∷ xs) (suc n) = ap (λ ys. f x ∷ ys) (map-remove f xs n)

pub each-remove : {X : Type 0} (P : X → Type 0) (xs : List X) (n : ℕ) → AllByRecursion P xs → AllByRecursion P (remove xs n)
each-remove P [] n all = subst (AllByRecursion P) (sym (remove-nil n)) tt
each-remove P (x ∷ xs) zero all = all.1
each-remove P (x ∷ xs) (suc n) all = (all.0, each-remove P xs n all.1)

pub pairs-remove : {A B : Type 0} (R : A → B → Type 0) (xs : List A) (ys : List B) (n : ℕ) → AllZip R xs ys → AllZip R (remove xs n) (remove ys n)
pairs-remove {A} {B} R [] [] n all = subst (λ xs. AllZip R xs (remove {X = B} [] n)) (sym (remove-nil {X = A} n)) (subst (AllZip R []) (sym (remove-nil {X = B} n)) tt)
pairs-remove R [] (y ∷ ys) n all = absurd all
pairs-remove R (x ∷ xs) [] n all = absurd all
pairs-remove R (x ∷ xs) (y ∷ ys) zero all = all.1
pairs-remove R (x ∷ xs) (y ∷ ys) (suc n) all = (all.0, pairs-remove R xs ys n all.1)

pub sum-remove : {X : Type 0} (f : X → ℕ) (xs : List X) (n : ℕ) (x : X) → slice_get xs n ≡ Some x → sum_by f (remove xs n) + f x ≡ sum_by f xs
sum-remove f [] n x at = absurd cc
sum-remove f (y ∷ xs) zero x at = omega (arith, ap f (same_Some y x at), sum_by-cons f y xs)
sum-remove f (y ∷ xs) (suc n) x at = omega (arith, sum-remove f xs n x at, sum_by-cons f y xs, sum_by-cons f y (remove xs n))

pub remove-behind : {X : Type 0} (xs ys : List X) (m n : ℕ) → m ≡ length xs + n → remove (xs ++ ys) m ≡ xs ++ remove ys n
remove-behind [] ys m n is = let same : m ≡ n = omega (arith, is) in ap (remove ys) same
remove-behind (x ∷ xs) ys zero n is = absurd (omega (arith, is))
remove-behind (x ∷ xs) ys (suc m) n is = ap (λ zs. x ∷ zs) (remove-behind xs ys m n (omega (arith, is)))

pub at-behind : {X : Type 0} (xs ys : List X) (m n : ℕ) (y : X) → m ≡ length xs + n → slice_get ys n ≡ Some y → slice_get (xs ++ ys) m ≡ Some y
at-behind [] ys m n y is at = let same : m ≡ n = omega (arith, is) in ap (slice_get ys) same ∙ at
at-behind (x ∷ xs) ys zero n y is at = absurd (omega (arith, is))
at-behind (x ∷ xs) ys (suc m) n y is at = at-behind xs ys m n y (omega (arith, is)) at

pub at-index : {X : Type 0} (xs : List X) (n : ℕ) (d x : X) → slice_get xs n ≡ Some x → slice_index_or xs n d ≡ x
at-index [] n d x at = absurd cc
at-index (y ∷ xs) zero d x at = same_Some y x at
at-index (y ∷ xs) (suc n) d x at = at-index xs n d x at

pub there-at : {X : Type 0} (xs : List X) (n : ℕ) → n < length xs → (x : X) × (slice_get xs n ≡ Some x)
there-at [] n low = absurd (omega (arith, low))
there-at (x ∷ xs) zero low = (x, refl)
there-at (x ∷ xs) (suc n) low = there-at xs n (omega (arith, low))

-- names that differ still do
among-remove : (name : Name) (names : List Name) (n : ℕ) → is_among name names ≡ false → is_among name (remove names n) ≡ false
among-remove name [] n none = ap (is_among name) (remove-nil n)
among-remove name (other ∷ names) zero none = (neither (is_same name other) (is_among name names) none).1
among-remove name (other ∷ names) (suc n) none =
    let both : (is_same name other ≡ false) × (is_among name names ≡ false) = neither (is_same name other) (is_among name names) none in
    rw both.0 (among-remove name names n both.1)

pub differ-remove : (names : List Name) (n : ℕ) → AllNamesDiffer names → AllNamesDiffer (remove names n)
differ-remove [] n all = subst AllNamesDiffer (sym (remove-nil n)) tt
differ-remove (name ∷ names) zero all = all.1
differ-remove (name ∷ names) (suc n) all = (among-remove name names n all.0, differ-remove names n all.1)
