-- Lists of trees and of their places, cut into parts.
use Rattle.std.proofs.Common.{◌≡◌, ◌+◌, ℕ, zero, suc, List, [], ◌∷◌, ◌++◌, length, set, take, drop, sum_by, refl, ap, arith, ◌∙◌, subst}
use Rattle.std.specs.Prelude.{Some, slice_get}
use Rattle.std.specs.List.{AllZip}
use Rattle.std.proofs.lemmas.List.Sums.{sum_by-append, sum_by-cons}
use Rattle.std.proofs.lemmas.Option.{same_Some}
use Rattle.entry_tree.specs.Forest.{Forest, times}

-- ---- pairs of lists, place by place

module _ {A B : Type 0} (R : A → B → Type 0) where
  pub AllZip-both : (xs more : List A) (ys rest : List B) → AllZip R xs ys → AllZip R more rest → AllZip R (xs ++ more) (ys ++ rest)
  AllZip-both [] more [] rest h k = k
  AllZip-both [] more (y ∷ ys) rest h k = absurd h
  AllZip-both (x ∷ xs) more [] rest h k = absurd h
  AllZip-both (x ∷ xs) more (y ∷ ys) rest h k = (h.0, AllZip-both xs more ys rest h.1 k)

  pub AllZip-front : (xs more : List A) (ys rest : List B) → length xs ≡ length ys → AllZip R (xs ++ more) (ys ++ rest) → AllZip R xs ys
  AllZip-front [] more [] rest e h = tt
  AllZip-front [] more (y ∷ ys) rest e h = absurd cc
  AllZip-front (x ∷ xs) more [] rest e h = absurd cc
  AllZip-front (x ∷ xs) more (y ∷ ys) rest e h = (h.0, AllZip-front xs more ys rest (omega (arith, e)) h.1)

  pub AllZip-back : (xs more : List A) (ys rest : List B) → length xs ≡ length ys → AllZip R (xs ++ more) (ys ++ rest) → AllZip R more rest
  AllZip-back [] more [] rest e h = h
  AllZip-back [] more (y ∷ ys) rest e h = absurd cc
  AllZip-back (x ∷ xs) more [] rest e h = absurd cc
  AllZip-back (x ∷ xs) more (y ∷ ys) rest e h = AllZip-back xs more ys rest (omega (arith, e)) h.1

  -- what stands beside an element
  pub beside_at : (xs : List A) (ys : List B) (i : ℕ) (x : A) → AllZip R xs ys → slice_get xs i ≡ Some x → (y : B) × (slice_get ys i ≡ Some y) × R x y
  beside_at [] ys i x h e = absurd cc
  beside_at (a ∷ xs) [] i x h e = absurd h
  beside_at (a ∷ xs) (b ∷ ys) zero x h e = (b, refl, subst (λ v. R v b) (same_Some a x e) h.0)
  beside_at (a ∷ xs) (b ∷ ys) (suc i) x h e = beside_at xs ys i x h.1 e

-- ---- a list, cut at a place

module _ {A : Type 0} where
  pub cut_at : (xs : List A) (i : ℕ) (x : A) → slice_get xs i ≡ Some x → xs ≡ take i xs ++ (x ∷ [] ++ drop (suc i) xs)
  cut_at [] i x e = absurd cc
  cut_at (a ∷ xs) zero x e = ap (λ v. v ∷ xs) (same_Some a x e)
  cut_at (a ∷ xs) (suc i) x e = ap (λ v. a ∷ v) (cut_at xs i x e)

  pub set_at_cut : (xs : List A) (i : ℕ) (x y : A) → slice_get xs i ≡ Some x → set xs i y ≡ take i xs ++ (y ∷ [] ++ drop (suc i) xs)
  set_at_cut [] i x y e = absurd cc
  set_at_cut (a ∷ xs) zero x y e = refl
  set_at_cut (a ∷ xs) (suc i) x y e = ap (λ v. a ∷ v) (set_at_cut xs i x y e)

pub same_cut : {A B : Type 0} (xs : List A) (ys : List B) (i : ℕ) (x : A) (y : B) → slice_get xs i ≡ Some x → slice_get ys i ≡ Some y → length (take i xs) ≡ length (take i ys)
same_cut [] ys i x y e f = absurd cc
same_cut (a ∷ xs) [] i x y e f = absurd cc
same_cut (a ∷ xs) (b ∷ ys) zero x y e f = refl
same_cut (a ∷ xs) (b ∷ ys) (suc i) x y e f = ap suc (same_cut xs ys i x y e f)

-- ---- how often a page stands in the parts

pub times-parts : (p : ℕ) (front mine back : List Forest) → sum_by (times p) (front ++ (mine ++ back)) ≡ sum_by (times p) front + (sum_by (times p) mine + sum_by (times p) back)
times-parts p front mine back = sum_by-append (times p) front (mine ++ back) ∙ ap (λ n. sum_by (times p) front + n) (sum_by-append (times p) mine back)

pub times-one : (p : ℕ) (t : Forest) → sum_by (times p) (t ∷ []) ≡ times p t
times-one p t = omega (arith, sum_by-cons (times p) t [])
