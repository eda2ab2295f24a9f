-- A place among some that rise, found by halving.
use Rattle.std.proofs.Common.{◌≡◌, ◌<◌, ◌≤◌, ◌⊎◌, ℕ, zero, suc, List, [], ◌∷◌, refl, ap, arith, sym, ◌∙◌, subst, length, get_or, inl, inr, Result, Ok, Err}
use Rattle.std.specs.Prelude.{◌↔◌, Contains, IsTrue}
use Rattle.std.specs.Cmp.{ranks}
use Rattle.std.specs.List.Sorted.{IsBinarySearchResult, IsPartitionPoint, IsSearchInRange}
use Rattle.std.specs.Ordering.{MatchOrdering, nat_cmp, ordering_index, ordering_then}
use Rattle.std.specs.declared.cmp.Ordering.{Ordering}
use Rattle.std.specs.declared.cmp.Ordering.TheVariants.{Less, Equal, Greater}
use Rattle.std.specs.Result.{is_ok}
use Rattle.std.proofs.lemmas.Bool.{cases_lt, false≢true}
use Rattle.mdc_values.specs.Rising.{IsEarlier, IsRising}
use Rattle.mdc_values.specs.declared.rid.Rid.{Rid}

-- ---- order

-- how a place stands to another: by block, and in a block by slot
abbrev pub rid_order : Rid → Rid → Ordering
rid_order a b = ordering_then (nat_cmp a.block b.block) (nat_cmp a.slot b.slot)

pub earlier_still : (a b c : Rid) → IsEarlier a b → IsEarlier b c → IsEarlier a c
earlier_still a b c (inl p) (inl q) = inl (omega (arith, p, q))
earlier_still a b c (inl p) (inr q) = inl (omega (arith, p, q.0))
earlier_still a b c (inr p) (inl q) = inl (omega (arith, p.0, q))
earlier_still a b c (inr p) (inr q) = inr (p.0 ∙ q.0, omega (arith, p.1, q.1))

none_itself : (a : Rid) → IsEarlier a a → ⊥
none_itself a (inl p) = omega (arith, p)
none_itself a (inr p) = omega (arith, p.1)

-- what the order of two places says
ordered : (a b : Rid) → MatchOrdering (rid_order a b) (IsEarlier a b) (a ≡ b) (IsEarlier b a)
ordered a b = go (nat_cmp a.block b.block) (nat_cmp a.slot b.slot) (ranks a.block b.block) (ranks a.slot b.slot)
  where
    go : (o p : Ordering) → MatchOrdering o (a.block < b.block) (a.block ≡ b.block) (b.block < a.block) → MatchOrdering p (a.slot < b.slot) (a.slot ≡ b.slot) (b.slot < a.slot)
        → MatchOrdering (ordering_then o p) (IsEarlier a b) (a ≡ b) (IsEarlier b a)
    go Less p m n = inl m
    go Greater p m n = inl m
    go Equal Less m n = inr (m, n)
    go Equal Equal m n = ap (λ k. record { block = k; slot = a.slot }) m ∙ ap (λ k. record { block = b.block; slot = k }) n
    go Equal Greater m n = inr (sym m, n)

-- it rises along places that do
higher : (a b rid : Rid) → IsEarlier a b → ordering_index (rid_order a rid) ≤ ordering_index (rid_order b rid)
higher a b rid less = go (rid_order a rid) (rid_order b rid) (ordered a rid) (ordered b rid)
  where
    go : (o p : Ordering) → MatchOrdering o (IsEarlier a rid) (a ≡ rid) (IsEarlier rid a) → MatchOrdering p (IsEarlier b rid) (b ≡ rid) (IsEarlier rid b) → ordering_index o ≤ ordering_index p
    go Less p m n = omega arith
    go Equal Less m n = absurd (none_itself a (subst (IsEarlier a) (sym m) (earlier_still a b rid less n)))
    go Equal Equal m n = omega arith
    go Equal Greater m n = omega arith
    go Greater Less m n = absurd (none_itself a (earlier_still a b a less (earlier_still b rid a n m)))
    go Greater Equal m n = absurd (none_itself a (earlier_still a b a less (subst (λ r. IsEarlier r a) (sym n) m)))
    go Greater Greater m n = omega arith

-- a place of a rising list is no later than one behind it
no_later : (xs : List Rid) → IsRising IsEarlier xs → (i j : ℕ) (d : Rid) → i ≤ j → j < length xs → (get_or xs i d ≡ get_or xs j d) ⊎ IsEarlier (get_or xs i d) (get_or xs j d)
no_later [] rises i j d le lt = absurd (omega (arith, lt))
no_later (x ∷ xs) rises (suc i) zero d le lt = absurd (omega (arith, le))
no_later (x ∷ xs) rises zero zero d le lt = inl refl
no_later (x ∷ []) rises i (suc j) d le lt = absurd (omega (arith, lt))
no_later (x ∷ y ∷ xs) rises zero (suc j) d le lt = elim (no_later (y ∷ xs) rises.1 0 j d (omega arith) (omega (arith, lt))) [
  | inl same ↦ inr (subst (IsEarlier x) same rises.0)
  | inr less ↦ inr (earlier_still x y (get_or (y ∷ xs) j d) rises.0 less)
]
no_later (x ∷ y ∷ xs) rises (suc i) (suc j) d le lt = no_later (y ∷ xs) rises.1 i j d (omega (arith, le)) (omega (arith, lt))

-- ---- the search

met : (o : Ordering) (a b : Rid) → rid_order a b ≡ o → MatchOrdering o (IsEarlier a b) (a ≡ b) (IsEarlier b a)
met o a b is = subst (λ (p : Ordering). MatchOrdering p (IsEarlier a b) (a ≡ b) (IsEarlier b a)) is (ordered a b)

module _ (rids : List Rid) (rid : Rid) (rises : IsRising IsEarlier rids) where
  index_rises : (i j : ℕ) (d : Rid) → i ≤ j → j < length rids → ordering_index (rid_order (get_or rids i d) rid) ≤ ordering_index (rid_order (get_or rids j d) rid)
  index_rises i j d le lt = elim (no_later rids rises i j d le lt) [
    | inl same ↦ omega (arith, ap (λ r. ordering_index (rid_order r rid)) same)
    | inr less ↦ higher (get_or rids i d) (get_or rids j d) rid less
  ]

  pub found_among : (r : Result ℕ ℕ) → IsSearchInRange r (length rids) → IsBinarySearchResult (λ other. rid_order other rid) rids r → IsTrue (is_ok r) ↔ Contains rids rid
  found_among (Ok i) within at = (λ yes. (i, within, met Equal (get_or rids i rid) rid (at rid)), λ there. refl)
  found_among (Err i) within parted = (λ yes. absurd (false≢true yes), λ there. absurd (not_there there))
    where
      halves : IsPartitionPoint (λ other. rid_order other rid ≡ Less) (λ other. rid_order other rid ≡ Greater) rids i
      halves = parted index_rises

      not_there : Contains rids rid → ⊥
      not_there (k, low, at) = elim (cases_lt k i) [
        | inl under ↦ none_itself rid (subst (λ r. IsEarlier r rid) at (met Less (get_or rids k rid) rid (halves.0 k rid (omega arith) under)))
        | inr over ↦ none_itself rid (subst (IsEarlier rid) at (met Greater (get_or rids k rid) rid (halves.1 k rid over low)))
      ]
