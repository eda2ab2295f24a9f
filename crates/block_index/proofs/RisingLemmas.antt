-- Sorted numbers, put into a rising list, each once.
use Rattle.std.proofs.Common.{◌≡◌, ◌<◌, ◌≤◌, ◌+◌, ◌-◌, ℕ, zero, suc, List, [], ◌∷◌, ◌++◌, ap, arith, sym, ◌∙◌, subst, add-one, get_or, length, take, inl, inr}
use Rattle.std.specs.Prelude.{◌↔◌, Contains, false}
use Rattle.std.specs.List.Sorted.{IsPermutation, IsSortedBy}
use Rattle.std.specs.Ordering.{is_lt, nat_cmp}
use Rattle.std.proofs.Math.Seq.{take-length, take-suc}
use Rattle.std.proofs.lemmas.Bool.Decides.{nat_tests}
use Rattle.std.proofs.lemmas.List.Sorted.{Contains-permutation, IsPermutation-sym}
use Rattle.std.proofs.lemmas.List.Elements.{Contains-append_cases, Contains-append_left, Contains-append_right, Contains-push}
use Rattle.mdc_values.specs.Rising.{IsLower, LastIsBefore}

-- the numbers don't fall
abbrev pub AreSorted : List ℕ → Type 0
AreSorted numbers = (k : ℕ) → k + 1 < length numbers → get_or numbers k 0 ≤ get_or numbers (k + 1) 0

-- so it is where none is less than the one before it
pub sorted_numbers : (numbers : List ℕ) → IsSortedBy (λ x y. is_lt (nat_cmp x y)) numbers → AreSorted numbers
sorted_numbers numbers sorted k within = not_less (get_or numbers (k + 1) 0) (get_or numbers k 0) (sorted k 0 (omega arith) within)
  where
    not_less : (a b : ℕ) → is_lt (nat_cmp a b) ≡ false → b ≤ a
    not_less a b h = grind (arith, nat_tests, h)

-- the first i of them are in the rising list, which ends below a number
pub record IsRisen (numbers : List ℕ) (i from : ℕ) (blocks : List ℕ) : Type 0 where
  pub only : (b : ℕ) → Contains blocks b → Contains (take i numbers) b
  pub all : (b : ℕ) → Contains (take i numbers) b → Contains blocks b
  pub last : 0 < from → (0 < i) × (from ≡ get_or numbers (i - 1) 0 + 1)
  pub behind : (e : ℕ) → from ≤ e → LastIsBefore IsLower e blocks

-- what is put behind a rising list
pub last_put : (blocks : List ℕ) (b e : ℕ) → b < e → LastIsBefore IsLower e (blocks ++ b ∷ [])
last_put [] b e l = l
last_put (x ∷ []) b e l = l
last_put (x ∷ y ∷ xs) b e l = last_put (y ∷ xs) b e l

pub one_of : (x b : ℕ) → Contains (x ∷ []) b → x ≡ b
one_of x b (zero, l, e) = e
one_of x b (suc k, l, e) = absurd (omega (arith, l))

pub none_of : (b : ℕ) → Contains {X = ℕ} [] b → ⊥
none_of b (k, l, e) = omega (arith, l)

-- all of them are
pub risen_all : (numbers sorted : List ℕ) (i from : ℕ) (blocks : List ℕ) → IsPermutation numbers sorted → i ≡ length sorted → IsRisen sorted i from blocks → (block : ℕ) → Contains blocks block ↔ Contains numbers block
risen_all numbers sorted i from blocks moved whole so block =
    let all : take i sorted ≡ sorted = ap (λ n. take n sorted) whole ∙ take-length sorted in (
      λ has. Contains-permutation sorted numbers block (IsPermutation-sym numbers sorted moved) (subst (λ ns. Contains ns block) all (so.only block has)),
      λ has. so.all block (subst (λ ns. Contains ns block) (sym all) (Contains-permutation numbers sorted block moved has)),
    )

pub risen_none : (numbers blocks : List ℕ) → blocks ≡ [] → IsRisen numbers 0 0 blocks
risen_none numbers blocks is = record {
  only = λ b has. absurd (none_of b (subst (λ bs. Contains bs b) is has));
  all = λ b has. absurd (none_of b has);
  last = λ some. absurd (omega (arith, some));
  behind = λ e l. subst (LastIsBefore IsLower e) (sym is) tt;
}

module _ (numbers : List ℕ) (i from : ℕ) (blocks : List ℕ) (so : IsRisen numbers i from blocks) (sorted : AreSorted numbers) (within : i < length numbers) where
  one_more : take (i + 1) numbers ≡ take i numbers ++ get_or numbers i 0 ∷ []
  one_more = rw (add-one i) (take-suc numbers i 0 within)

  pub risen_next : (blocks_now : List ℕ) → from ≤ get_or numbers i 0 → blocks_now ≡ blocks ++ get_or numbers i 0 ∷ [] → IsRisen numbers (i + 1) (get_or numbers i 0 + 1) blocks_now
  risen_next blocks_now high now = record {
    only = λ b has. subst (λ ns. Contains ns b) (sym one_more) (elim (Contains-append_cases blocks (get_or numbers i 0 ∷ []) b (subst (λ bs. Contains bs b) now has)) [
      | inl before ↦ Contains-append_left (take i numbers) (get_or numbers i 0 ∷ []) b (so.only b before)
      | inr here ↦ Contains-append_right (take i numbers) (get_or numbers i 0 ∷ []) b here
    ]);
    all = λ b has. subst (λ bs. Contains bs b) (sym now) (elim (Contains-append_cases (take i numbers) (get_or numbers i 0 ∷ []) b (subst (λ ns. Contains ns b) one_more has)) [
      | inl before ↦ Contains-append_left blocks (get_or numbers i 0 ∷ []) b (so.all b before)
      | inr here ↦ Contains-append_right blocks (get_or numbers i 0 ∷ []) b here
    ]);
    last = λ some. (omega arith, ap (λ k. get_or numbers k 0 + 1) (back i));
    behind = λ e l. subst (LastIsBefore IsLower e) (sym now) (last_put blocks (get_or numbers i 0) e (omega (arith, l)));
  }
    where
      back : (k : ℕ) → k ≡ (k + 1) - 1
      back k = omega arith

  -- a number that isn't higher than the last one is the last one
  pub risen_again : get_or numbers i 0 < from → IsRisen numbers (i + 1) from blocks
  risen_again low =
      let was = so.last (omega (arith, low)) in
      let before : (i - 1) + 1 ≡ i = omega (arith, was.0) in
      let rises : get_or numbers (i - 1) 0 ≤ get_or numbers i 0 = subst (λ k. get_or numbers (i - 1) 0 ≤ get_or numbers k 0) before (sorted (i - 1) (omega (arith, before, within))) in
      let same : get_or numbers i 0 ≡ get_or numbers (i - 1) 0 = omega (arith, rises, low, was.1) in
      let there : Contains (take i numbers) (get_or numbers i 0) = subst (Contains (take i numbers)) (sym same) (last_there i was.0 (omega (arith, within))) in
      record {
        only = λ b has. subst (λ ns. Contains ns b) (sym one_more) (Contains-append_left (take i numbers) (get_or numbers i 0 ∷ []) b (so.only b has));
        all = λ b has. elim (Contains-append_cases (take i numbers) (get_or numbers i 0 ∷ []) b (subst (λ ns. Contains ns b) one_more has)) [
          | inl earlier ↦ so.all b earlier
          | inr here ↦ subst (Contains blocks) (one_of (get_or numbers i 0) b here) (so.all (get_or numbers i 0) there)
        ];
        last = λ some. (omega arith, was.1 ∙ ap (λ n. n + 1) (sym same) ∙ ap (λ k. get_or numbers k 0 + 1) (back i));
        behind = so.behind;
      }
    where
      back : (k : ℕ) → k ≡ (k + 1) - 1
      back k = omega arith

      last_there : (k : ℕ) → 0 < k → k ≤ length numbers → Contains (take k numbers) (get_or numbers (k - 1) 0)
      last_there zero some fits = absurd (omega (arith, some))
      last_there (suc k) some fits =
          let there : Contains (take (suc k) numbers) (get_or numbers k 0) =
          subst (λ ns. Contains ns (get_or numbers k 0)) (sym (take-suc numbers k 0 (omega (arith, fits)))) (Contains-push (take k numbers) (get_or numbers k 0)) in
          let before : k ≡ suc k - 1 = omega arith in
          subst (λ j. Contains (take (suc k) numbers) (get_or numbers j 0)) before there
