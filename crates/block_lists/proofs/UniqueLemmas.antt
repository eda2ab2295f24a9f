-- Lists are determined by the rows that they stand for.
use Rattle.std.proofs.Common.{◌≡◌, ◌∙◌, ◌⊎◌, inl, inr, ◌+◌, ◌≤◌, ◌==◌, ℕ, List, [], ◌∷◌, Bool, true, false, arith, refl, sym, ap}
use Rattle.std.specs.Prelude.{◌&&◌, ◌||◌, not}
use Rattle.std.proofs.Math.Bool.{and-false, or-false}
use Rattle.std.proofs.lemmas.Bool.{false≢true, ne_eqb, or_from}
use Rattle.mdc_values.specs.declared.rid.Rid.{Rid}
use Rattle.mdc_values.specs.Rising.{IsRising}
use Rattle.block_lists.specs.Lists.{AreLists}
use Rattle.block_lists.specs.Parts.{rid_at}
use Rattle.block_lists.specs.Places.{AreApart, has_number, has_rid, holds_in, same_rid}
use Rattle.block_lists.proofs.NumberLemmas.{numbers_order}
use Rattle.block_lists.proofs.PlaceLemmas.{rids_order}
use Rattle.block_lists.proofs.WalkLemmas.{IsOrder, behind_first, is_in, not_in_rest, or-left, rising_tail}

-- ---- rising lists with the same elements

module _ {X : Type 0} {same : X → X → Bool} {Before : X → X → Type 0} (o : IsOrder same Before) where
  first_or_behind : (x y : X) (ys : List X) → IsRising Before (y ∷ ys) → is_in same (y ∷ ys) x ≡ true → (y ≡ x) ⊎ Before y x
  first_or_behind x y ys r h = by_same (same y x) refl where
    by_same : (b : Bool) → same y x ≡ b → (y ≡ x) ⊎ Before y x
    by_same true e = inl (o.alike y x e)
    by_same false e = inr (behind_first o y ys x r (sym (ap (λ b. b || is_in same ys x) e) ∙ h))

  not_both : (x y : X) → Before x y → Before y x → ⊥
  not_both x y h k = false≢true (sym (o.apart x x (o.through x y x h k)) ∙ o.itself x)

  same_first : (x y : X) (xs ys : List X) → IsRising Before (x ∷ xs) → IsRising Before (y ∷ ys) → is_in same (y ∷ ys) x ≡ true → is_in same (x ∷ xs) y ≡ true → x ≡ y
  same_first x y xs ys rx ry hx hy = elim (first_or_behind x y ys ry hx) [
    | inl e ↦ sym e
    | inr below ↦ elim (first_or_behind y x xs rx hy) [
      | inl e ↦ e
      | inr above ↦ absurd (not_both x y above below)
    ]
  ]

  rest_same : (x y : X) (xs ys : List X) → x ≡ y → IsRising Before (x ∷ xs) → IsRising Before (y ∷ ys) → (z : X) → is_in same (x ∷ xs) z ≡ is_in same (y ∷ ys) z → is_in same xs z ≡ is_in same ys z
  rest_same x y xs ys e rx ry z h = by_same (same x z) refl where
    by_same : (b : Bool) → same x z ≡ b → is_in same xs z ≡ is_in same ys z
    by_same false n = sym (ap (λ b. b || is_in same xs z) n) ∙ h ∙ ap (λ w. same w z || is_in same ys z) (sym e) ∙ ap (λ b. b || is_in same ys z) n
    by_same true s =
        let at : x ≡ z = o.alike x z s in
        ap (is_in same xs) (sym at) ∙ not_in_rest o x xs rx ∙ sym (not_in_rest o y ys ry) ∙ ap (is_in same ys) (sym e ∙ at)

  pub same_members : (xs ys : List X) → IsRising Before xs → IsRising Before ys → ((z : X) → is_in same xs z ≡ is_in same ys z) → xs ≡ ys
  same_members [] [] rx ry h = refl
  same_members [] (y ∷ ys) rx ry h = absurd (false≢true (h y ∙ or-left (same y y) (is_in same ys y) (o.itself y)))
  same_members (x ∷ xs) [] rx ry h = absurd (false≢true (sym (h x) ∙ or-left (same x x) (is_in same xs x) (o.itself x)))
  same_members (x ∷ xs) (y ∷ ys) rx ry h =
      let e : x ≡ y = same_first x y xs ys rx ry (sym (h x) ∙ or-left (same x x) (is_in same xs x) (o.itself x)) (h y ∙ or-left (same y y) (is_in same ys y) (o.itself y)) in
      ap (λ w. w ∷ xs) e
      ∙ ap (λ zs. y ∷ zs) (same_members xs ys (rising_tail Before x xs rx) (rising_tail Before y ys ry) (λ z. rest_same x y xs ys e rx ry z (h z)))

-- ---- a slot that no place of a list has

above_slots : List Rid → ℕ
above_slots [] = 0
above_slots (rid ∷ rids) = rid.slot + 1 + above_slots rids

not_above : (rids : List Rid) (block slot : ℕ) → above_slots rids ≤ slot → has_rid rids (rid_at block slot) ≡ false
unfolding above_slots
not_above [] block slot le = refl
not_above (rid ∷ rids) block slot le =
    or_from (same_rid rid (rid_at block slot)) (has_rid rids (rid_at block slot))
    (ap (λ p. (rid.block == block) && p) (ne_eqb rid.slot slot (λ e. omega (arith, le, e))) ∙ and-false (rid.block == block))
    (not_above rids block slot (omega (arith, le)))

-- ---- lists that stand for the same rows

module _ (blocks : List ℕ) (rids : List Rid) where
  bare : (block slot : ℕ) → above_slots rids ≤ slot → has_number blocks block ≡ holds_in blocks rids (rid_at block slot)
  bare block slot le = sym (or-false (has_number blocks block)) ∙ ap (λ b. has_number blocks block || b) (sym (not_above rids block slot le))

  outside_blocks : AreApart blocks rids → (rid : Rid) → has_rid rids rid ≡ (holds_in blocks rids rid && not (has_number blocks rid.block))
  outside_blocks apart rid = by_rid (has_rid rids rid) refl where
    none : (h : Bool) → false ≡ ((h || false) && not h)
    none true = refl
    none false = refl

    by_rid : (b : Bool) → has_rid rids rid ≡ b → has_rid rids rid ≡ ((has_number blocks rid.block || has_rid rids rid) && not (has_number blocks rid.block))
    by_rid false e = e ∙ none (has_number blocks rid.block) ∙ ap (λ b. (has_number blocks rid.block || b) && not (has_number blocks rid.block)) (sym e)
    by_rid true e = e ∙ ap (λ b. (b || true) && not b) (sym (apart rid e)) ∙ ap (λ b. (has_number blocks rid.block || b) && not (has_number blocks rid.block)) (sym e)

module _ (a_blocks : List ℕ) (a_rids : List Rid) (b_blocks : List ℕ) (b_rids : List Rid) (h : (rid : Rid) → holds_in a_blocks a_rids rid ≡ holds_in b_blocks b_rids rid) where
  same_numbers : (n : ℕ) → has_number a_blocks n ≡ has_number b_blocks n
  same_numbers n =
      let slot = above_slots a_rids + above_slots b_rids in
      bare a_blocks a_rids n slot (omega arith) ∙ h (rid_at n slot) ∙ sym (bare b_blocks b_rids n slot (omega arith))

  same_rids : AreApart a_blocks a_rids → AreApart b_blocks b_rids → (rid : Rid) → has_rid a_rids rid ≡ has_rid b_rids rid
  same_rids a b rid =
      outside_blocks a_blocks a_rids a rid ∙ ap (λ p. p && not (has_number a_blocks rid.block)) (h rid)
      ∙ ap (λ p. holds_in b_blocks b_rids rid && not p) (same_numbers rid.block) ∙ sym (outside_blocks b_blocks b_rids b rid)

  pub same_lists : AreLists a_blocks a_rids → AreLists b_blocks b_rids → (a_blocks ≡ b_blocks) × (a_rids ≡ b_rids)
  same_lists a b = (
    same_members numbers_order a_blocks b_blocks a.blocks_rise b.blocks_rise same_numbers,
    same_members rids_order a_rids b_rids a.rids_rise b.rids_rise (same_rids a.apart b.apart),
  )
