-- Rows by their places, and the lowest empty slot, over two lists one behind the other.
use Rattle.std.proofs.Common.{◌≡◌, ◌<◌, ◌≤◌, ◌+◌, ◌-◌, ℕ, zero, suc, List, [], ◌∷◌, ◌++◌, length, get_or, take, drop, Option, Some, None, refl, ap, sym, ◌∙◌, inl, inr, arith, length-append, append-nil, append_assoc, subst}
use Rattle.std.specs.Prelude.{Contains}
use Rattle.std.proofs.lemmas.Bool.{cases_lt}
use Rattle.std.proofs.Math.Seq.{drop-cons, drop-length}
use Rattle.std.proofs.lemmas.List.{append_cancel_right, get_or_append_left, get_or-append_right, length-take-le, take-append-drop}
use Rattle.mdc_ast.specs.declared.row.Row.{Row}
use Rattle.mdc_sound.specs.Placing.{HoldsNowhere, IsEmptySlot, IsLowestAt}
use Rattle.mdc_sound.specs.TableRows.{PlacedRow, rows_from_slot}

-- ---- rows by rising slot

pub rows_from_slot-append : (block slot : ℕ) (xs ys : List (Option Row)) → rows_from_slot block slot (xs ++ ys) ≡ rows_from_slot block slot xs ++ rows_from_slot block (slot + length xs) ys
rows_from_slot-append block slot [] ys = let same : slot ≡ slot + 0 = omega arith in ap (λ k. rows_from_slot block k ys) same
rows_from_slot-append block slot (None ∷ xs) ys =
    let next : slot + 1 + length xs ≡ slot + suc (length xs) = omega arith in
    rows_from_slot-append block (slot + 1) xs ys ∙ ap (λ k. rows_from_slot block (slot + 1) xs ++ rows_from_slot block k ys) next
rows_from_slot-append block slot (Some row ∷ xs) ys =
    let next : slot + 1 + length xs ≡ slot + suc (length xs) = omega arith in
    ap (λ l. record { rid = record { block = block; slot = slot }; row = row } ∷ l)
    (rows_from_slot-append block (slot + 1) xs ys ∙ ap (λ k. rows_from_slot block (slot + 1) xs ++ rows_from_slot block k ys) next)

-- ---- the rows that are left

-- empty slots are passed over
rows_from_slot-skip : (block base from n : ℕ) (slots : List (Option Row)) → ((k : ℕ) → from ≤ k → k < from + n → get_or slots k None ≡ None) → from + n ≤ length slots
    → rows_from_slot block (base + from) (drop from slots) ≡ rows_from_slot block (base + (from + n)) (drop (from + n) slots)
rows_from_slot-skip block base from zero slots none within = let same : from ≡ from + 0 = omega arith in ap (λ k. rows_from_slot block (base + k) (drop k slots)) same
rows_from_slot-skip block base from (suc n) slots none within =
    let first : drop from slots ≡ None ∷ drop (suc from) slots = drop-cons slots from None (omega (arith, within)) ∙ ap (λ x. x ∷ drop (suc from) slots) (none from (omega arith) (omega arith)) in
    let next : base + from + 1 ≡ base + suc from = omega arith in
    let end : suc from + n ≡ from + suc n = omega arith in
    ap (rows_from_slot block (base + from)) first
    ∙ (ap (λ k. rows_from_slot block k (drop (suc from) slots)) next
    ∙ (rows_from_slot-skip block base (suc from) n slots (λ k late early. none k (omega arith) (omega arith)) (omega (arith, within))
    ∙ ap (λ k. rows_from_slot block (base + k) (drop k slots)) end))

-- the row in the next slot that has one
rows_from_slot-row : (block base slot : ℕ) (slots : List (Option Row)) (row : Row) → slot < length slots → get_or slots slot None ≡ Some row
    → rows_from_slot block (base + slot) (drop slot slots) ≡ record { rid = record { block = block; slot = base + slot }; row = row } ∷ rows_from_slot block (base + (slot + 1)) (drop (slot + 1) slots)
rows_from_slot-row block base slot slots row within is =
    let first : drop slot slots ≡ Some row ∷ drop (suc slot) slots = drop-cons slots slot None within ∙ ap (λ x. x ∷ drop (suc slot) slots) is in
    let next : base + slot + 1 ≡ base + (slot + 1) = omega arith in
    let more : suc slot ≡ slot + 1 = omega arith in
    ap (rows_from_slot block (base + slot)) first
    ∙ ap (λ l. record { rid = record { block = block; slot = base + slot }; row = row } ∷ l)
    (ap (λ k. rows_from_slot block k (drop (suc slot) slots)) next ∙ ap (λ k. rows_from_slot block (base + (slot + 1)) (drop k slots)) more)

module _ (block base from : ℕ) (slots : List (Option Row)) where
  -- the next row, and those behind it
  rows_from_slot-next : (slot : ℕ) (row : Row) → from ≤ slot → slot < length slots → ((k : ℕ) → from ≤ k → k < slot → get_or slots k None ≡ None) → get_or slots slot None ≡ Some row
      → rows_from_slot block (base + from) (drop from slots) ≡ record { rid = record { block = block; slot = base + slot }; row = row } ∷ rows_from_slot block (base + (slot + 1)) (drop (slot + 1) slots)
  rows_from_slot-next slot row behind within none is =
      let end : from + (slot - from) ≡ slot = omega arith in
      rows_from_slot-skip block base from (slot - from) slots (λ k late early. none k late (omega arith)) (omega arith)
      ∙ (ap (λ k. rows_from_slot block (base + k) (drop k slots)) end ∙ rows_from_slot-row block base slot slots row within is)

  -- no row is left
  rows_from_slot-end : from ≤ length slots → ((k : ℕ) → from ≤ k → k < length slots → get_or slots k None ≡ None) → rows_from_slot block (base + from) (drop from slots) ≡ []
  rows_from_slot-end within none =
      let end : from + (length slots - from) ≡ length slots = omega arith in
      rows_from_slot-skip block base from (length slots - from) slots (λ k late early. none k late (omega arith)) (omega arith)
      ∙ (ap (λ k. rows_from_slot block (base + k) (drop k slots)) end ∙ ap (rows_from_slot block (base + length slots)) (drop-length slots))

-- ---- the rows so far

-- the rows of the first slots, and those that are left
rows_from_slot-split : (block base n : ℕ) (slots : List (Option Row)) → n ≤ length slots
    → rows_from_slot block base slots ≡ rows_from_slot block base (take n slots) ++ rows_from_slot block (base + n) (drop n slots)
rows_from_slot-split block base n slots within =
    ap (rows_from_slot block base) (sym (take-append-drop n slots))
    ∙ (rows_from_slot-append block base (take n slots) (drop n slots)
    ∙ ap (λ k. rows_from_slot block base (take n slots) ++ rows_from_slot block (base + k) (drop n slots)) (length-take-le n slots within))

module _ (block base from : ℕ) (slots : List (Option Row)) where
  -- with the next one
  pub rows_from_slot-so_far : (slot : ℕ) (row : Row) → from ≤ slot → slot < length slots → ((k : ℕ) → from ≤ k → k < slot → get_or slots k None ≡ None) → get_or slots slot None ≡ Some row
      → rows_from_slot block base (take (slot + 1) slots)
      ≡ rows_from_slot block base (take from slots) ++ record { rid = record { block = block; slot = base + slot }; row = row } ∷ []
  rows_from_slot-so_far slot row behind within none is =
      let placed : PlacedRow = record { rid = record { block = block; slot = base + slot }; row = row } in
      let front = rows_from_slot block base (take from slots) in
      let left = rows_from_slot block (base + (slot + 1)) (drop (slot + 1) slots) in
      append_cancel_right (rows_from_slot block base (take (slot + 1) slots)) (front ++ placed ∷ []) left
      (sym (rows_from_slot-split block base (slot + 1) slots (omega (arith, within)))
      ∙ (rows_from_slot-split block base from slots (omega (arith, behind, within))
      ∙ (ap (λ l. front ++ l) (rows_from_slot-next block base from slots slot row behind within none is)
      ∙ sym (append_assoc front (placed ∷ []) left))))

  -- all of them
  pub rows_from_slot-all : from ≤ length slots → ((k : ℕ) → from ≤ k → k < length slots → get_or slots k None ≡ None)
      → rows_from_slot block base (take from slots) ≡ rows_from_slot block base slots
  rows_from_slot-all within none =
      sym (rows_from_slot-split block base from slots within
      ∙ (ap (λ l. rows_from_slot block base (take from slots) ++ l) (rows_from_slot-end block base from slots within none)
      ∙ append-nil (rows_from_slot block base (take from slots))))

-- ---- the lowest empty slot

module _ {X : Type 0} (P : X → Type 0) where
  pub nowhere-append : (xs ys : List X) → HoldsNowhere P xs → HoldsNowhere P ys → HoldsNowhere P (xs ++ ys)
  nowhere-append xs ys first second k d within holds = elim (cases_lt k (length xs)) [
    | inl early ↦ first k d early (subst P (get_or_append_left xs ys d k early) holds)
    | inr late ↦
        second (k - length xs) d (omega (arith, length-append xs ys, within))
        (subst P (get_or-append_right xs ys (length xs) k d refl late) holds)
  ]

  -- none in the first list, and the lowest of the second
  pub lowest-append : (xs ys : List X) (n k : ℕ) (x : X) → length xs ≡ n → HoldsNowhere P xs → IsLowestAt P ys k x → IsLowestAt P (xs ++ ys) (n + k) x
  lowest-append xs ys n k x long none lowest = record {
    within = omega (arith, length-append xs ys, lowest.within, long);
    is_it = λ d.
        let behind : n ≤ n + k = omega arith in
        let same : n + k - n ≡ k = omega arith in
        get_or-append_right xs ys n (n + k) d long behind ∙ (ap (λ i. get_or ys i d) same ∙ lowest.is_it d);
    holds = lowest.holds;
    lowest = λ i d less holds. elim (cases_lt i n) [
      | inl early ↦ none i d (omega (arith, long)) (subst P (get_or_append_left xs ys d i (omega (arith, long))) holds)
      | inr late ↦
          lowest.lowest (i - n) d (omega arith)
          (subst P (get_or-append_right xs ys n i d long late) holds)
    ];
  }

  -- more behind it
  pub lowest-front : (xs ys : List X) (k : ℕ) (x : X) → IsLowestAt P xs k x → IsLowestAt P (xs ++ ys) k x
  lowest-front xs ys k x lowest = record {
    within = omega (arith, length-append xs ys, lowest.within);
    is_it = λ d. get_or_append_left xs ys d k lowest.within ∙ lowest.is_it d;
    holds = lowest.holds;
    lowest = λ i d less holds. lowest.lowest i d less (subst P (get_or_append_left xs ys d i (omega (arith, lowest.within))) holds);
  }

-- no slot is empty
pub nowhere-contains : (slots : List (Option Row)) → HoldsNowhere IsEmptySlot slots → Contains slots None → ⊥
nowhere-contains slots none there = none there.0 None there.1 (subst IsEmptySlot (sym there.2) tt)
