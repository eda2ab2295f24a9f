-- Which blocks are Used, as a look finds it, and the places that lie in them.
use Rattle.std.proofs.Common.{◌≡◌, ◌<◌, ◌+◌, ◌^◌, ◌==◌, ◌||◌, not, ℕ, zero, suc, List, [], ◌∷◌, ◌++◌, Bool, true, false, cond, refl, ap, arith, sym, ◌∙◌, subst, append-nil, length, take, get_or, inl, inr}
use Rattle.std.specs.Prelude.{Contains, Some, None}
use Rattle.std.specs.List.{list_any}
use Rattle.std.proofs.lemmas.Bool.{cases_eq, eq-eqb, ne_eqb}
use Rattle.std.proofs.lemmas.List.{take_more}
use Rattle.std.proofs.lemmas.List.Elements.{filter-append}
use Rattle.mdc_values.specs.Rising.{IsEarlier, IsRising, LastIsBefore}
use Rattle.mdc_values.specs.declared.rid.Rid.{Rid}
use Rattle.entry_tree.specs.Forest.{Forest, leaf_entries}
use Rattle.block_map.specs.BlockMaps.{FindsBlock}
use Rattle.block_map.specs.MapLines.{map_line, mapped_blocks, used_blocks}
use Rattle.block_map.specs.MapRows.{row_entry, state_number}
use Rattle.block_map.specs.declared.row.BlockRow.{BlockRow}
use Rattle.block_map.proofs.MapFormLemmas.{form_one}
use Rattle.block_map.proofs.MapLinesLemmas.{contains_more, in_state_named, row_block, row_state}
use Rattle.mdc_sound.proofs.ElementsLemmas.{contains_block}
use Rattle.mdc_sound.proofs.MappedBlocksLemmas.{used_line}
use Rattle.live_rows.specs.LiveRids.{HasMapForm, is_used_block, live_rids}
use Rattle.live_rows.proofs.AmongLemmas.{earlier_still}

-- ---- Used blocks

either_true : (a b : Bool) → b ≡ true → (a || b) ≡ true
either_true true b e = refl
either_true false b e = e

pub not_so : (b : Bool) → (b ≡ true → ⊥) → b ≡ false
not_so true wrong = absurd (wrong refl)
not_so false wrong = refl

pub of_not_true : (b : Bool) → not b ≡ true → b ≡ false
of_not_true true is = sym is
of_not_true false is = refl

pub of_not_false : (b : Bool) → not b ≡ false → b ≡ true
of_not_false true is = refl
of_not_false false is = sym is

any_in : (xs : List ℕ) (n : ℕ) → list_any (λ x. x == n) xs ≡ true → Contains xs n
any_in [] n e = absurd cc
any_in (x ∷ xs) n e = elim (cases_eq x n) [
  | inl same ↦ (0, omega arith, same)
  | inr other ↦ contains_more n x xs (any_in xs n (sym (ap (λ b. b || list_any (λ x. x == n) xs) (ne_eqb x n other)) ∙ e))
]

in_any : (xs : List ℕ) (n : ℕ) → Contains xs n → list_any (λ x. x == n) xs ≡ true
in_any [] n (k, l, e) = absurd (omega (arith, l))
in_any (x ∷ xs) n (zero, l, e) = ap (λ b. b || list_any (λ x. x == n) xs) (eq-eqb x n e)
in_any (x ∷ xs) n (suc k, l, e) = either_true (x == n) (list_any (λ x. x == n) xs) (in_any xs n (k, omega (arith, l), e))

-- the test tells whether the block is one of them
pub in_used : (t : Forest) (block : ℕ) → is_used_block t block ≡ true → Contains (used_blocks t) block
in_used t block = any_in (used_blocks t) block

pub used_in : (t : Forest) (block : ℕ) → Contains (used_blocks t) block → is_used_block t block ≡ true
used_in t block = in_any (used_blocks t) block

-- ---- what a look finds

module _ (t : Forest) (block : ℕ) where
  pub unnamed_unused : HasMapForm t → FindsBlock t block None → is_used_block t block ≡ false
  unnamed_unused form none = not_so (is_used_block t block) named
    where
      named : is_used_block t block ≡ true → ⊥
      named is =
          let line = used_line t block (in_used t block is) in
          none (form.entries, subst (Contains (mapped_blocks t)) line.block_is (contains_block (leaf_entries t) line.entry line.there))

  module _ (row : BlockRow) (small : block < 2 ^ 32) (found : FindsBlock t block (Some row)) where
    row_small : row.block < 2 ^ 32
    row_small = subst (λ (b : ℕ). b < 2 ^ 32) (sym found.0) small

    row_used : state_number row.state ≡ 1 → is_used_block t block ≡ true
    row_used is = used_in t block (in_state_named 1 (leaf_entries t) block (record {
      entry = row_entry row;
      there = found.1;
      state = eq-eqb (map_line (row_entry row)).state 1 (row_state row ∙ is);
      block_is = row_block row row_small ∙ found.0;
    }))

    used_row : HasMapForm t → is_used_block t block ≡ true → state_number row.state ≡ 1
    used_row form used =
        let line = used_line t block (in_used t block used) in
        let same = form_one t (row_entry row) line.entry form.form found.1 line.there (row_block row row_small ∙ found.0 ∙ sym line.block_is) in
        sym (row_state row) ∙ ap (λ (x : List ℕ). (map_line x).state) same ∙ line.used

    -- the state of the row that it finds says whether the block is Used
    pub row_says : HasMapForm t → (state_number row.state == 1) ≡ is_used_block t block
    row_says form = elim (cases_eq (state_number row.state) 1) [
      | inl is ↦ eq-eqb (state_number row.state) 1 is ∙ sym (row_used is)
      | inr other ↦ ne_eqb (state_number row.state) 1 other ∙ sym (not_so (is_used_block t block) (λ used. other (used_row form used)))
    ]

-- ---- order

-- what stands behind the last of a list, and is the last then
behind_last : (xs : List Rid) (x e : Rid) → LastIsBefore IsEarlier x xs → IsEarlier x e → LastIsBefore IsEarlier e xs
behind_last [] x e last less = tt
behind_last (y ∷ []) x e last less = earlier_still y x e last less
behind_last (y ∷ z ∷ xs) x e last less = behind_last (z ∷ xs) x e last less

put_last : (xs : List Rid) (x e : Rid) → IsEarlier x e → LastIsBefore IsEarlier e (xs ++ x ∷ [])
put_last [] x e less = less
put_last (y ∷ []) x e less = less
put_last (y ∷ z ∷ xs) x e less = put_last (z ∷ xs) x e less

last_put : (xs : List Rid) (x e : Rid) → LastIsBefore IsEarlier e (xs ++ x ∷ []) → IsEarlier x e
last_put [] x e less = less
last_put (y ∷ []) x e less = less
last_put (y ∷ z ∷ xs) x e less = last_put (z ∷ xs) x e less

-- an element of a rising list stands behind those before it
rising_at : (xs : List Rid) (i : ℕ) (d : Rid) → IsRising IsEarlier xs → i < length xs → LastIsBefore IsEarlier (get_or xs i d) (take i xs)
rising_at [] i d rises l = absurd (omega (arith, l))
rising_at (x ∷ xs) zero d rises l = tt
rising_at (x ∷ []) (suc i) d rises l = absurd (omega (arith, l))
rising_at (x ∷ y ∷ xs) (suc zero) d rises l = rises.0
rising_at (x ∷ y ∷ xs) (suc (suc i)) d rises l = rising_at (y ∷ xs) (suc i) d rises.1 (omega (arith, l))

-- ---- the places so far

-- what stands behind all of some places stands behind those that were kept
pub record KeepsOrder (done kept : List Rid) : Type 0 where
  pub behind : (e : Rid) → LastIsBefore IsEarlier e done → LastIsBefore IsEarlier e kept

module _ (rids : List Rid) (i : ℕ) (d : Rid) (rises : IsRising IsEarlier rids) (within : i < length rids) (kept : List Rid) (order : KeepsOrder (take i rids) kept) where
  here : LastIsBefore IsEarlier (get_or rids i d) (take i rids)
  here = rising_at rids i d rises within

  -- the next one stands behind them
  pub behind_kept : LastIsBefore IsEarlier (get_or rids i d) kept
  behind_kept = order.behind (get_or rids i d) here

  -- with it, or without it
  next_before : (e : Rid) → LastIsBefore IsEarlier e (take (i + 1) rids) → IsEarlier (get_or rids i d) e
  next_before e last = last_put (take i rids) (get_or rids i d) e (subst (LastIsBefore IsEarlier e) (take_more rids i d within) last)

  pub order_with : KeepsOrder (take (i + 1) rids) (kept ++ get_or rids i d ∷ [])
  order_with = record { behind = λ e last. put_last kept (get_or rids i d) e (next_before e last) }

  pub order_without : KeepsOrder (take (i + 1) rids) kept
  order_without = record { behind = λ e last. order.behind e (behind_last (take i rids) (get_or rids i d) e here (next_before e last)) }

module _ (t : Forest) (rids : List Rid) (i : ℕ) (d : Rid) (within : i < length rids) (kept : List Rid) (so_far : kept ≡ live_rids t (take i rids)) where
  next_is : (used : Bool) → is_used_block t (get_or rids i d).block ≡ used → live_rids t (take (i + 1) rids) ≡ kept ++ cond used (get_or rids i d ∷ []) []
  next_is used is =
      ap (live_rids t) (take_more rids i d within)
      ∙ (filter-append (λ rid. is_used_block t rid.block) (take i rids) (get_or rids i d ∷ []) ∙ (ap (λ ks. ks ++ cond (is_used_block t (get_or rids i d).block) (get_or rids i d ∷ []) []) (sym so_far)
      ∙ ap (λ b. kept ++ cond b (get_or rids i d ∷ []) []) is))

  pub live_with : is_used_block t (get_or rids i d).block ≡ true → kept ++ get_or rids i d ∷ [] ≡ live_rids t (take (i + 1) rids)
  live_with is = sym (next_is true is)

  pub live_without : is_used_block t (get_or rids i d).block ≡ false → kept ≡ live_rids t (take (i + 1) rids)
  live_without is = sym (next_is false is ∙ append-nil kept)
