-- Rows that lie in places which entries can name, no two in one: those of a block, those of a table, and all but one of some.
use Rattle.std.proofs.Common.{◌≡◌, ◌≢◌, ◌<◌, ◌≤◌, ◌+◌, ◌++◌, ℕ, zero, suc, List, [], ◌∷◌, Option, Some, None, length, get_or, sum_by, refl, ap, arith, sym, ◌∙◌, subst, ◌⊎◌, inl, inr}
use Rattle.std.specs.Prelude.{AllPairs, Contains, IsPermutation, flat_map}
use Rattle.std.specs.List.{All, AllByRecursion}
use Rattle.std.proofs.lemmas.Bool.{cases_eq}
use Rattle.std.proofs.lemmas.List.Elements.{All-contains_itself}
use Rattle.std.proofs.lemmas.List.Kept.{AllPairs-cons}
use Rattle.std.proofs.lemmas.List.Sorted.{Contains-permutation, sum_by-IsPermutation}
use Rattle.std.proofs.lemmas.List.Sums.{sum_by-cons}
use Rattle.mdc_values.specs.declared.rid.Rid.{Rid}
use Rattle.mdc_ast.specs.declared.row.Row.{Row}
use Rattle.entry_tree.specs.Forest.{once}
use Rattle.entry_tree.proofs.ForestLemmas.{once_other, once_same}
use Rattle.block_map.proofs.MapLinesLemmas.{contains_cases, contains_more}
use Rattle.mdc_sound.specs.TableRows.{PlacedRow, rows_from_slot}
use Rattle.mdc_sound.proofs.BlockRulesLemmas.{each_of}
use Rattle.mdc_sound.proofs.ElementsLemmas.{each_in, flat_contains}
use Rattle.mdc_sound.proofs.TableSpotsLemmas.{first_differs, rest_differs}
use Rattle.record_index.specs.FoundRids.{IsRid, rid_number}
use Rattle.record_index.specs.SoundRows.{LieApart}

-- ---- pairs

all_of : {X : Type 0} (P : X → Type 0) (xs : List X) → ((x : X) → Contains xs x → P x) → All P xs
all_of P xs each = λ i d low. each (get_or xs i d) (All-contains_itself xs i d low)

pairs_both : {X : Type 0} (R : X → X → Type 0) (xs ys : List X) → AllPairs R xs → AllPairs R ys → ((x y : X) → Contains xs x → Contains ys y → R x y) → AllPairs R (xs ++ ys)
pairs_both {X = X} R [] ys first second across = second
pairs_both {X = X} R (x ∷ xs) ys first second across =
    AllPairs-cons R x (xs ++ ys) (all_of (R x) (xs ++ ys) (λ z there. from_both z (either xs ys z there)))
    (pairs_both R xs ys (λ i j d low high. first (suc i) (suc j) d (omega (arith, low)) (omega (arith, high))) second (λ a b in_xs in_ys. across a b (contains_more a x xs in_xs) in_ys))
  where
    either : (some more : List X) (z : X) → Contains (some ++ more) z → Contains some z ⊎ Contains more z
    either [] more z there = inr there
    either (a ∷ some) more z there = elim (contains_cases z a (some ++ more) there) [
      | inl e ↦ inl (0, omega arith, e)
      | inr later ↦ elim (either some more z later) [ inl here ↦ inl (contains_more z a some here) | inr behind ↦ inr behind ]
    ]

    later_one : (some : List X) (z : X) → Contains some z → AllPairs R (x ∷ some) → R x z
    later_one some z (k, low, e) pairs = subst (R x) e (pairs 0 (suc k) z (omega arith) (omega (arith, low)))

    from_both : (z : X) → Contains xs z ⊎ Contains ys z → R x z
    from_both z (inl here) = later_one xs z here first
    from_both z (inr behind) = across x z (0, omega arith, refl) behind

-- ---- the rows of a block

-- the slot of a row of a block
pub record IsInSlot (block at : ℕ) (slots : List (Option Row)) (placed : PlacedRow) : Type 0 where
  pub place : ℕ
  pub within : place < length slots
  pub slot_is : placed.rid.slot ≡ at + place
  pub block_is : placed.rid.block ≡ block
  pub row_is : get_or slots place None ≡ Some placed.row

pub in_slot : (block at : ℕ) (slots : List (Option Row)) (placed : PlacedRow) → Contains (rows_from_slot block at slots) placed → IsInSlot block at slots placed
in_slot block at [] placed there = absurd (omega (arith, there.1))
in_slot block at (None ∷ slots) placed there =
    let later = in_slot block (at + 1) slots placed there in
    record { place = suc later.place; within = omega (arith, later.within); slot_is = omega (arith, later.slot_is); block_is = later.block_is; row_is = later.row_is }
in_slot block at (Some row ∷ slots) placed there = elim (contains_cases placed (record { rid = record { block = block; slot = at }; row = row }) (rows_from_slot block (at + 1) slots) there) [
  | inl first ↦ record { place = 0; within = omega arith; slot_is = omega (arith, ap (λ (p : PlacedRow). p.rid.slot) first); block_is = ap (λ (p : PlacedRow). p.rid.block) (sym first); row_is = ap (λ (p : PlacedRow). Some p.row) first }
  | inr behind ↦
      let later = in_slot block (at + 1) slots placed behind in
      record { place = suc later.place; within = omega (arith, later.within); slot_is = omega (arith, later.slot_is); block_is = later.block_is; row_is = later.row_is }
]

-- rows of two places
abbrev Apart : PlacedRow → PlacedRow → Type 0
Apart a b = a.rid ≢ b.rid

slots_apart : (block at : ℕ) (slots : List (Option Row)) → AllPairs Apart (rows_from_slot block at slots)
slots_apart block at [] = λ i j d low high. absurd (omega (arith, high))
slots_apart block at (None ∷ slots) = slots_apart block (at + 1) slots
slots_apart block at (Some row ∷ slots) =
    let first : PlacedRow = record { rid = record { block = block; slot = at }; row = row } in
    AllPairs-cons Apart first (rows_from_slot block (at + 1) slots)
    (all_of (Apart first) (rows_from_slot block (at + 1) slots) (λ p there same. omega (arith, (in_slot block (at + 1) slots p there).slot_is, ap (λ (rid : Rid). rid.slot) same)))
    (slots_apart block (at + 1) slots)

-- ---- the rows of blocks that differ

pub blocks_apart : (slots_of : ℕ → List (Option Row)) (blocks : List ℕ) → AllPairs (λ a b. a ≢ b) blocks → AllPairs (λ a b. a.rid ≢ b.rid) (flat_map (λ block. rows_from_slot block 0 (slots_of block)) blocks)
blocks_apart slots_of [] differ = λ i j d low high. absurd (omega (arith, high))
blocks_apart slots_of (block ∷ blocks) differ =
    let rows : ℕ → List PlacedRow = λ block. rows_from_slot block 0 (slots_of block) in
    pairs_both Apart (rows block) (flat_map (λ block. rows_from_slot block 0 (slots_of block)) blocks) (slots_apart block 0 (slots_of block)) (blocks_apart slots_of blocks (rest_differs block blocks differ))
    (λ a b in_block in_others same.
    let other = flat_contains (λ block. rows_from_slot block 0 (slots_of block)) blocks b in_others in
    let is : block ≡ other.0 = sym (in_slot block 0 (slots_of block) a in_block).block_is ∙ (ap (λ (rid : Rid). rid.block) same ∙ (in_slot other.0 0 (slots_of other.0) b other.2).block_is) in
    first_differs block blocks differ (subst (Contains blocks) (sym is) other.1))

-- ---- all rows but one

-- 1 for a row of this number as a place, and else 0
placed_once : ℕ → PlacedRow → ℕ
placed_once k placed = once k (rid_number placed.rid)

times_placed : ℕ → List PlacedRow → ℕ
times_placed k rows = sum_by (placed_once k) rows

times-cons : (k : ℕ) (placed : PlacedRow) (rows : List PlacedRow) → times_placed k (placed ∷ rows) ≡ once k (rid_number placed.rid) + times_placed k rows
unfolding times_placed placed_once
times-cons k placed rows = sum_by-cons (placed_once k) placed rows

none_placed : (k : ℕ) (rows : List PlacedRow) → ((placed : PlacedRow) → Contains rows placed → k ≢ rid_number placed.rid) → times_placed k rows ≡ 0
unfolding times_placed
none_placed k [] none = refl
none_placed k (placed ∷ rows) none =
    omega (arith, times-cons k placed rows, once_other k (rid_number placed.rid) (none placed (0, omega arith, refl)), none_placed k rows (λ p there. none p (contains_more p placed rows there)))

some_placed : (k : ℕ) (rows : List PlacedRow) (placed : PlacedRow) → Contains rows placed → k ≡ rid_number placed.rid → 1 ≤ times_placed k rows
some_placed k [] placed there is = absurd (omega (arith, there.1))
some_placed k (first ∷ rows) placed (zero, low, e) is = omega (arith, times-cons k first rows, ap (once k) (sym (is ∙ ap (λ (p : PlacedRow). rid_number p.rid) (sym e))), once_same k)
some_placed k (first ∷ rows) placed (suc i, low, e) is = omega (arith, times-cons k first rows, some_placed k rows placed (i, omega (arith, low), e) is)

-- places with one number are the same
same_place : (a b : Rid) → IsRid a → IsRid b → rid_number a ≡ rid_number b → a ≡ b
same_place a b is_a is_b same =
    let slots : a.slot < 65536 = omega (arith, is_a.slot) in
    let others : b.slot < 65536 = omega (arith, is_b.slot) in
    let block : a.block ≡ b.block = omega (arith, slots, others, same) in
    let slot : a.slot ≡ b.slot = omega (arith, slots, others, same) in
    ap (λ n. record { block = n; slot = a.slot }) block ∙ ap (λ n. record { block = b.block; slot = n }) slot

-- each place is had once at most
placed_at_most_once : (rows : List PlacedRow) → AllByRecursion (λ placed. IsRid placed.rid) rows → AllPairs (λ a b. a.rid ≢ b.rid) rows → (k : ℕ) → times_placed k rows ≤ 1
unfolding times_placed
placed_at_most_once [] places apart k = omega arith
placed_at_most_once (placed ∷ rows) places apart k = elim (cases_eq k (rid_number placed.rid)) [
  | inl same ↦
      let none = none_placed k rows (λ p there e.
      apart 0 (suc there.0) p (omega arith) (omega (arith, there.1))
      (same_place placed.rid p.rid places.0 (each_of (λ (q : PlacedRow). IsRid q.rid) rows p places.1 there) (sym same ∙ e) ∙ ap (λ (q : PlacedRow). q.rid) (sym there.2))) in
      omega (arith, times-cons k placed rows, ap (once k) (sym same), once_same k, none)
  | inr other ↦
      omega (arith, times-cons k placed rows, once_other k (rid_number placed.rid) other, placed_at_most_once rows places.1 (λ i j d low high. apart (suc i) (suc j) d (omega (arith, low)) (omega (arith, high))) k)
]

-- a place that an entry can name, and rows in other such places
pub record LieElsewhere (rid : Rid) (rows : List PlacedRow) : Type 0 where
  pub place : IsRid rid
  pub others : AllByRecursion (λ placed. IsRid placed.rid × (placed.rid ≢ rid)) rows

-- of rows that lie apart all others lie elsewhere than one
pub elsewhere : (placed : PlacedRow) (stay rows : List PlacedRow) → LieApart rows → IsPermutation (placed ∷ stay) rows → LieElsewhere placed.rid stay
unfolding times_placed
elsewhere placed stay rows apart same = record {
  place = place_of placed (0, omega arith, refl);
  others = each_in (λ (p : PlacedRow). IsRid p.rid × (p.rid ≢ placed.rid)) stay (λ p there. (
    place_of p (contains_more p placed stay there),
    λ at.
        let k = rid_number placed.rid in
        omega (
          arith,
          placed_at_most_once rows apart.places apart.apart k,
          sum_by-IsPermutation (placed_once k) (placed ∷ stay) rows same,
          times-cons k placed stay,
          once_same k,
          some_placed k stay p there (ap rid_number (sym at)),
        ),
  ));
}
  where
    place_of : (p : PlacedRow) → Contains (placed ∷ stay) p → IsRid p.rid
    place_of p there = each_of (λ (q : PlacedRow). IsRid q.rid) rows p apart.places (Contains-permutation (placed ∷ stay) rows p same there)
