-- What the rows that a scan found are to the layers above: they lie where it says, their numbers rise, and they are the rows of
-- the plain table that qualify, in its order.
use Rattle.std.proofs.Common.{◌≡◌, ◌≢◌, ◌<◌, ◌+◌, ℕ, zero, suc, List, [], ◌∷◌, ◌++◌, Bool, Option, Some, None, length, get_or, set, refl, ap, arith, sym, ◌∙◌, subst, inl, inr, append_assoc}
use Rattle.std.specs.Prelude.{AllPairs, Contains, IsPermutation, filter, map}
use Rattle.std.specs.List.{AllByRecursion, swap}
use Rattle.std.proofs.lemmas.Bool.{cases_Bool, cases_lt}
use Rattle.std.proofs.lemmas.List.{get_or-map, length-map}
use Rattle.std.proofs.lemmas.List.Edits.{swap_is}
use Rattle.std.proofs.lemmas.List.Elements.{filter-append}
use Rattle.std.proofs.lemmas.List.Kept.{AllPairs-filter}
use Rattle.std.proofs.lemmas.List.Sorted.{Contains-permutation, IsPermutation-append_comm, IsPermutation-append_left, IsPermutation-append_right, IsPermutation-keeps, IsPermutation-map, IsPermutation-refl, IsPermutation-sym, IsPermutation-trans}
use Rattle.mdc_ast.specs.declared.definition.TableDef.{TableDef}
use Rattle.mdc_ast.specs.declared.predicate.Pred.{Pred}
use Rattle.mdc_ast.specs.declared.row.Row.{Row}
use Rattle.mdc_ast.specs.Truth.{qualifies}
use Rattle.store_api.specs.declared.pages.Pages.{Ghosts}
use Rattle.store_api.specs.declared.shape.Shape.{Shape}
use Rattle.extent_map.specs.declared.kind.Kind.{Kind}
use Rattle.block_map.specs.MapLines.{used_blocks}
use Rattle.block_map.proofs.MapLinesLemmas.{contains_cases, contains_more}
use Rattle.block_rows.specs.HeldRows.{placed_row}
use Rattle.block_rows.specs.declared.hit.Hit.{Hit}
use Rattle.mdc_sound.specs.BlockRules.{AreRowNumbersSound}
use Rattle.mdc_sound.specs.Placing.{IsRowAt}
use Rattle.mdc_sound.specs.Placing.Spot.{UsedBlock}
use Rattle.mdc_sound.specs.StandingTable.{StandsTable, TableForests, pages_of, spots_of}
use Rattle.mdc_sound.specs.TableRows.{PlacedRow, block_slots, rows_from_slot, rows_in_block, rows_in_table}
use Rattle.mdc_sound.proofs.ElementsLemmas.{each_in, flat_contains}
use Rattle.mdc_sound.proofs.RowNumbersLemmas.{numbers_in_order}
use Rattle.mdc_sound.proofs.StandsForLemmas.{one_order}
use Rattle.mdc_sound.proofs.TableSpotsLemmas.{length-spots, used_spot}
use Rattle.mdc_sound.proofs.BlockRulesLemmas.{each_of, named_owned}
use Rattle.table_scan.specs.FoundRows.{FindsRows}
use Rattle.table_scan.proofs.ScanningLemmas.{filter_first, filter_past, map_kept}

-- ---- elements that pass a test, in another order

-- a part in front goes behind another one
pub front_behind : {X : Type 0} (xs ys zs : List X) → IsPermutation (xs ++ (ys ++ zs)) (ys ++ (xs ++ zs))
front_behind xs ys zs =
    subst (λ l. IsPermutation l (ys ++ (xs ++ zs))) (append_assoc xs ys zs)
    (subst (λ r. IsPermutation ((xs ++ ys) ++ zs) r) (append_assoc ys xs zs) (IsPermutation-append_left zs (xs ++ ys) (ys ++ xs) (IsPermutation-append_comm xs ys)))

module _ {X : Type 0} (p : X → Bool) where
  -- the element, if it passes
  if_kept : X → List X
  if_kept x = filter p (x ∷ [])

  kept-cons : (x : X) (xs : List X) → filter p (x ∷ xs) ≡ if_kept x ++ filter p xs
  unfolding if_kept
  kept-cons x xs = filter-append p (x ∷ []) xs

  -- an element in the place of one behind it
  kept_changed : (x : X) (xs : List X) (j : ℕ) (d : X) → j < length xs → IsPermutation (if_kept x ++ filter p xs) (if_kept (get_or xs j d) ++ filter p (set xs j x))
  kept_changed x [] j d low = absurd (omega (arith, low))
  kept_changed x (y ∷ xs) zero d low =
      subst (λ l. IsPermutation (if_kept x ++ l) (if_kept y ++ filter p (x ∷ xs))) (sym (kept-cons y xs))
      (subst (λ r. IsPermutation (if_kept x ++ (if_kept y ++ filter p xs)) (if_kept y ++ r)) (sym (kept-cons x xs)) (front_behind (if_kept x) (if_kept y) (filter p xs)))
  kept_changed x (y ∷ xs) (suc j) d low =
      let z = get_or xs j d in
      let rest = filter p (set xs j x) in
      let first : IsPermutation (if_kept x ++ (if_kept y ++ filter p xs)) (if_kept y ++ (if_kept x ++ filter p xs)) = front_behind (if_kept x) (if_kept y) (filter p xs) in
      let inner : IsPermutation (if_kept y ++ (if_kept x ++ filter p xs)) (if_kept y ++ (if_kept z ++ rest)) = IsPermutation-append_right (if_kept y) (if_kept x ++ filter p xs) (if_kept z ++ rest) (kept_changed x xs j d (omega (arith, low))) in
      let last : IsPermutation (if_kept y ++ (if_kept z ++ rest)) (if_kept z ++ (if_kept y ++ rest)) = front_behind (if_kept y) (if_kept z) rest in
      subst (λ l. IsPermutation (if_kept x ++ l) (if_kept z ++ filter p (y ∷ set xs j x))) (sym (kept-cons y xs))
      (subst (λ r. IsPermutation (if_kept x ++ (if_kept y ++ filter p xs)) (if_kept z ++ r)) (sym (kept-cons y (set xs j x)))
      (IsPermutation-trans (if_kept x ++ (if_kept y ++ filter p xs)) (if_kept y ++ (if_kept x ++ filter p xs)) (if_kept z ++ (if_kept y ++ rest)) first
      (IsPermutation-trans (if_kept y ++ (if_kept x ++ filter p xs)) (if_kept y ++ (if_kept z ++ rest)) (if_kept z ++ (if_kept y ++ rest)) inner last)))

  -- two elements that change places
  kept_exchanged : (xs : List X) (i j : ℕ) (d : X) → i < length xs → j < length xs → IsPermutation (filter p xs) (filter p (set (set xs i (get_or xs j d)) j (get_or xs i d)))
  kept_exchanged [] i j d low high = absurd (omega (arith, low))
  kept_exchanged (x ∷ xs) zero zero d low high = IsPermutation-refl (filter p (x ∷ xs))
  kept_exchanged (x ∷ xs) zero (suc j) d low high =
      subst (λ l. IsPermutation l (filter p (get_or xs j d ∷ set xs j x))) (sym (kept-cons x xs))
      (subst (IsPermutation (if_kept x ++ filter p xs)) (sym (kept-cons (get_or xs j d) (set xs j x))) (kept_changed x xs j d (omega (arith, high))))
  kept_exchanged (x ∷ xs) (suc i) zero d low high =
      subst (λ l. IsPermutation l (filter p (get_or xs i d ∷ set xs i x))) (sym (kept-cons x xs))
      (subst (IsPermutation (if_kept x ++ filter p xs)) (sym (kept-cons (get_or xs i d) (set xs i x))) (kept_changed x xs i d (omega (arith, low))))
  kept_exchanged (x ∷ xs) (suc i) (suc j) d low high =
      let now = set (set xs i (get_or xs j d)) j (get_or xs i d) in
      subst (λ l. IsPermutation l (filter p (x ∷ now))) (sym (kept-cons x xs))
      (subst (IsPermutation (if_kept x ++ filter p xs)) (sym (kept-cons x now))
      (IsPermutation-append_right (if_kept x) (filter p xs) (filter p now) (kept_exchanged xs i j d (omega (arith, low)) (omega (arith, high)))))

  -- the same elements in another order, of which some are left
  pub perm_filter : (xs ys : List X) → IsPermutation xs ys → IsPermutation (filter p xs) (filter p ys)
  perm_filter xs ys = IsPermutation-keeps xs (λ l. IsPermutation (filter p xs) (filter p l)) (IsPermutation-refl (filter p xs)) (λ l i j low high so_far.
      let d : X = get_or_of l i low in
      IsPermutation-trans (filter p xs) (filter p l) (filter p (swap l i j)) so_far (subst (λ r. IsPermutation (filter p l) (filter p r)) (swap_is l i j d low high) (kept_exchanged l i j d low high))) ys
    where
      -- an element of a list that has one
      get_or_of : (l : List X) (i : ℕ) → i < length l → X
      get_or_of [] i low = absurd (omega (arith, low))
      get_or_of (x ∷ l) i low = x

-- an element that passed is one of all
of_kept : {X : Type 0} (p : X → Bool) (xs : List X) (z : X) → Contains (filter p xs) z → Contains xs z
of_kept p [] z there = there
of_kept p (x ∷ xs) z there = elim (cases_Bool (p x)) [
  | inl passes ↦ elim (contains_cases z x (filter p xs) (subst (λ all. Contains all z) (filter_first p x xs passes) there)) [
    | inl first ↦ (0, omega arith, first)
    | inr later ↦ contains_more z x xs (of_kept p xs z later)
  ]
  | inr fails ↦ contains_more z x xs (of_kept p xs z (subst (λ all. Contains all z) (filter_past p x xs fails) there))
]

-- what holds of all holds of those that passed
each_kept : {X : Type 0} (P : X → Type 0) (p : X → Bool) (xs : List X) → AllByRecursion P xs → AllByRecursion P (filter p xs)
each_kept P p xs each = each_in P (filter p xs) (λ x there. each_of P xs x each (of_kept p xs x there))

-- ---- where rows lie

-- the slot of a row of a block
record IsInSlot (block at : ℕ) (slots : List (Option Row)) (placed : PlacedRow) : Type 0 where
  place : ℕ
  slot_is : placed.rid.slot ≡ at + place
  block_is : placed.rid.block ≡ block
  row_is : get_or slots place None ≡ Some placed.row

in_slot : (block at : ℕ) (slots : List (Option Row)) (placed : PlacedRow) → Contains (rows_from_slot block at slots) placed → IsInSlot block at slots placed
in_slot block at [] placed there = absurd (omega (arith, there.1))
in_slot block at (None ∷ slots) placed there =
    let later = in_slot block (at + 1) slots placed there in
    record { place = suc later.place; slot_is = omega (arith, later.slot_is); block_is = later.block_is; row_is = later.row_is }
in_slot block at (Some row ∷ slots) placed there = elim (contains_cases placed (record { rid = record { block = block; slot = at }; row = row }) (rows_from_slot block (at + 1) slots) there) [
  | inl first ↦ record { place = 0; slot_is = omega (arith, ap (λ (p : PlacedRow). p.rid.slot) first); block_is = ap (λ (p : PlacedRow). p.rid.block) (sym first); row_is = ap (λ (p : PlacedRow). Some p.row) first }
  | inr behind ↦
      let later = in_slot block (at + 1) slots placed behind in
      record { place = suc later.place; slot_is = omega (arith, later.slot_is); block_is = later.block_is; row_is = later.row_is }
]

module _ {S : Type 0} (g : Ghosts S) (shape : Shape) (s : S) (def : TableDef) (owners : List Kind) (forests : TableForests) (st : StandsTable g shape s def owners forests) where
  -- each row of a table that stands lies where it says
  pub row_lies : (placed : PlacedRow) → Contains (rows_in_table shape (pages_of g s) def forests.map) placed
      → (slots : List (Option Row)) × IsRowAt (spots_of g shape s def owners forests) placed.rid placed.row slots
  row_lies placed there =
      let (block, used, within) = flat_contains (rows_in_block shape (pages_of g s) def) (used_blocks forests.map) placed there in
      let slots = block_slots shape (pages_of g s) def block in
      let in_place = in_slot block 0 slots placed within in
      let slot_is : placed.rid.slot ≡ in_place.place = omega (arith, in_place.slot_is) in
      let used_here : Contains (used_blocks forests.map) placed.rid.block = subst (Contains (used_blocks forests.map)) (sym in_place.block_is) used in (
        slots,
        record {
          within = omega (arith, (named_owned shape owners def forests.map 1 placed.rid.block st.map used_here).0, length-spots shape (pages_of g s) def owners forests.map);
          block = λ d. used_spot shape (pages_of g s) def owners forests.map placed.rid.block d st.map used_here ∙ ap (λ e. UsedBlock (block_slots shape (pages_of g s) def e)) in_place.block_is;
          slot = ap (λ k. get_or slots k None) slot_is ∙ in_place.row_is;
        },
      )

  module _ (pred : Option Pred) (hits : List Hit) (finds : FindsRows g shape s def pred hits forests) where
    -- so does each that a scan found
    pub found_rows_lie : (placed : PlacedRow) → Contains (map placed_row hits) placed
        → (slots : List (Option Row)) × IsRowAt (spots_of g shape s def owners forests) placed.rid placed.row slots
    found_rows_lie placed there =
        let p : PlacedRow → Bool = λ placed. qualifies pred placed.row.values in
        let rows = rows_in_table shape (pages_of g s) def forests.map in
        row_lies placed (of_kept p rows placed (Contains-permutation (map placed_row hits) (filter p rows) placed (IsPermutation-sym (filter p rows) (map placed_row hits) finds.found) there))

-- ---- in which order they are

-- the rows of what was found
rows_of_hits : (hits : List Hit) → map (λ (placed : PlacedRow). placed.row) (map placed_row hits) ≡ map (λ (hit : Hit). hit.row) hits
rows_of_hits [] = refl
rows_of_hits (hit ∷ hits) = ap (λ rest. hit.row ∷ rest) (rows_of_hits hits)

-- what is made of a list rises as the list does; from a default of the one list there is one of the other
rises_mapped : {X Y : Type 0} (f : X → Y) (n : Y → ℕ) (back : Y → X) (xs : List X) → AllPairs (λ a b. n (f a) < n (f b)) xs → AllPairs (λ a b. n a < n b) (map f xs)
rises_mapped f n back xs rise i j d below within =
    let high : j < length xs = omega (arith, within, length-map xs f) in
    omega (
      arith,
      ap n (get_or-map f xs i (back d) d (omega (arith, below, high))),
      ap n (get_or-map f xs j (back d) d high),
      rise i j (back d) below high,
    )

-- so do the rows of what was found, and the placed ones
pub rows_rise : (hits : List Hit) → AllPairs (λ a b. a.row.number < b.row.number) hits → AllPairs (λ a b. a.number < b.number) (map (λ hit. hit.row) hits)
rows_rise hits rise = rises_mapped (λ (hit : Hit). hit.row) (λ (row : Row). row.number) (λ (row : Row). record { rid = record { block = 0; slot = 0 }; row = row }) hits rise

pub placed_rise : (hits : List Hit) → AllPairs (λ a b. a.row.number < b.row.number) hits → AllPairs (λ a b. a.row.number < b.row.number) (map placed_row hits)
placed_rise hits rise = rises_mapped placed_row (λ (placed : PlacedRow). placed.row.number) (λ (placed : PlacedRow). record { rid = placed.rid; row = placed.row }) hits rise

module _ {S : Type 0} (g : Ghosts S) (shape : Shape) (s : S) (def : TableDef) (pred : Option Pred) (hits : List Hit) (forests : TableForests) (finds : FindsRows g shape s def pred hits forests) where
  -- row numbers that differ rise in what a scan found
  pub found_rows_rise : AreRowNumbersSound def (rows_in_table shape (pages_of g s) def forests.map) → AllPairs (λ a b. a.row.number < b.row.number) hits
  found_rows_rise numbers i j d below within =
      let p : PlacedRow → Bool = λ placed. qualifies pred placed.row.values in
      let rows = rows_in_table shape (pages_of g s) def forests.map in
      let kept : AreRowNumbersSound def (filter p rows) = record {
        below_next = each_kept (λ placed. placed.row.number < def.next) p rows numbers.below_next;
        differ = AllPairs-filter (λ a b. a.row.number ≢ b.row.number) p rows numbers.differ;
      } in
      let differ = (numbers_in_order def (filter p rows) (map placed_row hits) finds.found kept).differ in
      elim (cases_lt (get_or hits i d).row.number (get_or hits j d).row.number) [
        | inl low ↦ low
        | inr high ↦ absurd (differ i j (placed_row d) below (omega (arith, within, length-map hits placed_row))
            (ap (λ (placed : PlacedRow). placed.row.number) (get_or-map placed_row hits i d (placed_row d) (omega (arith, below, within)))
            ∙ ((omega (arith, high, finds.in_order i j d below within))
            ∙ ap (λ (placed : PlacedRow). placed.row.number) (sym (get_or-map placed_row hits j d (placed_row d) within)))))
      ]

  -- what a scan found is what qualifies of the plain table that the pages stand for
  pub found_hits : (rows : List Row) → IsPermutation (map (λ placed. placed.row) (rows_in_table shape (pages_of g s) def forests.map)) rows
      → AllPairs (λ a b. a.number < b.number) rows → AllPairs (λ a b. a.row.number < b.row.number) hits
      → map (λ hit. hit.row) hits ≡ filter (λ row. qualifies pred row.values) rows
  found_hits rows same rise hits_rise =
      let p : PlacedRow → Bool = λ placed. qualifies pred placed.row.values in
      let q : Row → Bool = λ row. qualifies pred row.values in
      let row_of : PlacedRow → Row = λ placed. placed.row in
      let all = rows_in_table shape (pages_of g s) def forests.map in
      let found : IsPermutation (filter q (map row_of all)) (map (λ (hit : Hit). hit.row) hits) =
      subst (λ l. IsPermutation l (map (λ (hit : Hit). hit.row) hits)) (map_kept row_of q all)
      (subst (IsPermutation (map row_of (filter p all))) (rows_of_hits hits) (IsPermutation-map row_of (filter p all) (map placed_row hits) finds.found)) in
      one_order (filter q (map row_of all)) (map (λ (hit : Hit). hit.row) hits) (filter q rows) found (perm_filter q (map row_of all) rows same)
      (rows_rise hits hits_rise) (AllPairs-filter (λ (a b : Row). a.number < b.number) q rows rise)
