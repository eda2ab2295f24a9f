-- The rows of a table in parts of its lists.
use Rattle.std.proofs.Common.{◌≡◌, ◌≢◌, ◌<◌, ◌∙◌, inl, inr, ℕ, suc, List, [], ◌∷◌, ◌++◌, Bool, true, false, append-nil, ap, arith, refl, subst, sym}
use Rattle.std.specs.Prelude.{◌&&◌, ◌||◌, ◌==◌, AllPairs, Contains, IsPermutation, filter, flat_map}
use Rattle.std.proofs.lemmas.Bool.{and_parts, cases_Bool, eq-eqb, eqb-true, ne_eqb, or_left, or_right}
use Rattle.std.proofs.lemmas.List.Elements.{filter-append}
use Rattle.std.proofs.lemmas.List.Sorted.{IsPermutation-append_right, IsPermutation-refl, IsPermutation-trans}
use Rattle.block_map.proofs.MapLinesLemmas.{contains_cases, contains_more}
use Rattle.mdc_values.specs.Rising.{IsLower, IsRising}
use Rattle.mdc_values.specs.declared.rid.Rid.{Rid}
use Rattle.block_lists.specs.declared.part.Part.{Part}
use Rattle.block_lists.specs.Parts.{blocks_of, in_part, in_parts, in_slots}
use Rattle.block_lists.proofs.PartLemmas.{IsAbove}
use Rattle.block_lists.proofs.WalkLemmas.{rising_tail}
use Rattle.mdc_sound.specs.TableRows.{PlacedRow}
use Rattle.executor.proofs.PassingLemmas.{filter_none, filter_same, filter_split}
use Rattle.executor.specs.PartRows.{rows_in_parts}
use Rattle.table_scan.proofs.ScanningLemmas.{filter_first, filter_past}

-- ---- rows of one block

module _ (rows_of : ℕ → List PlacedRow) (own : (b : ℕ) (placed : PlacedRow) → Contains (rows_of b) placed → placed.rid.block ≡ b) (p : PlacedRow → Bool) (block : ℕ) where
  abbrev here : PlacedRow → Bool
  here placed = (block == placed.rid.block) && p placed

  of_other : (b : ℕ) → block ≢ b → filter here (rows_of b) ≡ []
  of_other b other = filter_none here (rows_of b) (λ placed there. ap (λ t. t && p placed) (ne_eqb block placed.rid.block (λ same. other (same ∙ own b placed there))))

  of_block : filter here (rows_of block) ≡ filter p (rows_of block)
  of_block = filter_same here p (rows_of block) (λ placed there. ap (λ t. t && p placed) (eq-eqb block placed.rid.block (sym (own block placed there))))

  -- a block that isn't among those of the table has none
  pub rows_of_no_block : (blocks : List ℕ) → (Contains blocks block → ⊥) → filter here (flat_map rows_of blocks) ≡ []
  rows_of_no_block [] outside = refl
  rows_of_no_block (b ∷ blocks) outside =
      filter-append here (rows_of b) (flat_map rows_of blocks)
      ∙ (ap (λ l. l ++ filter here (flat_map rows_of blocks)) (of_other b (λ same. outside (0, omega arith, sym same)))
      ∙ rows_of_no_block blocks (λ there. outside (contains_more block b blocks there)))

  -- one that is among them, each of which is there once, has its own
  pub rows_of_one_block : (blocks : List ℕ) → AllPairs (λ a b. a ≢ b) blocks → Contains blocks block → filter here (flat_map rows_of blocks) ≡ filter p (rows_of block)
  rows_of_one_block [] differ (k, low, at) = absurd (omega (arith, low))
  rows_of_one_block (b ∷ blocks) differ there =
      let rest : AllPairs (λ a b. a ≢ b) blocks = λ i j d below within. differ (suc i) (suc j) d (omega (arith, below)) (omega (arith, within)) in
      elim (contains_cases block b blocks there) [
        | inl is ↦
            let outside : Contains blocks block → ⊥ = λ (k, low, at). differ 0 (suc k) block (omega arith) (omega (arith, low)) (is ∙ sym at) in
            filter-append here (rows_of b) (flat_map rows_of blocks)
            ∙ (ap (λ l. filter here (rows_of b) ++ l) (rows_of_no_block blocks outside) ∙ (append-nil (filter here (rows_of b)) ∙ (ap (λ n. filter here (rows_of n)) is ∙ of_block)))
        | inr later ↦
            let other : block ≢ b = λ same. differ 0 (suc later.0) block (omega arith) (omega (arith, later.1)) (sym same ∙ sym later.2) in
            filter-append here (rows_of b) (flat_map rows_of blocks) ∙ (ap (λ l. l ++ filter here (flat_map rows_of blocks)) (of_other b other) ∙ rows_of_one_block blocks rest later)
      ]

-- ---- the part of a row

pub in_parts_of : (parts : List Part) (part : Part) (rid : Rid) → Contains parts part → in_part part rid ≡ true → in_parts parts rid ≡ true
in_parts_of [] part rid (k, low, at) is = absurd (omega (arith, low))
in_parts_of (first ∷ parts) part rid there is = elim (contains_cases part first parts there) [
  | inl same ↦ or_left (in_part first rid) (in_parts parts rid) (ap (λ (p : Part). in_part p rid) same ∙ is)
  | inr later ↦ or_right (in_part first rid) (in_parts parts rid) (in_parts_of parts part rid later is)
]

pub part_with : (parts : List Part) (rid : Rid) → in_parts parts rid ≡ true → (part : Part) × Contains parts part × (in_part part rid ≡ true)
part_with [] rid is = cc
part_with (part ∷ parts) rid is = elim (cases_Bool (in_part part rid)) [
  | inl here ↦ (part, (0, omega arith, refl), here)
  | inr not ↦ let rest = part_with parts rid (sym (ap (λ b. b || in_parts parts rid) not) ∙ is) in (rest.0, contains_more rest.0 part parts rest.1, rest.2)
]

pub block_of_row : (part : Part) (rid : Rid) → in_part part rid ≡ true → part.block ≡ rid.block
block_of_row part rid is = eqb-true part.block rid.block (and_parts (part.block == rid.block) (in_slots part.slots rid.slot) is).0

-- ---- rows of parts of rising blocks

-- the parts are of higher blocks
all_above : (n : ℕ) (part : Part) (parts : List Part) → n < part.block → IsRising IsLower (blocks_of (part ∷ parts)) → IsAbove n parts
all_above n part [] low rise = tt
all_above n part (next ∷ parts) low rise = omega (arith, low, rise.0)

above_first : (part : Part) (parts : List Part) → IsRising IsLower (blocks_of (part ∷ parts)) → IsAbove part.block parts
above_first part [] rise = tt
above_first part (next ∷ parts) rise = rise.0

-- which have no row of this one
not_in_above : (rid : Rid) (parts : List Part) → IsAbove rid.block parts → IsRising IsLower (blocks_of parts) → in_parts parts rid ≡ false
not_in_above rid [] above rise = refl
not_in_above rid (part ∷ parts) above rise =
    ap (λ b. (b && in_slots part.slots rid.slot) || in_parts parts rid) (ne_eqb part.block rid.block (λ same. omega (arith, above, same)))
    ∙ not_in_above rid parts (all_above rid.block part parts above rise) (rising_tail IsLower part.block (blocks_of parts) rise)

module _ (rows : List PlacedRow) where
  -- the rows that parts of rising blocks have together, part by part
  pub rows_part_by_part : (parts : List Part) → IsRising IsLower (blocks_of parts) → IsPermutation (filter (λ placed. in_parts parts placed.rid) rows) (rows_in_parts rows parts)
  rows_part_by_part [] rise = subst (λ l. IsPermutation l []) (sym (filter_none (λ placed. in_parts [] placed.rid) rows (λ placed there. refl))) (IsPermutation-refl [])
  rows_part_by_part (part ∷ parts) rise =
      let first : PlacedRow → Bool = λ placed. in_part part placed.rid in
      let others : PlacedRow → Bool = λ placed. in_parts parts placed.rid in
      let all : PlacedRow → Bool = λ placed. in_parts (part ∷ parts) placed.rid in
      let tail = rising_tail IsLower part.block (blocks_of parts) rise in
      IsPermutation-trans (filter all rows) (filter first rows ++ filter others rows) (filter first rows ++ rows_in_parts rows parts)
      (filter_split first others all rows (λ placed there. refl) (λ placed there is.
      not_in_above placed.rid parts (subst (λ n. IsAbove n parts) (block_of_row part placed.rid is) (above_first part parts rise)) tail))
      (IsPermutation-append_right (filter first rows) (filter others rows) (rows_in_parts rows parts) (rows_part_by_part parts tail))

-- ---- the parts with a row

module _ (p : Part → Bool) where
  above_kept : (n : ℕ) (parts : List Part) → IsAbove n parts → IsRising IsLower (blocks_of parts) → IsAbove n (filter p parts)
  above_kept n [] above rise = tt
  above_kept n (part ∷ parts) above rise = elim (cases_Bool (p part)) [
    | inl passes ↦ subst (IsAbove n) (sym (filter_first p part parts passes)) above
    | inr fails ↦ subst (IsAbove n) (sym (filter_past p part parts fails)) (above_kept n parts (all_above n part parts above rise) (rising_tail IsLower part.block (blocks_of parts) rise))
  ]

  behind_above : (part : Part) (parts : List Part) → IsAbove part.block parts → IsRising IsLower (blocks_of parts) → IsRising IsLower (blocks_of (part ∷ parts))
  behind_above part [] above rise = tt
  behind_above part (next ∷ parts) above rise = (above, rise)

  -- parts of rising blocks that pass a test are of rising blocks
  pub rising_kept : (parts : List Part) → IsRising IsLower (blocks_of parts) → IsRising IsLower (blocks_of (filter p parts))
  rising_kept [] rise = tt
  rising_kept (part ∷ parts) rise =
      let tail = rising_tail IsLower part.block (blocks_of parts) rise in
      elim (cases_Bool (p part)) [
        | inl passes ↦
            subst (λ l. IsRising IsLower (blocks_of l)) (sym (filter_first p part parts passes)) (behind_above part (filter p parts) (above_kept part.block parts (above_first part parts rise) tail) (rising_kept parts tail))
        | inr fails ↦ subst (λ l. IsRising IsLower (blocks_of l)) (sym (filter_past p part parts fails)) (rising_kept parts tail)
      ]
