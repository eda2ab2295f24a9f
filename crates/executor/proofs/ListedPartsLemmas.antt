-- What a part of lists says of them.
use Rattle.std.proofs.Common.{◌≡◌, ◌∙◌, ◌⊎◌, inl, inr, ℕ, List, [], ◌∷◌, false, true, ap, arith, refl, subst, sym}
use Rattle.std.specs.Prelude.{◌==◌, Contains, None, Option, Some}
use Rattle.std.specs.List.{list_any}
use Rattle.std.specs.Option.{option_map}
use Rattle.std.proofs.lemmas.Bool.{and_from, cases_eq, eq-eqb, false≢true, ne_eqb, or_from, or_left, or_right}
use Rattle.block_map.proofs.MapLinesLemmas.{contains_cases, contains_more}
use Rattle.mdc_values.specs.declared.rid.Rid.{Rid}
use Rattle.block_lists.specs.Lists.{AreLists}
use Rattle.block_lists.specs.Parts.{AreSlots, blocks_of, in_part, in_slots, parts_of, parts_of_rids, rid_at, some_slots, whole_block, with_block, with_slot}
use Rattle.block_lists.specs.Places.{has_number, in_block}
use Rattle.block_lists.specs.declared.part.Part.{Part}
use Rattle.block_lists.proofs.NumberLemmas.{numbers_order}
use Rattle.block_lists.proofs.PartLemmas.{grown, lists_rest, lower_or_not, named-parts_of, none_in_block, with_block-behind, with_block-lower, with_slot-other, with_slot-same}
use Rattle.block_lists.proofs.WalkLemmas.{not_in_rest}
use Rattle.mdc_sound.proofs.ElementsLemmas.{in_map}
use Rattle.plan_lists.proofs.ListedLemmas.{in_numbers}

-- none of these parts is a whole block
abbrev NoneIsWhole : List Part → Type 0
NoneIsWhole parts = (part : Part) → Contains parts part → part.slots ≡ None → ⊥

none_at_first : (first : Part) (parts : List Part) → (first.slots ≡ None → ⊥) → NoneIsWhole parts → NoneIsWhole (first ∷ parts)
none_at_first first parts not none part there is = elim (contains_cases part first parts there) [
  | inl same ↦ not (ap (λ (p : Part). p.slots) same ∙ is)
  | inr later ↦ none part later is
]

not_none : (block : ℕ) (slots : List ℕ) → (some_slots block slots).slots ≡ None → ⊥
not_none block slots is = absurd cc

still_some : (slot : ℕ) (slots : Option (List ℕ)) → option_map (λ more. slot ∷ more) slots ≡ None → slots ≡ None
still_some slot None is = refl
still_some slot (Some slots) is = absurd cc

whole_with_slot : (rid : Rid) (parts : List Part) → NoneIsWhole parts → NoneIsWhole (with_slot rid parts)
whole_with_slot rid [] none = none_at_first (some_slots rid.block (rid.slot ∷ [])) [] (not_none rid.block (rid.slot ∷ [])) none
whole_with_slot rid (first ∷ parts) none =
    let rest : NoneIsWhole parts = λ part there. none part (contains_more part first parts there) in
    elim (cases_eq rid.block first.block) [
      | inl same ↦
          subst NoneIsWhole (sym (with_slot-same rid first parts same))
          (none_at_first (grown rid first) parts (λ is. none first (0, omega arith, refl) (still_some rid.slot first.slots is)) rest)
      | inr other ↦
          subst NoneIsWhole (sym (with_slot-other rid first parts other))
          (none_at_first (some_slots rid.block (rid.slot ∷ [])) (first ∷ parts) (not_none rid.block (rid.slot ∷ [])) none)
    ]

none_of_rids : (rids : List Rid) → NoneIsWhole (parts_of_rids rids)
none_of_rids [] part there is = absurd (omega (arith, there.1))
none_of_rids (rid ∷ rids) part there is = whole_with_slot rid (parts_of_rids rids) (none_of_rids rids) part there is

in_with_block : (block : ℕ) (parts : List Part) (part : Part) → Contains (with_block block parts) part → (whole_block block ≡ part) ⊎ Contains parts part
in_with_block block [] part there = contains_cases part (whole_block block) [] there
in_with_block block (first ∷ parts) part there = elim (lower_or_not block first.block) [
  | inl low ↦ contains_cases part (whole_block block) (first ∷ parts) (subst (λ l. Contains l part) (with_block-lower block first parts low) there)
  | inr high ↦ elim (contains_cases part first (with_block block parts) (subst (λ l. Contains l part) (with_block-behind block first parts high) there)) [
    | inl same ↦ inr (0, omega arith, same)
    | inr later ↦ elim (in_with_block block parts part later) [ inl it ↦ inl it | inr more ↦ inr (contains_more part first parts more) ]
  ]
]

-- a part without slots is of a block that the lists name whole
pub whole_is_listed : (blocks : List ℕ) (rids : List Rid) (part : Part) → Contains (parts_of blocks rids) part → part.slots ≡ None → has_number blocks part.block ≡ true
whole_is_listed [] rids part there is = absurd (none_of_rids rids part there is)
whole_is_listed (block ∷ blocks) rids part there is = elim (in_with_block block (parts_of blocks rids) part there) [
  | inl it ↦ or_left (block == part.block) (has_number blocks part.block) (eq-eqb block part.block (ap (λ (p : Part). p.block) it))
  | inr more ↦ or_right (block == part.block) (has_number blocks part.block) (whole_is_listed blocks rids part more is)
]

-- a part with some slots is of a block that they don't name whole
pub listed_not_whole : (blocks : List ℕ) (rids : List Rid) → AreLists blocks rids → (part : Part) (slots : List ℕ) → Contains (parts_of blocks rids) part → part.slots ≡ Some slots → has_number blocks part.block ≡ false
listed_not_whole [] rids are part slots there some = refl
listed_not_whole (block ∷ blocks) rids are part slots there some = elim (in_with_block block (parts_of blocks rids) part there) [
  | inl whole ↦ let wrong : None ≡ Some slots = ap (λ (p : Part). p.slots) whole ∙ some in absurd cc
  | inr more ↦
      let rest = lists_rest block blocks rids are in
      let new : has_number (blocks_of (parts_of blocks rids)) block ≡ false =
      named-parts_of blocks rids block
      ∙ or_from (has_number blocks block) (in_block rids block) (not_in_rest numbers_order block blocks are.blocks_rise)
      (none_in_block (block ∷ blocks) rids block are.apart (or_left (block == block) (has_number blocks block) (eq-eqb block block refl))) in
      let other : block ≡ part.block → ⊥ = λ same.
      false≢true (sym new ∙ (ap (has_number (blocks_of (parts_of blocks rids))) same ∙ in_numbers (blocks_of (parts_of blocks rids)) part.block (in_map (λ (p : Part). p.block) (parts_of blocks rids) part more))) in
      or_from (block == part.block) (has_number blocks part.block) (ne_eqb block part.block other) (listed_not_whole blocks rids rest part slots more some)
]

-- a place of a part
pub place_in : (part : Part) → AreSlots part.slots → (rid : Rid) × (rid.block ≡ part.block) × (in_part part rid ≡ true)
place_in part are = at part.slots refl are
  where
    at : (slots : Option (List ℕ)) → part.slots ≡ slots → AreSlots slots → (rid : Rid) × (rid.block ≡ part.block) × (in_part part rid ≡ true)
    at None is are = (rid_at part.block 0, refl, and_from (part.block == part.block) (in_slots part.slots 0) (eq-eqb part.block part.block refl) (ap (λ slots. in_slots slots 0) is))
    at (Some []) is are = absurd (omega (arith, are.0))
    at (Some (slot ∷ slots)) is are = (
      rid_at part.block slot,
      refl,
      and_from (part.block == part.block) (in_slots part.slots slot) (eq-eqb part.block part.block refl)
          (ap (λ those. in_slots those slot) is ∙ or_left (slot == slot) (list_any (λ s. s == slot) slots) (eq-eqb slot slot refl)),
    )
