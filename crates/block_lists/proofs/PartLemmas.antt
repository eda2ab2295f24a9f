-- The parts of blocks and of places: which rows they have, and that they rise.
use Rattle.std.proofs.Common.{◌≡◌, ◌∙◌, ◌⊎◌, inl, inr, ℕ, ◌<◌, ◌≤◌, ◌==◌, List, [], ◌∷◌, Bool, true, false, Option, Some, None, refl, sym, ap, subst, arith}
use Rattle.std.specs.Prelude.{◌&&◌, ◌||◌, nat_lt, if◌then◌else◌, All}
use Rattle.std.specs.List.{list_any}
use Rattle.std.specs.Option.{option_map}
use Rattle.std.proofs.Math.Bool.{and-true, or-false}
use Rattle.std.proofs.lemmas.Bool.{cases_eq, eq-eqb, false≢true, le-ltb, lt-ltb, ltb-false, ltb-true, ne_eqb, or_from}
use Rattle.std.proofs.lemmas.List.Elements.{All-cons, All-head, All-nil, All-tail}
use Rattle.mdc_values.specs.declared.rid.Rid.{Rid}
use Rattle.mdc_values.specs.Rising.{IsEarlier, IsLower, IsRising}
use Rattle.block_lists.specs.declared.part.Part.{Part}
use Rattle.block_lists.specs.Lists.{AreLists}
use Rattle.block_lists.specs.Parts.{AreSlots, StandForRows, blocks_of, in_part, in_parts, in_slots, parts_of, parts_of_rids, some_slots, whole_block, with_block, with_slot}
use Rattle.block_lists.specs.Places.{AreApart, has_number, has_rid, holds_in, in_block, same_rid}
use Rattle.block_lists.proofs.NumberLemmas.{numbers_order}
use Rattle.block_lists.proofs.PlaceLemmas.{rids_order}
use Rattle.block_lists.proofs.WalkLemmas.{not_in_rest, or-left, or-right, rising_tail}

-- ---- one more block, one more slot

pub lower_or_not : (a b : ℕ) → (a < b) ⊎ (b ≤ a)
lower_or_not a b = by_test (nat_lt a b) refl where
  by_test : (t : Bool) → nat_lt a b ≡ t → (a < b) ⊎ (b ≤ a)
  by_test true e = inl (ltb-true a b e)
  by_test false e = inr (ltb-false a b e)

-- the first part with a slot more
abbrev pub grown : Rid → Part → Part
grown rid part = record { block = part.block; slots = option_map (λ slots. rid.slot ∷ slots) part.slots }

pub with_block-lower : (block : ℕ) (part : Part) (parts : List Part) → block < part.block → with_block block (part ∷ parts) ≡ whole_block block ∷ part ∷ parts
with_block-lower block part parts lt = ap (λ c. if c then whole_block block ∷ part ∷ parts else part ∷ with_block block parts) (lt-ltb block part.block lt)

pub with_block-behind : (block : ℕ) (part : Part) (parts : List Part) → part.block ≤ block → with_block block (part ∷ parts) ≡ part ∷ with_block block parts
with_block-behind block part parts le = ap (λ c. if c then whole_block block ∷ part ∷ parts else part ∷ with_block block parts) (le-ltb block part.block le)

pub with_slot-same : (rid : Rid) (part : Part) (parts : List Part) → rid.block ≡ part.block → with_slot rid (part ∷ parts) ≡ grown rid part ∷ parts
with_slot-same rid part parts e = ap (λ c. if c then grown rid part ∷ parts else some_slots rid.block (rid.slot ∷ []) ∷ part ∷ parts) (eq-eqb rid.block part.block e)

pub with_slot-other : (rid : Rid) (part : Part) (parts : List Part) → (rid.block ≡ part.block → ⊥) → with_slot rid (part ∷ parts) ≡ some_slots rid.block (rid.slot ∷ []) ∷ part ∷ parts
with_slot-other rid part parts n = ap (λ c. if c then grown rid part ∷ parts else some_slots rid.block (rid.slot ∷ []) ∷ part ∷ parts) (ne_eqb rid.block part.block n)

-- ---- which rows parts have

swapped : (p q r : Bool) → (p || (q || r)) ≡ (q || (p || r))
swapped true true r = refl
swapped true false r = refl
swapped false q r = refl

or-assoc : (a b c : Bool) → (a || (b || c)) ≡ ((a || b) || c)
or-assoc true b c = refl
or-assoc false b c = refl

in_parts-with_block : (block : ℕ) (parts : List Part) (rid : Rid) → in_parts (with_block block parts) rid ≡ ((block == rid.block) || in_parts parts rid)
in_parts-with_block block [] rid = ap (λ p. p || false) (and-true (block == rid.block))
in_parts-with_block block (part ∷ parts) rid = elim (lower_or_not block part.block) [
  | inl lt ↦ ap (λ ps. in_parts ps rid) (with_block-lower block part parts lt) ∙ ap (λ p. p || in_parts (part ∷ parts) rid) (and-true (block == rid.block))
  | inr le ↦
      ap (λ ps. in_parts ps rid) (with_block-behind block part parts le) ∙ ap (λ p. in_part part rid || p) (in_parts-with_block block parts rid)
      ∙ swapped (in_part part rid) (block == rid.block) (in_parts parts rid)
]

-- a slot more of a block: whatever is in it
slot_more : (here slot more : Bool) (slots : Option (List ℕ)) (s n : ℕ) → (s == n) ≡ slot → ((here && in_slots (option_map (λ ss. s ∷ ss) slots) n) || more) ≡ ((here && slot) || ((here && in_slots slots n) || more))
slot_more true true more None s n e = refl
slot_more true false more None s n e = refl
slot_more false slot more None s n e = refl
slot_more true slot more (Some slots) s n e = ap (λ p. (p || list_any (λ m. m == n) slots) || more) e ∙ sym (or-assoc slot (list_any (λ m. m == n) slots) more)
slot_more false slot more (Some slots) s n e = refl

in_parts-with_slot : (own : Rid) (parts : List Part) (rid : Rid) → in_parts (with_slot own parts) rid ≡ (same_rid own rid || in_parts parts rid)
in_parts-with_slot own [] rid = ap (λ p. ((own.block == rid.block) && p) || false) (or-false (own.slot == rid.slot))
in_parts-with_slot own (part ∷ parts) rid = elim (cases_eq own.block part.block) [
  | inl e ↦
      ap (λ ps. in_parts ps rid) (with_slot-same own part parts e)
      ∙ slot_more (part.block == rid.block) (own.slot == rid.slot) (in_parts parts rid) part.slots own.slot rid.slot refl
      ∙ ap (λ n. ((n == rid.block) && (own.slot == rid.slot)) || in_parts (part ∷ parts) rid) (sym e)
  | inr n ↦
      ap (λ ps. in_parts ps rid) (with_slot-other own part parts n)
      ∙ ap (λ p. ((own.block == rid.block) && p) || in_parts (part ∷ parts) rid) (or-false (own.slot == rid.slot))
]

in_parts-parts_of_rids : (rids : List Rid) (rid : Rid) → in_parts (parts_of_rids rids) rid ≡ has_rid rids rid
in_parts-parts_of_rids [] rid = refl
in_parts-parts_of_rids (own ∷ rids) rid = in_parts-with_slot own (parts_of_rids rids) rid ∙ ap (λ p. same_rid own rid || p) (in_parts-parts_of_rids rids rid)

pub in_parts-parts_of : (blocks : List ℕ) (rids : List Rid) (rid : Rid) → in_parts (parts_of blocks rids) rid ≡ holds_in blocks rids rid
in_parts-parts_of [] rids rid = in_parts-parts_of_rids rids rid
in_parts-parts_of (block ∷ blocks) rids rid =
    in_parts-with_block block (parts_of blocks rids) rid ∙ ap (λ p. (block == rid.block) || p) (in_parts-parts_of blocks rids rid)
    ∙ or-assoc (block == rid.block) (has_number blocks rid.block) (has_rid rids rid)

-- ---- of which blocks parts are

-- one of the parts is of the block
abbrev named : List Part → ℕ → Bool
named parts = has_number (blocks_of parts)

named-with_block : (block : ℕ) (parts : List Part) (n : ℕ) → named (with_block block parts) n ≡ ((block == n) || named parts n)
named-with_block block [] n = refl
named-with_block block (part ∷ parts) n = elim (lower_or_not block part.block) [
  | inl lt ↦ ap (λ ps. named ps n) (with_block-lower block part parts lt)
  | inr le ↦
      ap (λ ps. named ps n) (with_block-behind block part parts le) ∙ ap (λ p. (part.block == n) || p) (named-with_block block parts n)
      ∙ swapped (part.block == n) (block == n) (named parts n)
]

idem : (p q : Bool) → (p || q) ≡ (p || (p || q))
idem true q = refl
idem false q = refl

named-with_slot : (rid : Rid) (parts : List Part) (n : ℕ) → named (with_slot rid parts) n ≡ ((rid.block == n) || named parts n)
named-with_slot rid [] n = refl
named-with_slot rid (part ∷ parts) n = elim (cases_eq rid.block part.block) [
  | inl e ↦ ap (λ ps. named ps n) (with_slot-same rid part parts e) ∙ idem (part.block == n) (named parts n) ∙ ap (λ b. (b == n) || ((part.block == n) || named parts n)) (sym e)
  | inr other ↦ ap (λ ps. named ps n) (with_slot-other rid part parts other)
]

named-parts_of_rids : (rids : List Rid) (n : ℕ) → named (parts_of_rids rids) n ≡ in_block rids n
named-parts_of_rids [] n = refl
named-parts_of_rids (rid ∷ rids) n = named-with_slot rid (parts_of_rids rids) n ∙ ap (λ p. (rid.block == n) || p) (named-parts_of_rids rids n)

pub named-parts_of : (blocks : List ℕ) (rids : List Rid) (n : ℕ) → named (parts_of blocks rids) n ≡ (has_number blocks n || in_block rids n)
named-parts_of [] rids n = named-parts_of_rids rids n
named-parts_of (block ∷ blocks) rids n =
    named-with_block block (parts_of blocks rids) n ∙ ap (λ p. (block == n) || p) (named-parts_of blocks rids n) ∙ or-assoc (block == n) (has_number blocks n) (in_block rids n)

-- ---- parts rise

-- their blocks rise
abbrev RiseByBlock : List Part → Type 0
RiseByBlock parts = IsRising IsLower (blocks_of parts)

-- the first part, if there is one, is of a higher block
abbrev pub IsAbove : ℕ → List Part → Type 0
IsAbove n [] = Unit {0}
IsAbove n (part ∷ parts) = n < part.block

rising_behind : (part : Part) (parts : List Part) → IsAbove part.block parts → RiseByBlock parts → RiseByBlock (part ∷ parts)
rising_behind part [] above r = tt
rising_behind part (next ∷ parts) above r = (above, r)

above_rest : (part : Part) (parts : List Part) → RiseByBlock (part ∷ parts) → IsAbove part.block parts
above_rest part [] r = tt
above_rest part (next ∷ parts) r = r.0

pub above-with_block : (n block : ℕ) (parts : List Part) → n < block → IsAbove n parts → IsAbove n (with_block block parts)
above-with_block n block [] lt above = lt
above-with_block n block (part ∷ parts) lt above = elim (lower_or_not block part.block) [
  | inl lower ↦ subst (IsAbove n) (sym (with_block-lower block part parts lower)) lt
  | inr le ↦ subst (IsAbove n) (sym (with_block-behind block part parts le)) above
]

pub or_parts-false : (p q : Bool) → (p || q) ≡ false → (p ≡ false) × (q ≡ false)
or_parts-false true q h = absurd (false≢true (sym h))
or_parts-false false q h = (refl, h)

-- parts of rising blocks, none without a row
pub record AreParts (parts : List Part) : Type 0 where
  pub rise : RiseByBlock parts
  pub slots : All (λ part. AreSlots part.slots) parts

rising-with_block : (block : ℕ) (parts : List Part) → RiseByBlock parts → named parts block ≡ false → RiseByBlock (with_block block parts)
rising-with_block block [] r new = tt
rising-with_block block (part ∷ parts) r new = elim (lower_or_not block part.block) [
  | inl lt ↦ subst RiseByBlock (sym (with_block-lower block part parts lt)) (lt, r)
  | inr le ↦
      let both = or_parts-false (part.block == block) (named parts block) new in
      let other : part.block ≡ block → ⊥ = λ e. false≢true (sym both.0 ∙ eq-eqb part.block block e) in
      subst RiseByBlock (sym (with_block-behind block part parts le))
      (rising_behind part (with_block block parts) (above-with_block part.block block parts (omega (arith, le, other)) (above_rest part parts r))
      (rising-with_block block parts (rising_tail IsLower part.block (blocks_of parts) r) both.1))
]

slots-with_block : (block : ℕ) (parts : List Part) → All (λ part. AreSlots part.slots) parts → All (λ part. AreSlots part.slots) (with_block block parts)
slots-with_block block [] all = All-cons (λ part. AreSlots part.slots) (whole_block block) [] tt all
slots-with_block block (part ∷ parts) all = elim (lower_or_not block part.block) [
  | inl lt ↦
      subst (All (λ part. AreSlots part.slots)) (sym (with_block-lower block part parts lt))
      (All-cons (λ part. AreSlots part.slots) (whole_block block) (part ∷ parts) tt all)
  | inr le ↦
      subst (All (λ part. AreSlots part.slots)) (sym (with_block-behind block part parts le))
      (All-cons (λ part. AreSlots part.slots) part (with_block block parts) (All-head (λ part. AreSlots part.slots) part parts all)
      (slots-with_block block parts (All-tail (λ part. AreSlots part.slots) part parts all)))
]

-- the first part is of the place's block, and its first slot is that of the place
abbrev pub BeginsAt : Rid → List Part → Type 0
BeginsAt rid [] = ⊥
BeginsAt rid (part ∷ parts) = (part.block ≡ rid.block) × ((more : List ℕ) × (part.slots ≡ Some (rid.slot ∷ more)))

begins-with_slot : (rid next : Rid) (parts : List Part) → BeginsAt next parts → BeginsAt rid (with_slot rid parts)
begins-with_slot rid next [] at = absurd at
begins-with_slot rid next (part ∷ parts) at = elim (cases_eq rid.block part.block) [
  | inl e ↦ subst (BeginsAt rid) (sym (with_slot-same rid part parts e)) (sym e, (next.slot ∷ at.1.0, ap (option_map (λ slots. rid.slot ∷ slots)) at.1.1))
  | inr n ↦ subst (BeginsAt rid) (sym (with_slot-other rid part parts n)) (refl, ([], refl))
]

pub begins-parts_of_rids : (rid : Rid) (rids : List Rid) → BeginsAt rid (parts_of_rids (rid ∷ rids))
begins-parts_of_rids rid [] = (refl, ([], refl))
begins-parts_of_rids rid (next ∷ rids) = begins-with_slot rid next (parts_of_rids (next ∷ rids)) (begins-parts_of_rids next rids)

rising_as : (a b : Part) (parts : List Part) → a.block ≡ b.block → RiseByBlock (a ∷ parts) → RiseByBlock (b ∷ parts)
rising_as a b [] e r = tt
rising_as a b (part ∷ parts) e r = (subst (λ n. n < part.block) e r.0, r.1)

parts-with_slot : (rid next : Rid) (parts : List Part) → IsEarlier rid next → BeginsAt next parts → AreParts parts → AreParts (with_slot rid parts)
parts-with_slot rid next [] before at are = absurd at
parts-with_slot rid next (part ∷ parts) before at are = elim (cases_eq rid.block part.block) [
  | inl e ↦
      let behind : rid.slot < next.slot = elim before [
        | inl lt ↦ absurd (omega (arith, lt, e, at.0))
        | inr same ↦ same.1
      ] in
      let had : AreSlots (Some (next.slot ∷ at.1.0)) = subst AreSlots at.1.1 (All-head (λ part. AreSlots part.slots) part parts are.slots) in
      let has : AreSlots (option_map (λ slots. rid.slot ∷ slots) part.slots) = subst AreSlots (sym (ap (option_map (λ slots. rid.slot ∷ slots)) at.1.1)) (omega arith, (behind, had.1)) in
      subst AreParts (sym (with_slot-same rid part parts e)) (record {
        rise = rising_as part (grown rid part) parts refl are.rise;
        slots = All-cons (λ part. AreSlots part.slots) (grown rid part) parts has (All-tail (λ part. AreSlots part.slots) part parts are.slots);
      })
  | inr n ↦
      let below : rid.block < part.block = elim before [
        | inl lt ↦ omega (arith, lt, at.0)
        | inr same ↦ absurd (n (same.0 ∙ sym at.0))
      ] in
      subst AreParts (sym (with_slot-other rid part parts n)) (record {
        rise = (below, are.rise);
        slots = All-cons (λ part. AreSlots part.slots) (some_slots rid.block (rid.slot ∷ [])) (part ∷ parts) (omega arith, tt) are.slots;
      })
]

parts-parts_of_rids : (rids : List Rid) → IsRising IsEarlier rids → AreParts (parts_of_rids rids)
parts-parts_of_rids [] r = record { rise = tt; slots = All-nil (λ part. AreSlots part.slots) }
parts-parts_of_rids (rid ∷ []) r = record {
  rise = tt;
  slots = All-cons (λ part. AreSlots part.slots) (some_slots rid.block (rid.slot ∷ [])) [] (omega arith, tt) (All-nil (λ part. AreSlots part.slots));
}
parts-parts_of_rids (rid ∷ next ∷ rids) r = parts-with_slot rid next (parts_of_rids (next ∷ rids)) r.0 (begins-parts_of_rids next rids) (parts-parts_of_rids (next ∷ rids) r.1)

-- a listed block has no listed place
pub none_in_block : (blocks : List ℕ) (rids : List Rid) (n : ℕ) → AreApart blocks rids → has_number blocks n ≡ true → in_block rids n ≡ false
none_in_block blocks [] n apart listed = refl
none_in_block blocks (rid ∷ rids) n apart listed =
    or_from (rid.block == n) (in_block rids n)
    (ne_eqb rid.block n (λ e. false≢true (sym (apart rid (or-left (same_rid rid rid) (has_rid rids rid) (rids_order.itself rid))) ∙ ap (has_number blocks) e ∙ listed)))
    (none_in_block blocks rids n (λ other h. apart other (or-right (same_rid rid other) (has_rid rids other) h)) listed)

-- lists without their first block
pub lists_rest : (block : ℕ) (blocks : List ℕ) (rids : List Rid) → AreLists (block ∷ blocks) rids → AreLists blocks rids
lists_rest block blocks rids are = record {
  blocks_rise = rising_tail IsLower block blocks are.blocks_rise;
  rids_rise = are.rids_rise;
  apart = λ rid h. (or_parts-false (block == rid.block) (has_number blocks rid.block) (are.apart rid h)).1;
}

pub parts-parts_of : (blocks : List ℕ) (rids : List Rid) → AreLists blocks rids → AreParts (parts_of blocks rids)
parts-parts_of [] rids are = parts-parts_of_rids rids are.rids_rise
parts-parts_of (block ∷ blocks) rids are =
    let rest = parts-parts_of blocks rids (lists_rest block blocks rids are) in
    let new : named (parts_of blocks rids) block ≡ false =
    named-parts_of blocks rids block
    ∙ or_from (has_number blocks block) (in_block rids block) (not_in_rest numbers_order block blocks are.blocks_rise)
    (none_in_block (block ∷ blocks) rids block are.apart (or-left (block == block) (has_number blocks block) (eq-eqb block block refl))) in
    record {
      rise = rising-with_block block (parts_of blocks rids) rest.rise new;
      slots = slots-with_block block (parts_of blocks rids) rest.slots;
    }

pub stand-parts_of : (blocks : List ℕ) (rids : List Rid) (test : Rid → Bool) → AreLists blocks rids → ((rid : Rid) → holds_in blocks rids rid ≡ test rid) → StandForRows (parts_of blocks rids) test
stand-parts_of blocks rids test are same =
    let parts = parts-parts_of blocks rids are in
    record { rows = λ rid. in_parts-parts_of blocks rids rid ∙ same rid; rise = parts.rise; slots = parts.slots }
