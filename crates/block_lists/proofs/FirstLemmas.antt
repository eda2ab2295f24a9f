-- The first part of blocks and of places, and what is left of them.
use Rattle.std.proofs.Common.{◌≡◌, ◌∙◌, inl, inr, ℕ, ◌<◌, ◌≤◌, ◌-◌, ◌==◌, List, [], ◌∷◌, ◌++◌, length, length-drop, drop, take, map, Bool, true, false, Option, Some, None, refl, sym, ap, subst, arith, length-append}
use Rattle.std.specs.Prelude.{is_some, slice_get, unwrap_or}
use Rattle.std.specs.List.{list_any}
use Rattle.std.proofs.Math.Seq.{drop-append_seam}
use Rattle.std.proofs.lemmas.Bool.{eq-eqb, false≢true}
use Rattle.std.proofs.lemmas.List.{length-map, take-append-drop, take_all}
use Rattle.std.proofs.lemmas.List.Folds.{list_any-append}
use Rattle.mdc_values.specs.declared.rid.Rid.{Rid}
use Rattle.mdc_values.specs.Rising.{IsEarlier, IsLower, IsRising, LastIsBefore}
use Rattle.block_lists.specs.declared.part.Part.{Part}
use Rattle.block_lists.specs.Lists.{AreLists}
use Rattle.block_lists.specs.Parts.{IsFirstPart, IsSlotsPart, parts_of, parts_of_rids, rid_at, some_slots, whole_block, with_block, with_slot}
use Rattle.block_lists.specs.Places.{has_number, has_rid, same_rid}
use Rattle.block_lists.specs.Walks.{BeginsInBlock}
use Rattle.block_lists.proofs.NumberLemmas.{numbers_order}
use Rattle.block_lists.proofs.PlaceLemmas.{rids_order}
use Rattle.block_lists.proofs.WalkLemmas.{or-left, or-right, rising_over, rising_suffix}
use Rattle.block_lists.proofs.PartLemmas.{BeginsAt, IsAbove, above-with_block, begins-parts_of_rids, with_block-behind, with_block-lower, with_slot-other, with_slot-same}

-- ---- a whole block

-- the first place, if there is one, lies in a higher block
abbrev pub BeginsBehindBlock : ℕ → List Rid → Type 0
BeginsBehindBlock block [] = Unit {0}
BeginsBehindBlock block (rid ∷ rids) = block < rid.block

above_at : (n : ℕ) (rid : Rid) (parts : List Part) → n < rid.block → BeginsAt rid parts → IsAbove n parts
above_at n rid [] lt at = tt
above_at n rid (part ∷ parts) lt at = omega (arith, lt, at.0)

above_rids : (n : ℕ) (rids : List Rid) → BeginsBehindBlock n rids → IsAbove n (parts_of_rids rids)
above_rids n [] behind = tt
above_rids n (rid ∷ rids) behind = above_at n rid (parts_of_rids (rid ∷ rids)) behind (begins-parts_of_rids rid rids)

above-parts_of : (n : ℕ) (blocks : List ℕ) (rids : List Rid) → IsRising IsLower (n ∷ blocks) → BeginsBehindBlock n rids → IsAbove n (parts_of blocks rids)
above-parts_of n [] rids r behind = above_rids n rids behind
above-parts_of n (block ∷ blocks) rids r behind =
    above-with_block n block (parts_of blocks rids) r.0 (above-parts_of n blocks rids (rising_over IsLower (record { through = numbers_order.through }) block n blocks r) behind)

before_all : (block : ℕ) (parts : List Part) → IsAbove block parts → with_block block parts ≡ whole_block block ∷ parts
before_all block [] above = refl
before_all block (part ∷ parts) above = with_block-lower block part parts above

-- a block that stands before all places
whole_first : (block : ℕ) (blocks : List ℕ) (rids : List Rid) → IsRising IsLower (block ∷ blocks) → BeginsBehindBlock block rids → IsFirstPart (block ∷ blocks) rids (whole_block block)
whole_first block blocks rids r behind = record {
  first = before_all block (parts_of blocks rids) (above-parts_of block blocks rids r behind);
  blocks_there = omega arith;
  rids_there = omega arith;
}

-- the first element of a list
starts-with : {X : Type 0} (xs : List X) (x : X) → Some x ≡ slice_get xs 0 → (rest : List X) × (xs ≡ x ∷ rest)
starts-with [] x e = absurd (false≢true (sym (ap is_some e)))
starts-with (y ∷ ys) x e = (ys, ap (λ z. z ∷ ys) (sym (ap (λ o. unwrap_or o y) e)))

no_first : {X : Type 0} (xs : List X) → None ≡ slice_get xs 0 → xs ≡ []
no_first [] e = refl
no_first (y ∷ ys) e = absurd (false≢true (ap is_some e))

pub behind_some : (block : ℕ) (rids : List Rid) (rid : Rid) → Some rid ≡ slice_get rids 0 → block < rid.block → BeginsBehindBlock block rids
behind_some block rids rid e lt = let starts = starts-with rids rid e in subst (BeginsBehindBlock block) (sym starts.1) lt

pub behind_none : (block : ℕ) (rids : List Rid) → None ≡ slice_get rids 0 → BeginsBehindBlock block rids
behind_none block rids e = subst (BeginsBehindBlock block) (sym (no_first rids e)) tt

part_of : ℕ → Option (List ℕ) → Part
part_of block slots = record { block = block; slots = slots }

pub first_whole : (blocks : List ℕ) (rids : List Rid) (block : ℕ) (part : Part) → AreLists blocks rids → Some block ≡ slice_get blocks 0 → part.block ≡ block → part.slots ≡ None → BeginsBehindBlock block rids → IsFirstPart blocks rids part
unfolding part_of
first_whole blocks rids block part are e eb es behind =
    let starts = starts-with blocks block e in
    let is : whole_block block ≡ part = sym (ap (λ b. part_of b part.slots) eb ∙ ap (part_of block) es) in
    subst (IsFirstPart blocks rids) is
    (subst (λ bs. IsFirstPart bs rids (whole_block block)) (sym starts.1) (whole_first block starts.0 rids (subst (IsRising IsLower) starts.1 are.blocks_rise) behind))

-- ---- some slots of a block

before_other : (block slot : ℕ) (rid : Rid) (parts : List Part) → BeginsAt rid parts → (rid.block ≡ block → ⊥) → with_slot (rid_at block slot) parts ≡ some_slots block (slot ∷ []) ∷ parts
before_other block slot rid [] at other = absurd at
before_other block slot rid (part ∷ parts) at other = with_slot-other (rid_at block slot) part parts (λ e. other (sym at.0 ∙ sym e))

-- places that begin with slots of a block
slots_of_rids : (block slot : ℕ) (slots : List ℕ) (rest : List Rid) → (BeginsInBlock block rest → ⊥) → parts_of_rids (map (rid_at block) (slot ∷ slots) ++ rest) ≡ some_slots block (slot ∷ slots) ∷ parts_of_rids rest
slots_of_rids block slot [] [] other = refl
slots_of_rids block slot [] (rid ∷ rest) other = before_other block slot rid (parts_of_rids (rid ∷ rest)) (begins-parts_of_rids rid rest) other
slots_of_rids block slot (next ∷ slots) rest other =
    ap (with_slot (rid_at block slot)) (slots_of_rids block next slots rest other)
    ∙ with_slot-same (rid_at block slot) (some_slots block (next ∷ slots)) (parts_of_rids rest) refl

-- and blocks behind that one
slots_before : (block slot : ℕ) (slots blocks : List ℕ) (rest : List Rid) → IsRising IsLower (block ∷ blocks) → (BeginsInBlock block rest → ⊥)
    → parts_of blocks (map (rid_at block) (slot ∷ slots) ++ rest) ≡ some_slots block (slot ∷ slots) ∷ parts_of blocks rest
slots_before block slot slots [] rest r other = slots_of_rids block slot slots rest other
slots_before block slot slots (next ∷ blocks) rest r other =
    ap (with_block next) (slots_before block slot slots blocks rest (rising_over IsLower (record { through = numbers_order.through }) next block blocks r) other)
    ∙ with_block-behind next (some_slots block (slot ∷ slots)) (parts_of blocks rest) (let lt : block < next = r.0 in omega arith)

slots_first : (block : ℕ) (slots blocks : List ℕ) (rids rest : List Rid) → 0 < length slots → rids ≡ map (rid_at block) slots ++ rest → IsRising IsLower (block ∷ blocks) → (BeginsInBlock block rest → ⊥)
    → IsFirstPart blocks rids (some_slots block slots)
slots_first block [] blocks rids rest some e r other = absurd (omega (arith, some))
slots_first block (slot ∷ slots) blocks rids rest some e r other =
    let left : drop (length (slot ∷ slots)) rids ≡ rest =
    ap (drop (length (slot ∷ slots))) e ∙ ap (λ n. drop n (map (rid_at block) (slot ∷ slots) ++ rest)) (sym (length-map (slot ∷ slots) (rid_at block)))
    ∙ drop-append_seam (map (rid_at block) (slot ∷ slots)) rest in
    record {
      first = ap (parts_of blocks) e ∙ slots_before block slot slots blocks rest r other ∙ ap (λ rs. some_slots block (slot ∷ slots) ∷ parts_of blocks rs) (sym left);
      blocks_there = omega arith;
      rids_there = omega (arith, ap length e, length-append (map (rid_at block) (slot ∷ slots)) rest, length-map (slot ∷ slots) (rid_at block));
    }

-- the slots aren't none where the places begin in the block
some_there : (rid : Rid) (rids rest : List Rid) (slots : List ℕ) → Some rid ≡ slice_get rids 0 → rids ≡ map (rid_at rid.block) slots ++ rest → (BeginsInBlock rid.block rest → ⊥) → 0 < length slots
some_there rid rids rest [] e all other = absurd (other (subst (BeginsInBlock rid.block) (sym (starts-with rids rid e).1 ∙ all) refl))
some_there rid rids rest (slot ∷ slots) e all other = omega arith

pub first_slots : (blocks : List ℕ) (rids : List Rid) (rid : Rid) (part : Part) → IsRising IsLower (rid.block ∷ blocks) → Some rid ≡ slice_get rids 0 → IsSlotsPart rid.block rids part → IsFirstPart blocks rids part
first_slots blocks rids rid part r e is =
    subst (IsFirstPart blocks rids) (sym is.is) (slots_first rid.block is.slots blocks rids is.rest (some_there rid rids is.rest is.slots e is.all is.other) is.all r is.other)

-- the blocks stand behind the first place
pub blocks_behind_some : (blocks : List ℕ) (rids : List Rid) (block : ℕ) (rid : Rid) → AreLists blocks rids → Some block ≡ slice_get blocks 0 → Some rid ≡ slice_get rids 0 → rid.block ≤ block → IsRising IsLower (rid.block ∷ blocks)
blocks_behind_some blocks rids block rid are eb er le =
    let b = starts-with blocks block eb in
    let r = starts-with rids rid er in
    let here : has_rid rids rid ≡ true = ap (λ rs. has_rid rs rid) r.1 ∙ or-left (same_rid rid rid) (has_rid r.0 rid) (rids_order.itself rid) in
    let other : rid.block ≡ block → ⊥ = λ e. false≢true (sym (are.apart rid here) ∙ ap (λ bs. has_number bs rid.block) b.1 ∙ or-left (block == rid.block) (has_number b.0 rid.block) (eq-eqb block rid.block (sym e))) in
    let below : rid.block < block = omega (arith, le, other) in
    subst (λ bs. IsRising IsLower (rid.block ∷ bs)) (sym b.1) (below, subst (IsRising IsLower) b.1 are.blocks_rise)

pub blocks_behind_none : (blocks : List ℕ) (rid : Rid) → None ≡ slice_get blocks 0 → IsRising IsLower (rid.block ∷ blocks)
blocks_behind_none blocks rid e = subst (λ bs. IsRising IsLower (rid.block ∷ bs)) (sym (no_first blocks e)) tt

-- ---- the next slot stands behind the last

pub slot_behind : (block : ℕ) (slots : List ℕ) (rid : Rid) (rest : List Rid) → rid.block ≡ block → IsRising IsEarlier (map (rid_at block) slots ++ rid ∷ rest) → LastIsBefore IsLower rid.slot slots
slot_behind block [] rid rest e r = tt
slot_behind block (slot ∷ []) rid rest e r = elim r.0 [
  | inl lt ↦ absurd (omega (arith, lt, e))
  | inr same ↦ same.1
]
slot_behind block (slot ∷ next ∷ slots) rid rest e r = slot_behind block (next ∷ slots) rid rest e r.1

-- ---- lists that are partly given

has_in_rest : {X : Type 0} (p : X → Bool) (n : ℕ) (xs : List X) → list_any p (drop n xs) ≡ true → list_any p xs ≡ true
has_in_rest p n xs h = ap (list_any p) (sym (take-append-drop n xs)) ∙ list_any-append p (take n xs) (drop n xs) ∙ or-right (list_any p (take n xs)) (list_any p (drop n xs)) h

pub lists_left : (blocks : List ℕ) (rids : List Rid) (n m : ℕ) → AreLists blocks rids → AreLists (drop n blocks) (drop m rids)
lists_left blocks rids n m are = record {
  blocks_rise = rising_suffix IsLower (take n blocks) (drop n blocks) (subst (IsRising IsLower) (sym (take-append-drop n blocks)) are.blocks_rise);
  rids_rise = rising_suffix IsEarlier (take m rids) (drop m rids) (subst (IsRising IsEarlier) (sym (take-append-drop m rids)) are.rids_rise);
  apart = λ rid h. not_there rid (are.apart rid (has_in_rest (λ other. same_rid other rid) m rids h)) (has_number (drop n blocks) rid.block) refl;
} where
  not_there : (rid : Rid) → has_number blocks rid.block ≡ false → (b : Bool) → has_number (drop n blocks) rid.block ≡ b → has_number (drop n blocks) rid.block ≡ false
  not_there rid out false e = e
  not_there rid out true e = absurd (false≢true (sym out ∙ has_in_rest (λ m. m == rid.block) n blocks e))

-- what an index from a place on lends of two lists
pub slice_left : (blocks : List ℕ) (rids : List Rid) (n m : ℕ) → AreLists (drop n blocks) (drop m rids) → AreLists (take (length blocks - n) (drop n blocks)) (take (length rids - m) (drop m rids))
slice_left blocks rids n m are =
    let bs : drop n blocks ≡ take (length blocks - n) (drop n blocks) = sym (take_all (length blocks - n) (drop n blocks) (omega (arith, length-drop n blocks))) in
    let rs : drop m rids ≡ take (length rids - m) (drop m rids) = sym (take_all (length rids - m) (drop m rids) (omega (arith, length-drop m rids))) in
    subst (λ b. AreLists b (take (length rids - m) (drop m rids))) bs (subst (AreLists (drop n blocks)) rs are)
