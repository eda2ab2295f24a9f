-- Places of rows in their order.
use Rattle.std.proofs.Common.{◌≡◌, ◌∙◌, ◌<◌, ◌≤◌, ◌⊎◌, ◌==◌, inl, inr, ℕ, List, [], ◌∷◌, ◌++◌, Bool, true, false, arith, sym, ap, refl}
use Rattle.std.specs.Prelude.{◌&&◌, ◌||◌, not}
use Rattle.std.proofs.lemmas.Bool.{and_parts, eq-eqb, ne_eqb, eqb-true}
use Rattle.mdc_values.specs.declared.rid.Rid.{Rid}
use Rattle.mdc_values.specs.Rising.{IsEarlier, IsLower, IsRising}
use Rattle.block_lists.specs.Places.{has_number, has_rid, holds_in, in_block, same_rid}
use Rattle.block_lists.specs.Walks.{BeginsFrom, BeginsFromBlock, BeginsInBlock, BeginsWith}
use Rattle.block_lists.proofs.WalkLemmas.{IsOrder, Keeps, Tells, begins_in, begins_not_in, keeps_past, keeps_taken, tells_first, tells_more, tells_past}
use Rattle.block_lists.proofs.NumberLemmas.{not_below, numbers_order}

through : (a b c : Rid) → IsEarlier a b → IsEarlier b c → IsEarlier a c
through a b c (inl h) (inl k) = inl (omega arith)
through a b c (inl h) (inr k) = inl (omega (arith, k.0))
through a b c (inr h) (inl k) = inl (omega (arith, h.0))
through a b c (inr h) (inr k) = inr (h.0 ∙ k.0, omega (arith, h.1, k.1))

same_parts : (a b : Rid) → same_rid a b ≡ true → a ≡ b
same_parts a b h =
    let parts = and_parts (a.block == b.block) (a.slot == b.slot) h in
    let block : a.block ≡ b.block = eqb-true a.block b.block parts.0 in
    let slot : a.slot ≡ b.slot = eqb-true a.slot b.slot parts.1 in
    let made : ℕ → ℕ → Rid = λ n s. record { block = n; slot = s } in
    ap (λ n. made n a.slot) block ∙ ap (made b.block) slot

and-false : (p : Bool) → (p && false) ≡ false
and-false true = refl
and-false false = refl

apart : (a b : Rid) → IsEarlier a b → same_rid b a ≡ false
apart a b (inl h) = ap (λ p. p && (b.slot == a.slot)) (ne_eqb b.block a.block (λ e. omega arith))
apart a b (inr h) = ap (λ p. (b.block == a.block) && p) (ne_eqb b.slot a.slot (λ e. omega (arith, h.1, e))) ∙ and-false (b.block == a.block)

-- places of rows and their order
pub rids_order : IsOrder same_rid IsEarlier
rids_order = record {
  through = through;
  itself = λ a. ap (λ p. p && (a.slot == a.slot)) (eq-eqb a.block a.block refl) ∙ eq-eqb a.slot a.slot refl;
  alike = same_parts;
  apart = apart;
}

-- ---- places that blocks or other places hold

pub block_rises : (x z : Rid) → ((x ≡ z) ⊎ IsEarlier x z) → x.block ≤ z.block
block_rises x z (inl e) = omega (arith, ap (λ r. r.block) e)
block_rises x z (inr (inl h)) = omega arith
block_rises x z (inr (inr h)) = omega (arith, h.0)

not_before : (x z : Rid) → ((x ≡ z) ⊎ IsEarlier x z) → IsEarlier z x → ⊥
not_before x z (inl e) (inl h) = absurd (omega (arith, ap (λ r. r.block) e))
not_before x z (inl e) (inr h) = absurd (omega (arith, h.1, ap (λ r. r.slot) e))
not_before x z (inr (inl h)) (inl k) = absurd (omega arith)
not_before x z (inr (inl h)) (inr k) = absurd (omega (arith, k.0))
not_before x z (inr (inr h)) (inl k) = absurd (omega (arith, h.0))
not_before x z (inr (inr h)) (inr k) = absurd (omega (arith, h.1, k.1))

-- the block of a place is looked up in blocks
abbrev in_blocks : List ℕ → Rid → Bool
in_blocks blocks rid = has_number blocks rid.block

-- Places that are held, so far: what was made, and what is left of the places, of the blocks and of the others.
pub record HeldGoes (blocks0 : List ℕ) (others0 rids0 : List Rid) (blocks : List ℕ) (others out rids : List Rid) : Type 0 where
  pub blocks_rise : IsRising IsLower blocks
  pub others_rise : IsRising IsEarlier others
  pub keeps : Keeps IsEarlier (holds_in blocks0 others0) rids0 out rids
  pub in_blocks : Tells same_rid (λ rid. has_number blocks rid.block) (λ rid. has_number blocks0 rid.block) rids
  pub in_others : Tells same_rid (has_rid others) (has_rid others0) rids

pub held_moved : {blocks0 : List ℕ} {others0 rids0 : List Rid} {blocks : List ℕ} {others out : List Rid} {x : Rid} {rids : List Rid} (blocks' : List ℕ) (others' : List Rid)
    → HeldGoes blocks0 others0 rids0 blocks others out (x ∷ rids) → IsRising IsLower blocks' → IsRising IsEarlier others'
    → ((n : ℕ) → x.block ≤ n → has_number blocks' n ≡ has_number blocks n) → ((z : Rid) → (IsEarlier z x → ⊥) → has_rid others' z ≡ has_rid others z)
    → HeldGoes blocks0 others0 rids0 blocks' others' out (x ∷ rids)
held_moved {blocks0} {others0} {rids0} {blocks} {others} {out} {x} {rids} blocks' others' g rb ro sb so = record {
  blocks_rise = rb;
  others_rise = ro;
  keeps = g.keeps;
  in_blocks = tells_more out (λ rid. has_number blocks' rid.block) rids_order g.keeps.rises g.in_blocks (λ z h. sb z.block (block_rises x z h));
  in_others = tells_more out (has_rid others') rids_order g.keeps.rises g.in_others (λ z h. so z (not_before x z h));
}

module _ {blocks0 : List ℕ} {others0 rids0 : List Rid} {blocks : List ℕ} {others out : List Rid} {x : Rid} {rids : List Rid} (g : HeldGoes blocks0 others0 rids0 blocks others out (x ∷ rids)) where
  told : (has_number blocks x.block || has_rid others x) ≡ holds_in blocks0 others0 x
  told = ap (λ b. b || has_rid others x) (tells_first rids_order g.in_blocks) ∙ ap (λ b. has_number blocks0 x.block || b) (tells_first rids_order g.in_others)

or-true : (p q : Bool) → q ≡ true → (p || q) ≡ true
or-true true q h = refl
or-true false q h = h

pub held_taken : {blocks0 : List ℕ} {others0 rids0 : List Rid} {blocks : List ℕ} {others out : List Rid} {x : Rid} {rids : List Rid}
    → HeldGoes blocks0 others0 rids0 blocks others out (x ∷ rids) → (BeginsWith x.block blocks ⊎ BeginsWith x others) → HeldGoes blocks0 others0 rids0 blocks others (out ++ x ∷ []) rids
held_taken {blocks0} {others0} {rids0} {blocks} {others} {out} {x} {rids} g h =
    let here : (has_number blocks x.block || has_rid others x) ≡ true = elim h [
      | inl e ↦ ap (λ b. b || has_rid others x) (begins_in numbers_order x.block blocks e)
      | inr e ↦ or-true (has_number blocks x.block) (has_rid others x) (begins_in rids_order x others e)
    ] in
    record {
      blocks_rise = g.blocks_rise;
      others_rise = g.others_rise;
      keeps = keeps_taken g.keeps (sym (told g) ∙ here);
      in_blocks = tells_past g.in_blocks;
      in_others = tells_past g.in_others;
    }

pub held_past : {blocks0 : List ℕ} {others0 rids0 : List Rid} {blocks : List ℕ} {others out : List Rid} {x : Rid} {rids : List Rid}
    → HeldGoes blocks0 others0 rids0 blocks others out (x ∷ rids) → BeginsFrom IsLower x.block blocks → (BeginsWith x.block blocks → ⊥) → BeginsFrom IsEarlier x others → (BeginsWith x others → ⊥)
    → HeldGoes blocks0 others0 rids0 blocks others out rids
held_past {blocks0} {others0} {rids0} {blocks} {others} {out} {x} {rids} g lb nb lo nr = record {
  blocks_rise = g.blocks_rise;
  others_rise = g.others_rise;
  keeps = keeps_past rids_order g.keeps
      (sym (told g) ∙ ap (λ b. b || has_rid others x) (begins_not_in numbers_order x.block blocks g.blocks_rise lb nb) ∙ begins_not_in rids_order x others g.others_rise lo nr);
  in_blocks = tells_past g.in_blocks;
  in_others = tells_past g.in_others;
}

-- ---- places outside of blocks

pub record OutsideGoes (blocks0 : List ℕ) (rids0 : List Rid) (blocks : List ℕ) (out rids : List Rid) : Type 0 where
  pub blocks_rise : IsRising IsLower blocks
  pub keeps : Keeps IsEarlier (λ rid. not (has_number blocks0 rid.block)) rids0 out rids
  pub in_blocks : Tells same_rid (λ rid. has_number blocks rid.block) (λ rid. has_number blocks0 rid.block) rids

pub outside_moved : {blocks0 : List ℕ} {rids0 : List Rid} {blocks : List ℕ} {out : List Rid} {x : Rid} {rids : List Rid} (blocks' : List ℕ)
    → OutsideGoes blocks0 rids0 blocks out (x ∷ rids) → IsRising IsLower blocks'
    → ((n : ℕ) → x.block ≤ n → has_number blocks' n ≡ has_number blocks n) → OutsideGoes blocks0 rids0 blocks' out (x ∷ rids)
outside_moved {blocks0} {rids0} {blocks} {out} {x} {rids} blocks' g rb sb = record {
  blocks_rise = rb;
  keeps = g.keeps;
  in_blocks = tells_more out (λ rid. has_number blocks' rid.block) rids_order g.keeps.rises g.in_blocks (λ z h. sb z.block (block_rises x z h));
}

pub outside_past : {blocks0 : List ℕ} {rids0 : List Rid} {blocks : List ℕ} {out : List Rid} {x : Rid} {rids : List Rid}
    → OutsideGoes blocks0 rids0 blocks out (x ∷ rids) → BeginsWith x.block blocks → OutsideGoes blocks0 rids0 blocks out rids
outside_past {blocks0} {rids0} {blocks} {out} {x} {rids} g h = record {
  blocks_rise = g.blocks_rise;
  keeps = keeps_past rids_order g.keeps (ap not (sym (tells_first rids_order g.in_blocks) ∙ begins_in numbers_order x.block blocks h));
  in_blocks = tells_past g.in_blocks;
}

pub outside_taken : {blocks0 : List ℕ} {rids0 : List Rid} {blocks : List ℕ} {out : List Rid} {x : Rid} {rids : List Rid}
    → OutsideGoes blocks0 rids0 blocks out (x ∷ rids) → BeginsFrom IsLower x.block blocks → (BeginsWith x.block blocks → ⊥) → OutsideGoes blocks0 rids0 blocks (out ++ x ∷ []) rids
outside_taken {blocks0} {rids0} {blocks} {out} {x} {rids} g low h = record {
  blocks_rise = g.blocks_rise;
  keeps = keeps_taken g.keeps (ap not (sym (tells_first rids_order g.in_blocks) ∙ begins_not_in numbers_order x.block blocks g.blocks_rise low h));
  in_blocks = tells_past g.in_blocks;
}

-- ---- blocks that are touched

-- a rising list that begins behind a block has no place in it
behind_block : (block : ℕ) (rid : Rid) (rids : List Rid) → IsRising IsEarlier (rid ∷ rids) → block < rid.block → in_block (rid ∷ rids) block ≡ false
behind_block block rid [] r lt = ap (λ b. b || false) (ne_eqb rid.block block (λ e. omega arith))
behind_block block rid (next ∷ rids) r lt =
    let on : rid.block ≤ next.block = block_rises rid next (inr r.0) in
    ap (λ b. b || in_block (next ∷ rids) block) (ne_eqb rid.block block (λ e. omega arith)) ∙ behind_block block next rids r.1 (omega arith)

in_first : (block : ℕ) (rids : List Rid) → BeginsInBlock block rids → in_block rids block ≡ true
in_first block [] h = absurd h
in_first block (rid ∷ rids) h = ap (λ b. b || in_block rids block) (eq-eqb rid.block block h)

not_in_first : (block : ℕ) (rids : List Rid) → IsRising IsEarlier rids → BeginsFromBlock block rids → (BeginsInBlock block rids → ⊥) → in_block rids block ≡ false
not_in_first block [] r low other = refl
not_in_first block (rid ∷ rids) r low other = behind_block block rid rids r (let ne : rid.block ≡ block → ⊥ = other in omega (arith, ne))

pub record TouchedGoes (blocks0 : List ℕ) (rids0 : List Rid) (of0 blocks : List ℕ) (rids : List Rid) (out of : List ℕ) : Type 0 where
  pub blocks_rise : IsRising IsLower blocks
  pub rids_rise : IsRising IsEarlier rids
  pub keeps : Keeps IsLower (λ block. has_number blocks0 block || in_block rids0 block) of0 out of
  pub in_blocks : Tells (λ m n. m == n) (has_number blocks) (has_number blocks0) of
  pub in_rids : Tells (λ m n. m == n) (in_block rids) (in_block rids0) of

pub touched_moved : {blocks0 : List ℕ} {rids0 : List Rid} {of0 blocks : List ℕ} {rids : List Rid} {out : List ℕ} {x : ℕ} {of : List ℕ} (blocks' : List ℕ) (rids' : List Rid)
    → TouchedGoes blocks0 rids0 of0 blocks rids out (x ∷ of) → IsRising IsLower blocks' → IsRising IsEarlier rids'
    → ((n : ℕ) → x ≤ n → has_number blocks' n ≡ has_number blocks n) → ((n : ℕ) → x ≤ n → in_block rids' n ≡ in_block rids n)
    → TouchedGoes blocks0 rids0 of0 blocks' rids' out (x ∷ of)
touched_moved {blocks0} {rids0} {of0} {blocks} {rids} {out} {x} {of} blocks' rids' g rb rr sb sr = record {
  blocks_rise = rb;
  rids_rise = rr;
  keeps = g.keeps;
  in_blocks = tells_more out (has_number blocks') numbers_order g.keeps.rises g.in_blocks (λ z h. sb z (not_below x z h));
  in_rids = tells_more out (in_block rids') numbers_order g.keeps.rises g.in_rids (λ z h. sr z (not_below x z h));
}

module _ {blocks0 : List ℕ} {rids0 : List Rid} {of0 blocks : List ℕ} {rids : List Rid} {out : List ℕ} {x : ℕ} {of : List ℕ} (g : TouchedGoes blocks0 rids0 of0 blocks rids out (x ∷ of)) where
  touch_told : (has_number blocks x || in_block rids x) ≡ (has_number blocks0 x || in_block rids0 x)
  touch_told = ap (λ b. b || in_block rids x) (tells_first numbers_order g.in_blocks) ∙ ap (λ b. has_number blocks0 x || b) (tells_first numbers_order g.in_rids)

pub touched_taken : {blocks0 : List ℕ} {rids0 : List Rid} {of0 blocks : List ℕ} {rids : List Rid} {out : List ℕ} {x : ℕ} {of : List ℕ}
    → TouchedGoes blocks0 rids0 of0 blocks rids out (x ∷ of) → (BeginsWith x blocks ⊎ BeginsInBlock x rids) → TouchedGoes blocks0 rids0 of0 blocks rids (out ++ x ∷ []) of
touched_taken {blocks0} {rids0} {of0} {blocks} {rids} {out} {x} {of} g h =
    let here : (has_number blocks x || in_block rids x) ≡ true = elim h [
      | inl e ↦ ap (λ b. b || in_block rids x) (begins_in numbers_order x blocks e)
      | inr e ↦ or-true (has_number blocks x) (in_block rids x) (in_first x rids e)
    ] in
    record {
      blocks_rise = g.blocks_rise;
      rids_rise = g.rids_rise;
      keeps = keeps_taken g.keeps (sym (touch_told g) ∙ here);
      in_blocks = tells_past g.in_blocks;
      in_rids = tells_past g.in_rids;
    }

pub touched_past : {blocks0 : List ℕ} {rids0 : List Rid} {of0 blocks : List ℕ} {rids : List Rid} {out : List ℕ} {x : ℕ} {of : List ℕ}
    → TouchedGoes blocks0 rids0 of0 blocks rids out (x ∷ of) → BeginsFrom IsLower x blocks → (BeginsWith x blocks → ⊥) → BeginsFromBlock x rids → (BeginsInBlock x rids → ⊥)
    → TouchedGoes blocks0 rids0 of0 blocks rids out of
touched_past {blocks0} {rids0} {of0} {blocks} {rids} {out} {x} {of} g lb nb lo nr = record {
  blocks_rise = g.blocks_rise;
  rids_rise = g.rids_rise;
  keeps = keeps_past numbers_order g.keeps
      (sym (touch_told g) ∙ ap (λ b. b || in_block rids x) (begins_not_in numbers_order x blocks g.blocks_rise lb nb) ∙ not_in_first x rids g.rids_rise lo nr);
  in_blocks = tells_past g.in_blocks;
  in_rids = tells_past g.in_rids;
}
