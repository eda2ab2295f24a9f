-- Notes and used pages, as owners change.
use Rattle.std.proofs.Common.{◌≡◌, ◌≢◌, ◌<◌, ◌≤◌, ◌+◌, ℕ, IsTrue, List, length, set, inl, inr, ap, sym, subst, ◌∙◌, arith, get_or-set_other, get_or-set_same, length-set}
use Rattle.std.proofs.Math.ListN.{get_or-eq_default}
use Rattle.std.proofs.lemmas.Bool.{cases_eq, cases_lt}
use Rattle.store_api.specs.declared.shape.Shape.{Shape}
use Rattle.extent_map.specs.Kinds.{is_unused_place}
use Rattle.extent_map.specs.Owners.{owner_of, AreRightNotes, with_block, without_block}
use Rattle.extent_map.specs.Searches.{NoneWanted}
use Rattle.extent_map.specs.declared.finding.Wanted.TheVariants.{FreeExtent}
use Rattle.extent_map.specs.declared.kind.Kind.{Kind}
use Rattle.extent_map.specs.declared.kind.Kind.TheVariants.{Free, Block}
use Rattle.extent_map.specs.declared.space_notes.SpaceNotes.{SpaceNotes}
use Rattle.extent_map.proofs.BitsLemmas.{is_free-not}

pub no_unused-Free : (j : ℕ) → IsTrue (is_unused_place j Free) → ⊥
no_unused-Free j is = cc

-- an extent that there isn't stays free
set_past : (owners : List Kind) (e : ℕ) (kind : Kind) → length owners ≤ e → owner_of (set owners e kind) e ≡ Free
set_past owners e kind past = get_or-eq_default (set owners e kind) Free {n = e} (omega (arith, past, length-set owners e kind))

-- The notes where one extent changes: each other one is as it was, and this one is as they say.
pub right_notes-set : (shape : Shape) (after : SpaceNotes) (owners : List Kind) (e : ℕ) (kind : Kind) → (e < after.free_from → kind ≢ Free)
    → (e < after.unused_from → (j : ℕ) → j < shape.extent_pages → IsTrue (is_unused_place j kind) → ⊥)
    → ((i : ℕ) → i < after.free_from → i < length owners → i ≢ e → owner_of owners i ≢ Free)
    → ((i j : ℕ) → i < after.unused_from → j < shape.extent_pages → i ≢ e → IsTrue (is_unused_place j (owner_of owners i)) → ⊥)
    → AreRightNotes shape after (set owners e kind)
right_notes-set shape after owners e kind owned full others_owned others_full = record {
  free = λ i below within free. elim (cases_eq i e) [
    | inl here ↦
        let there : e < length owners = omega (arith, within, here, length-set owners e kind) in
        owned (omega (arith, below, here)) (sym (get_or-set_same owners e kind Free there) ∙ (ap (λ x. owner_of (set owners e kind) x) (sym here) ∙ free))
    | inr other ↦ others_owned i below (omega (arith, within, length-set owners e kind)) other (sym (get_or-set_other owners e i kind Free other) ∙ free)
  ];
  unused = λ i j below less unused. elim (cases_eq i e) [
    | inl here ↦ (
        let now = ap (λ x. owner_of (set owners e kind) x) here in
        elim (cases_lt e (length owners)) [
          | inl there ↦ full (omega (arith, below, here)) j less (subst (λ k. IsTrue (is_unused_place j k)) (now ∙ get_or-set_same owners e kind Free there) unused)
          | inr past ↦ no_unused-Free j (subst (λ k. IsTrue (is_unused_place j k)) (now ∙ set_past owners e kind past) unused)
        ])
    | inr other ↦ others_full i j below less other (subst (λ k. IsTrue (is_unused_place j k)) (get_or-set_other owners e i kind Free other) unused)
  ];
}

-- an extent becomes free, and the note on free ones is no higher than it
pub right_notes-free : (shape : Shape) (before after : SpaceNotes) (owners : List Kind) (e : ℕ) → after.free_from ≤ before.free_from → after.free_from ≤ e → after.unused_from ≤ before.unused_from
    → AreRightNotes shape before owners → AreRightNotes shape after (without_block owners e)
right_notes-free shape before after owners e lower low stays notes =
    right_notes-set shape after owners e Free (λ below. absurd (omega (arith, below, low))) (λ below j less unused. no_unused-Free j unused)
    (λ i below within other. notes.free i (omega (arith, below, lower)) within) (λ i j below less other. notes.unused i j (omega (arith, below, stays)) less)

-- the lowest free extent becomes a block
pub right_notes-block : (shape : Shape) (before after : SpaceNotes) (owners : List Kind) (e table : ℕ) → after.free_from ≡ e + 1 → after.unused_from ≡ before.unused_from
    → NoneWanted FreeExtent shape.extent_pages owners before.free_from e → AreRightNotes shape before owners → AreRightNotes shape after (with_block owners e table)
right_notes-block shape before after owners e table next stays passed notes =
    right_notes-set shape after owners e (Block table) (λ below is. cc) (λ below j less unused. cc)
    (λ i below within other. elim (cases_lt i before.free_from) [
      | inl low ↦ notes.free i low within
      | inr high ↦ is_free-not (owner_of owners i) (passed i high (omega (arith, below, next, other)))
    ])
    (λ i j below less other. notes.unused i j (omega (arith, below, stays)) less)
