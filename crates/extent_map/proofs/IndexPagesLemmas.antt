-- Which page a claim takes, and what is right of the notes then.
use Rattle.std.proofs.Common.{◌≡◌, ◌≢◌, ◌<◌, ◌≤◌, ◌+◌, ℕ, IsTrue, List, length, set, Some, inl, inr, refl, ap, sym, subst, ◌∙◌, arith}
use Rattle.std.proofs.Math.ListN.{get_or-eq_default}
use Rattle.std.proofs.lemmas.Bool.{cases_lt}
use Rattle.store_api.specs.Extents.{first_page_of}
use Rattle.store_api.specs.declared.pages.Pages.{Ghosts}
use Rattle.store_api.specs.declared.shape.Shape.{Shape}
use Rattle.extent_map.specs.Kinds.{IsKindOf, is_unused_place, lowest_unused_place, with_used_place}
use Rattle.extent_map.specs.Map.{HoldsMap}
use Rattle.extent_map.specs.Owners.{owner_of, extent_of, place_in_extent, IsExtentPage, IsUnusedPage, HasNoFree, HasNoUnused, IsLowestFree, IsLowestUnused, IsClaimable, IsLowestClaimable, AreRightNotes, with_used_page}
use Rattle.extent_map.specs.Searches.{NoneWanted, is_wanted}
use Rattle.extent_map.specs.declared.finding.Wanted.TheVariants.{FreeExtent, UnusedPage}
use Rattle.extent_map.specs.declared.kind.Kind.{Kind}
use Rattle.extent_map.specs.declared.kind.Kind.TheVariants.{Free, Block, Index}
use Rattle.extent_map.specs.declared.space_notes.SpaceNotes.{SpaceNotes}
use Rattle.extent_map.proofs.BitsLemmas.{is_free-not, lowest_unused_below, lowest_unused_is, lowest_unused_lowest, none_unused, with_place-owned}
use Rattle.extent_map.proofs.ExtentsLemmas.{extent_limits, extent_of-page, place_of-page, is_extent_page, place_below, extent_below, lower_page, with_page-parts}
use Rattle.extent_map.proofs.HoldsMapLemmas.{map_page_at}
use Rattle.extent_map.proofs.OwnersLemmas.{right_notes-set}

-- each owner is of a kind that it may have
pub are_kinds : {S : Type 0} {g : Ghosts S} {shape : Shape} {s : S} (owners : List Kind) → HoldsMap g shape s owners → (i : ℕ) → IsKindOf shape.extent_pages (owner_of owners i)
are_kinds {shape = shape} owners is i = elim (cases_lt i shape.extents) [
  | inl below ↦ (map_page_at i below is).kinds i refl
  | inr past ↦ subst (λ kind. IsKindOf shape.extent_pages kind) (sym (get_or-eq_default owners Free {n = i} (omega (arith, past, is.count)))) tt
]

is_free-unless : (kind : Kind) → (kind ≢ Free → ⊥) → kind ≡ Free
is_free-unless Free not = refl
is_free-unless (Block table) not = absurd (not (λ is. cc))
is_free-unless (Index used) not = absurd (not (λ is. cc))

-- the extents behind the pages that there are have none that isn't used
pub none_behind : {S : Type 0} {g : Ghosts S} {shape : Shape} {s : S} (owners : List Kind) (from to : ℕ) → HoldsMap g shape s owners
    → ((e : ℕ) → to ≤ e → e < shape.extents → length (g.state s).work < first_page_of shape.extents shape.extent_pages (e + 1))
    → NoneWanted UnusedPage shape.extent_pages owners from to → NoneWanted UnusedPage shape.extent_pages owners from shape.extents
none_behind {shape = shape} owners from to is behind none = λ e low below. elim (cases_lt e to) [
  | inl before ↦ none e low before
  | inr after ↦
      let past = behind e after below in
      let free : owner_of owners e ≡ Free = is_free-unless (owner_of owners e) (λ owned. omega (arith, past, (map_page_at e below is).there e refl owned)) in
      ap (is_wanted UnusedPage shape.extent_pages) free
]

module _ (shape : Shape) (owners : List Kind) where
  -- a page at a place of an extent that isn't used
  unused_at : (p e j : ℕ) → e < shape.extents → j < shape.extent_pages → p ≡ first_page_of shape.extents shape.extent_pages e + j → IsTrue (is_unused_place j (owner_of owners e)) → IsUnusedPage shape owners p
  unused_at p e j below less is unused =
      let extent : extent_of shape p ≡ e = ap (extent_of shape) is ∙ extent_of-page shape e j less in
      let place : place_in_extent shape p ≡ j = ap (place_in_extent shape) is ∙ place_of-page shape e j less in
      record {
        page = subst (λ q. IsExtentPage shape q) (sym is) (is_extent_page shape e j below less);
        unused = subst (λ x. IsTrue (is_unused_place (place_in_extent shape p) (owner_of owners x))) (sym extent) (subst (λ i. IsTrue (is_unused_place i (owner_of owners e))) (sym place) unused);
      }

  pub taken_unused : (p e j : ℕ) (kind : Kind) → e < shape.extents → IsKindOf shape.extent_pages kind → lowest_unused_place shape.extent_pages kind ≡ Some j
      → p ≡ first_page_of shape.extents shape.extent_pages e + j → owner_of owners e ≡ kind → IsUnusedPage shape owners p
  taken_unused p e j kind below fits lowest is owner =
      unused_at p e j below (lowest_unused_below shape.extent_pages j kind lowest) is
      (subst (λ k. IsTrue (is_unused_place j k)) (sym owner) (lowest_unused_is shape.extent_pages j kind (extent_limits shape).1 fits lowest))

  pub taken_list : (p e j : ℕ) (kind : Kind) → j < shape.extent_pages → p ≡ first_page_of shape.extents shape.extent_pages e + j → owner_of owners e ≡ kind
      → set owners e (with_used_place j kind) ≡ with_used_page shape owners p
  taken_list p e j kind less is owner =
      with_page-parts shape owners p e j kind (sym (ap (extent_of shape) is ∙ extent_of-page shape e j less)) (sym (ap (place_in_extent shape) is ∙ place_of-page shape e j less)) (sym owner)

  -- the first page of the lowest free extent
  pub begun_claimable : (p e : ℕ) → e < shape.extents → p ≡ first_page_of shape.extents shape.extent_pages e → owner_of owners e ≡ Free → IsClaimable shape owners p
  begun_claimable p e below is free =
      let some : 0 < shape.extent_pages = omega (arith, (extent_limits shape).0) in
      let at : p ≡ first_page_of shape.extents shape.extent_pages e + 0 = omega (arith, is) in
      let extent : extent_of shape p ≡ e = ap (extent_of shape) at ∙ extent_of-page shape e 0 some in
      record {
        page = subst (λ q. IsExtentPage shape q) (sym at) (is_extent_page shape e 0 below some);
        claimable = inr (ap (owner_of owners) extent ∙ free, ap (place_in_extent shape) at ∙ place_of-page shape e 0 some);
      }

  pub begun_list : (p e : ℕ) → p ≡ first_page_of shape.extents shape.extent_pages e → owner_of owners e ≡ Free → set owners e (Index 1) ≡ with_used_page shape owners p
  begun_list p e is free =
      let some : 0 < shape.extent_pages = omega (arith, (extent_limits shape).0) in
      taken_list p e 0 Free some (omega (arith, is)) free

module _ (shape : Shape) (before : SpaceNotes) (owners : List Kind) where
  -- no extent below an end has a page that isn't used
  pub none_below : (to : ℕ) → ((i : ℕ) → IsKindOf shape.extent_pages (owner_of owners i)) → AreRightNotes shape before owners → NoneWanted UnusedPage shape.extent_pages owners before.unused_from to
      → (i j : ℕ) → i < to → j < shape.extent_pages → IsTrue (is_unused_place j (owner_of owners i)) → ⊥
  none_below to kinds notes passed i j below less unused = elim (cases_lt i before.unused_from) [
    | inl low ↦ notes.unused i j low less unused
    | inr high ↦ none_unused shape.extent_pages j (owner_of owners i) (extent_limits shape).1 (kinds i) (passed i high below) less unused
  ]

  -- none is free below an end
  pub none_free_below : (to : ℕ) → AreRightNotes shape before owners → NoneWanted FreeExtent shape.extent_pages owners before.free_from to
      → (i : ℕ) → i < to → i < length owners → owner_of owners i ≢ Free
  none_free_below to notes passed i below within = elim (cases_lt i before.free_from) [
    | inl low ↦ notes.free i low within
    | inr high ↦ is_free-not (owner_of owners i) (passed i high below)
  ]

  pub has_no_free : length owners ≡ shape.extents → AreRightNotes shape before owners → NoneWanted FreeExtent shape.extent_pages owners before.free_from shape.extents → HasNoFree owners
  has_no_free count notes passed = λ e within. none_free_below shape.extents notes passed e (omega (arith, within, count)) within

  pub has_no_unused : ((i : ℕ) → IsKindOf shape.extent_pages (owner_of owners i)) → AreRightNotes shape before owners → NoneWanted UnusedPage shape.extent_pages owners before.unused_from shape.extents → HasNoUnused shape owners
  has_no_unused kinds notes passed = λ p unused. none_below shape.extents kinds notes passed (extent_of shape p) (place_in_extent shape p) (extent_below shape p unused.page) (place_below shape p) unused.unused

  pub taken_lowest : (p e j : ℕ) (kind : Kind) → e < shape.extents → IsKindOf shape.extent_pages kind → lowest_unused_place shape.extent_pages kind ≡ Some j
      → p ≡ first_page_of shape.extents shape.extent_pages e + j → owner_of owners e ≡ kind → ((i : ℕ) → IsKindOf shape.extent_pages (owner_of owners i)) → AreRightNotes shape before owners
      → NoneWanted UnusedPage shape.extent_pages owners before.unused_from e → IsLowestUnused shape owners p
  taken_lowest p e j kind below fits lowest is owner kinds notes passed = record {
    unused = taken_unused shape owners p e j kind below fits lowest is owner;
    lowest = λ q lower unused. elim (lower_page shape q e j unused.page (lowest_unused_below shape.extent_pages j kind lowest) (omega (arith, lower, is))) [
      | inl before ↦ none_below e kinds notes passed (extent_of shape q) (place_in_extent shape q) before (place_below shape q) unused.unused
      | inr here ↦ lowest_unused_lowest shape.extent_pages j (place_in_extent shape q) kind (extent_limits shape).1 fits lowest here.1
          (subst (λ k. IsTrue (is_unused_place (place_in_extent shape q) k)) (ap (owner_of owners) here.0 ∙ owner) unused.unused)
    ];
  }

  pub taken_notes : (after : SpaceNotes) (p e j : ℕ) (kind : Kind) → set owners e (with_used_place j kind) ≡ with_used_page shape owners p → after.free_from ≡ before.free_from → after.unused_from ≡ e
      → ((i : ℕ) → IsKindOf shape.extent_pages (owner_of owners i)) → AreRightNotes shape before owners → NoneWanted UnusedPage shape.extent_pages owners before.unused_from e
      → AreRightNotes shape after (with_used_page shape owners p)
  taken_notes after p e j kind list stays at kinds notes passed = subst (λ all. AreRightNotes shape after all) list
      (right_notes-set shape after owners e (with_used_place j kind) (λ below. with_place-owned j kind) (λ below. absurd (omega (arith, below, at)))
      (λ i below within other. notes.free i (omega (arith, below, stays)) within)
      (λ i k below less other. none_below e kinds notes passed i k (omega (arith, below, at)) less))

  pub begun_lowest : (p e : ℕ) → e < shape.extents → length owners ≡ shape.extents → p ≡ first_page_of shape.extents shape.extent_pages e → owner_of owners e ≡ Free → ((i : ℕ) → IsKindOf shape.extent_pages (owner_of owners i))
      → AreRightNotes shape before owners → NoneWanted UnusedPage shape.extent_pages owners before.unused_from shape.extents → NoneWanted FreeExtent shape.extent_pages owners before.free_from e → IsLowestClaimable shape owners p
  begun_lowest p e below count is free kinds notes unused passed =
      let some : 0 < shape.extent_pages = omega (arith, (extent_limits shape).0) in
      let at : p ≡ first_page_of shape.extents shape.extent_pages e + 0 = omega (arith, is) in
      let extent : extent_of shape p ≡ e = ap (extent_of shape) at ∙ extent_of-page shape e 0 some in
      inr (record {
        page = subst (λ q. IsExtentPage shape q) (sym at) (is_extent_page shape e 0 below some);
        none_unused = has_no_unused kinds notes unused;
        lowest = subst (λ x. IsLowestFree owners x) (sym extent) (record { within = omega (arith, below, count); free = free; lowest = λ i less. none_free_below e notes passed i less (omega (arith, less, below, count)) });
        first = ap (place_in_extent shape) at ∙ place_of-page shape e 0 some;
      })

  pub begun_notes : (after : SpaceNotes) (p e : ℕ) → set owners e (Index 1) ≡ with_used_page shape owners p → after.free_from ≡ e + 1 → after.unused_from ≡ e → e < shape.extents
      → ((i : ℕ) → IsKindOf shape.extent_pages (owner_of owners i)) → AreRightNotes shape before owners → NoneWanted UnusedPage shape.extent_pages owners before.unused_from shape.extents
      → NoneWanted FreeExtent shape.extent_pages owners before.free_from e → AreRightNotes shape after (with_used_page shape owners p)
  begun_notes after p e list next at within_cap kinds notes unused passed = subst (λ all. AreRightNotes shape after all) list
      (right_notes-set shape after owners e (Index 1) (λ below is. cc) (λ below. absurd (omega (arith, below, at)))
      (λ i below within other. none_free_below e notes passed i (omega (arith, below, next, other)) within)
      (λ i k below less other. none_below shape.extents kinds notes unused i k (omega (arith, below, at, within_cap)) less))

  -- nothing is left
  pub full_notes : (after : SpaceNotes) → after.free_from ≡ shape.extents → after.unused_from ≡ shape.extents → length owners ≡ shape.extents
      → ((i : ℕ) → IsKindOf shape.extent_pages (owner_of owners i)) → AreRightNotes shape before owners → NoneWanted UnusedPage shape.extent_pages owners before.unused_from shape.extents
      → NoneWanted FreeExtent shape.extent_pages owners before.free_from shape.extents → AreRightNotes shape after owners
  full_notes after free_at unused_at count kinds notes unused free = record {
    free = λ e below within. none_free_below shape.extents notes free e (omega (arith, within, count)) within;
    unused = λ e j below less. none_below shape.extents kinds notes unused e j (omega (arith, below, unused_at)) less;
  }
