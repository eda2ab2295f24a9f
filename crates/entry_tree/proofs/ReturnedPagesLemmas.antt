-- Pages that are given back, and those that stay in use.
use Rattle.std.proofs.Common.{◌≡◌, ◌≢◌, ◌<◌, ◌+◌, ◌-◌, ◌^◌, ℕ, List, length, ap, arith, sym, ◌∙◌, subst, set, inl, inr, min, get_or-set_other, get_or-set_same}
use Rattle.std.specs.Prelude.{IsTrue, bit_and, if◌then◌else◌}
use Rattle.std.specs.Int.{bit_at, bit_not, w32}
use Rattle.std.proofs.Math.Pow.{pow-lt}
use Rattle.std.proofs.lemmas.Bool.{cases_eq, cases_lt, eq-eqb, eqb-true, ne_eqb}
use Rattle.std.proofs.Math.ListN.{get_or-eq_default}
use Rattle.std.proofs.lemmas.Nat.Bits.{bit_at-zero, bit_at_and, bit_at_not, bit_at-pow_other}
use Rattle.store_api.specs.Extents.{first_page_of}
use Rattle.store_api.specs.declared.shape.Shape.{Shape}
use Rattle.extent_map.specs.Kinds.{index_or_free, is_used_place, without_place}
use Rattle.extent_map.specs.Map.{IsMapPage, map_page_of}
use Rattle.extent_map.specs.Owners.{IsExtentPage, IsUsedPage, extent_of, owner_of, place_in_extent, without_page}
use Rattle.extent_map.specs.declared.kind.Kind.{Kind}
use Rattle.extent_map.specs.declared.kind.Kind.TheVariants.{Free, Block, Index}
use Rattle.extent_map.proofs.ExtentsLemmas.{extent_below, extent_limits, page_of-parts, place_below}
use Rattle.extent_map.proofs.HoldsMapLemmas.{on_map}

-- the page of the map on which a page's extent stands
pub map_page_there : (shape : Shape) (p q : ℕ) → IsExtentPage shape p → q ≡ map_page_of (extent_of shape p) → IsMapPage shape q
map_page_there shape p q is at = let lies = on_map shape.extents (extent_of shape p) (extent_below shape p is) in (omega arith, omega (arith, lies))

-- no page of an extent is one of the map
pub apart_from_map : (shape : Shape) (p : ℕ) → IsExtentPage shape p → IsMapPage shape p → ⊥
apart_from_map shape p is map = omega (arith, is.behind, map.1)

-- a place that is used stays so where another is given back
bit_stays : (used i j : ℕ) → i < 32 → j < 32 → i ≢ j → bit_at used i ≡ 1 → bit_at (bit_and used (bit_not w32 (2 ^ j))) i ≡ 1
bit_stays used i j few less apart is =
    bit_at_and used (bit_not w32 (2 ^ j)) i
    ∙ ap (λ b. min b (bit_at (bit_not w32 (2 ^ j)) i)) is
    ∙ ap (λ b. min 1 b) (bit_at_not w32 (2 ^ j) i (pow-lt less) few ∙ ap (λ b. 1 - b) (bit_at-pow_other j i apart))

place_stays : (i j : ℕ) (kind : Kind) → i < 32 → j < 32 → i ≢ j → IsTrue (is_used_place i kind) → IsTrue (is_used_place i (without_place j kind))
place_stays i j Free few less apart is = is
place_stays i j (Block table) few less apart is = is
place_stays i j (Index used) few less apart is =
    kept (bit_and used (bit_not w32 (2 ^ j))) (bit_stays used i j few less apart (eqb-true (bit_at used i) 1 is))
  where
    kept : (left : ℕ) → bit_at left i ≡ 1 → IsTrue (is_used_place i (index_or_free left))
    kept left is = elim (cases_eq left 0) [
      | inl none ↦ let zero_bit : bit_at left i ≡ 0 = ap (λ n. bit_at n i) none ∙ bit_at-zero i in absurd (omega arith)
      | inr some ↦ subst (λ b. IsTrue (is_used_place i (if b then Free else Index left))) (sym (ne_eqb left 0 some)) (eq-eqb (bit_at left i) 1 is)
    ]

-- a used page stays so where another is given back
pub used_beside : (shape : Shape) (owners : List Kind) (p q : ℕ) → IsUsedPage shape owners p → IsExtentPage shape q → p ≢ q → IsUsedPage shape (without_page shape owners q) p
used_beside shape owners p q is other apart =
    let limits = extent_limits shape in
    let low = place_below shape p in
    let lower = place_below shape q in
    record {
      page = is.page;
      used = elim (cases_eq (extent_of shape p) (extent_of shape q)) [
        | inr far ↦ subst (λ (k : Kind). IsTrue (is_used_place (place_in_extent shape p) k)) (sym (get_or-set_other owners (extent_of shape q) (extent_of shape p) (without_place (place_in_extent shape q) (owner_of owners (extent_of shape q))) Free far)) is.used
        | inl near ↦ same_extent near (λ (e : place_in_extent shape p ≡ place_in_extent shape q). apart (together near e)) (omega (arith, limits.1, low)) (omega (arith, limits.1, lower))
      ];
    }
  where
    together : extent_of shape p ≡ extent_of shape q → place_in_extent shape p ≡ place_in_extent shape q → p ≡ q
    together e f =
        sym (page_of-parts shape p is.page)
        ∙ (ap (λ (k : ℕ). first_page_of shape.extents shape.extent_pages k + place_in_extent shape p) e
        ∙ (ap (λ (k : ℕ). first_page_of shape.extents shape.extent_pages (extent_of shape q) + k) f ∙ page_of-parts shape q other))

    -- an extent past the end of the list is free, and none of its pages is used
    there : (e : ℕ) (kind : Kind) → IsTrue (is_used_place (place_in_extent shape p) (owner_of owners e)) → IsTrue (is_used_place (place_in_extent shape p) kind)
        → IsTrue (is_used_place (place_in_extent shape p) (owner_of (set owners e kind) e))
    there e kind was now = elim (cases_lt e (length owners)) [
      | inl below ↦ subst (λ (k : Kind). IsTrue (is_used_place (place_in_extent shape p) k)) (sym (get_or-set_same owners e kind Free below)) now
      | inr past ↦ let none : IsTrue (is_used_place (place_in_extent shape p) Free) = subst (λ (k : Kind). IsTrue (is_used_place (place_in_extent shape p) k)) (get_or-eq_default owners Free {n = e} past) was in cc
    ]

    same_extent : extent_of shape p ≡ extent_of shape q → place_in_extent shape p ≢ place_in_extent shape q → place_in_extent shape p < 32 → place_in_extent shape q < 32
        → IsTrue (is_used_place (place_in_extent shape p) (owner_of (without_page shape owners q) (extent_of shape p)))
    same_extent near d few less =
        let was : IsTrue (is_used_place (place_in_extent shape p) (owner_of owners (extent_of shape q))) = subst (λ (e : ℕ). IsTrue (is_used_place (place_in_extent shape p) (owner_of owners e))) near is.used in
        subst (λ (e : ℕ). IsTrue (is_used_place (place_in_extent shape p) (owner_of (without_page shape owners q) e))) (sym near)
        (there (extent_of shape q) (without_place (place_in_extent shape q) (owner_of owners (extent_of shape q))) was (place_stays (place_in_extent shape p) (place_in_extent shape q) (owner_of owners (extent_of shape q)) few less d was))
