-- The tables that are there, by their places, and how often a page stands in their trees.
use Rattle.std.proofs.Common.{◌≡◌, ◌≢◌, ◌<◌, ◌≤◌, ◌+◌, ℕ, zero, suc, List, [], ◌∷◌, Bool, true, false, Option, Some, None, length, set, sum_by, refl, ap, arith, sym, ◌∙◌, subst, ◌⊎◌, inl, inr}
use Rattle.std.specs.Prelude.{slice_get}
use Rattle.std.specs.List.{AllByRecursion, AllZip, range_with_len}
use Rattle.std.proofs.lemmas.Bool.{cases_lt}
use Rattle.std.proofs.lemmas.List.Sums.{sum_by-cons}
use Rattle.std.proofs.lemmas.Option.{same_Some}
use Rattle.store_api.specs.Extents.{first_count, first_page_of}
use Rattle.store_api.specs.declared.shape.Shape.{Shape}
use Rattle.extent_map.specs.Kinds.{is_used_place}
use Rattle.extent_map.specs.Owners.{IsUsedPage, extent_of, owner_of, place_in_extent}
use Rattle.extent_map.specs.declared.kind.Kind.{Kind}
use Rattle.mdc_sound.specs.SpaceRules.{tables_there}
use Rattle.mdc_sound.specs.TableViews.{TableView}

-- ---- the tables

-- the same table, where two sides say what stands in one place
pub same_table : (a b : TableView) → Some (Some a) ≡ Some (Some b) → a ≡ b
same_table a b e = same_Some a b (same_Some (Some a) (Some b) e)

-- what holds of each table holds of the one in a place
pub there_at : (P : TableView → Type 0) (places : List (Option TableView)) (t : ℕ) (table : TableView) → slice_get places t ≡ Some (Some table)
    → AllByRecursion P (tables_there places) → P table
there_at P [] t table at all = absurd (cc)
there_at P (None ∷ places) zero table at all = absurd (cc)
there_at P (Some first ∷ places) zero table at all = subst P (same_table first table at) all.0
there_at P (None ∷ places) (suc t) table at all = there_at P places t table at all
there_at P (Some first ∷ places) (suc t) table at all = there_at P places t table at all.1

-- and what holds of each that stands in a place holds of all
pub each_there : (P : TableView → Type 0) (places : List (Option TableView)) → ((t : ℕ) (table : TableView) → slice_get places t ≡ Some (Some table) → P table)
    → AllByRecursion P (tables_there places)
each_there P [] each = tt
each_there P (None ∷ places) each = each_there P places (λ t table at. each (suc t) table at)
each_there P (Some first ∷ places) each = (each 0 first refl, each_there P places (λ t table at. each (suc t) table at))

-- ---- sums over them

pub there_sum : (f : TableView → ℕ) (places : List (Option TableView)) (t : ℕ) (table : TableView) → slice_get places t ≡ Some (Some table)
    → f table ≤ sum_by f (tables_there places)
there_sum f [] t table at = absurd (cc)
there_sum f (None ∷ places) zero table at = absurd (cc)
there_sum f (Some first ∷ places) zero table at = omega (arith, ap f (same_table first table at), sum_by-cons f first (tables_there places))
there_sum f (None ∷ places) (suc t) table at = there_sum f places t table at
there_sum f (Some first ∷ places) (suc t) table at = omega (arith, there_sum f places t table at, sum_by-cons f first (tables_there places))

-- of two tables
pub two_there_sum : (f : TableView → ℕ) (places : List (Option TableView)) (t u : ℕ) (table other : TableView) → t ≢ u → slice_get places t ≡ Some (Some table)
    → slice_get places u ≡ Some (Some other) → f table + f other ≤ sum_by f (tables_there places)
two_there_sum f [] t u table other apart at there = absurd (cc)
two_there_sum f (first ∷ places) zero zero table other apart at there = absurd (apart refl)
two_there_sum f (None ∷ places) zero (suc u) table other apart at there = absurd (cc)
two_there_sum f (Some first ∷ places) zero (suc u) table other apart at there =
    omega (arith, ap f (same_table first table at), there_sum f places u other there, sum_by-cons f first (tables_there places))
two_there_sum f (None ∷ places) (suc t) zero table other apart at there = absurd (cc)
two_there_sum f (Some first ∷ places) (suc t) zero table other apart at there =
    omega (arith, ap f (same_table first other there), there_sum f places t table at, sum_by-cons f first (tables_there places))
two_there_sum f (None ∷ places) (suc t) (suc u) table other apart at there = two_there_sum f places t u table other (λ e. apart (ap suc e)) at there
two_there_sum f (Some first ∷ places) (suc t) (suc u) table other apart at there =
    omega (arith, two_there_sum f places t u table other (λ e. apart (ap suc e)) at there, sum_by-cons f first (tables_there places))

-- where another table takes the place of one
pub set_there_sum : (f : TableView → ℕ) (places : List (Option TableView)) (t : ℕ) (table now : TableView) → slice_get places t ≡ Some (Some table)
    → sum_by f (tables_there (set places t (Some now))) + f table ≡ sum_by f (tables_there places) + f now
set_there_sum f [] t table now at = absurd (cc)
set_there_sum f (None ∷ places) zero table now at = absurd (cc)
set_there_sum f (Some first ∷ places) zero table now at =
    omega (arith, ap f (same_table first table at), sum_by-cons f first (tables_there places), sum_by-cons f now (tables_there places))
set_there_sum f (None ∷ places) (suc t) table now at = set_there_sum f places t table now at
set_there_sum f (Some first ∷ places) (suc t) table now at =
    omega (arith, set_there_sum f places t table now at, sum_by-cons f first (tables_there places), sum_by-cons f first (tables_there (set places t (Some now))))

-- ---- places beside their numbers

-- what stands in a place, where each place is so by its number
pub range_at : {B : Type 0} (R : ℕ → B → Type 0) (a n : ℕ) (ys : List B) (i : ℕ) (y : B) → AllZip R (range_with_len a n) ys → slice_get ys i ≡ Some y → (i < n) × R (a + i) y
range_at R a zero [] i y all at = absurd (cc)
range_at R a zero (first ∷ ys) i y all at = absurd all
range_at R a (suc n) [] i y all at = absurd all
range_at R a (suc n) (first ∷ ys) zero y all at =
    let here : a ≡ a + 0 = omega arith in (omega arith, subst (λ m. R m y) here (subst (R a) (same_Some first y at) all.0))
range_at R a (suc n) (first ∷ ys) (suc i) y all at =
    let later = range_at R (a + 1) n ys i y all.1 at in
    let same : (a + 1) + i ≡ a + suc i = omega arith in (omega (arith, later.0), subst (λ m. R m y) same later.1)

-- how many places there are
pub range_length : {B : Type 0} (R : ℕ → B → Type 0) (a n : ℕ) (ys : List B) → AllZip R (range_with_len a n) ys → length ys ≡ n
range_length R a zero [] all = refl
range_length R a zero (y ∷ ys) all = absurd all
range_length R a (suc n) [] all = absurd all
range_length R a (suc n) (y ∷ ys) all = ap suc (range_length R (a + 1) n ys all.1)

-- and the other way round
pub range_each : {B : Type 0} (R : ℕ → B → Type 0) (a n : ℕ) (ys : List B) → length ys ≡ n → ((i : ℕ) (y : B) → slice_get ys i ≡ Some y → R (a + i) y) → AllZip R (range_with_len a n) ys
range_each R a zero [] count each = tt
range_each R a zero (y ∷ ys) count each = absurd (omega (arith, count))
range_each R a (suc n) [] count each = absurd (omega (arith, count))
range_each R a (suc n) (y ∷ ys) count each =
    let here : a + 0 ≡ a = omega arith in (
      subst (λ m. R m y) here (each 0 y refl),
      range_each R (a + 1) n ys (omega (arith, count)) (λ i z at. let same : a + suc i ≡ (a + 1) + i = omega arith in subst (λ m. R m z) same (each (suc i) z at)),
    )

-- ---- used pages

-- a page is a used page of an index extent, or it isn't
pub used_or_not : (shape : Shape) (owners : List Kind) (p : ℕ) → IsUsedPage shape owners p ⊎ (IsUsedPage shape owners p → ⊥)
used_or_not shape owners p = elim (cases_lt p (first_count shape.extents)) [
  | inl before ↦ inr (λ used. omega (arith, before, used.page.behind))
  | inr behind ↦ elim (cases_lt p (first_page_of shape.extents shape.extent_pages shape.extents)) [
    | inl within ↦ go (is_used_place (place_in_extent shape p) (owner_of owners (extent_of shape p))) refl behind within
    | inr past ↦ inr (λ used. omega (arith, past, used.page.within))
  ]
]
  where
    go : (used : Bool) → is_used_place (place_in_extent shape p) (owner_of owners (extent_of shape p)) ≡ used → first_count shape.extents ≤ p → p < first_page_of shape.extents shape.extent_pages shape.extents
        → IsUsedPage shape owners p ⊎ (IsUsedPage shape owners p → ⊥)
    go true is behind within = inl (record { page = record { behind = behind; within = within }; used = is })
    go false is behind within = inr (λ used. let wrong : true ≡ false = sym used.used ∙ is in absurd (cc))
