-- Pages by their extent and their place in it.
use Rattle.std.proofs.Common.{◌≡◌, ◌⊎◌, ◌<◌, ◌≤◌, ◌+◌, ◌-◌, ◌*◌, ◌/◌, ◌%◌, ◌&&◌, ℕ, Bool, true, false, nat_le, List, set, inl, inr, refl, ap, sym, ◌∙◌, arith}
use Rattle.std.proofs.Math.Nat.{mul-le-mul_right}
use Rattle.std.proofs.lemmas.Bool.{cases_lt, cases_eq}
use Rattle.std.proofs.lemmas.Bool.Decides.{nat_tests}
use Rattle.std.proofs.lemmas.Nat.{div-mul-add, mod-mul-add, div-add-mod', div_below}
use Rattle.store_api.specs.Extents.{is_extent_size, first_count, first_page_of}
use Rattle.store_api.specs.declared.shape.Shape.{Shape}
use Rattle.extent_map.specs.Kinds.{is_used_place, with_used_place, without_place}
use Rattle.extent_map.specs.Owners.{owner_of, extent_of, place_in_extent, IsExtentPage, IsUsedPage, with_used_page, without_page}
use Rattle.extent_map.specs.declared.kind.Kind.{Kind}

-- an extent has a page, and at most 32
pub size_limits : (n : ℕ) → is_extent_size n ≡ true → (2 ≤ n) × (n ≤ 32)
size_limits n is = (grind (arith, nat_tests), grind (arith, nat_tests))

last_true : (a b c d : Bool) → (a && b && c && d) ≡ true → c ≡ true
last_true true true true d is = refl
last_true true true false d is = absurd (cc)
last_true true false c d is = absurd (cc)
last_true false b c d is = absurd (cc)

pub extent_limits : (shape : Shape) → (2 ≤ shape.extent_pages) × (shape.extent_pages ≤ 32)
extent_limits shape = size_limits shape.extent_pages (last_true (nat_le 4 shape.extents) (nat_le shape.extents 65536) (is_extent_size shape.extent_pages) (nat_le (shape.extents * shape.extent_pages) 262144) shape.within)

first_true : (a b c d : Bool) → (a && b && c && d) ≡ true → a ≡ true
first_true true b c d is = refl
first_true false true c d is = absurd (cc)
first_true false false c d is = absurd (cc)

-- there are some extents
pub some_extents : (shape : Shape) → 4 ≤ shape.extents
some_extents shape =
    let is : nat_le 4 shape.extents ≡ true = first_true (nat_le 4 shape.extents) (nat_le shape.extents 65536) (is_extent_size shape.extent_pages) (nat_le (shape.extents * shape.extent_pages) 262144) shape.within in
    grind (arith, nat_tests)

-- the page at a place of an extent
pub extent_of-page : (shape : Shape) (e j : ℕ) → j < shape.extent_pages → extent_of shape (first_page_of shape.extents shape.extent_pages e + j) ≡ e
extent_of-page shape e j less =
    let n = shape.extent_pages in
    let inside : first_page_of shape.extents n e + j - first_count shape.extents ≡ e * n + j = omega arith in
    ap (λ k. k / n) inside ∙ div-mul-add e n j less

pub place_of-page : (shape : Shape) (e j : ℕ) → j < shape.extent_pages → place_in_extent shape (first_page_of shape.extents shape.extent_pages e + j) ≡ j
place_of-page shape e j less =
    let n = shape.extent_pages in
    let inside : first_page_of shape.extents n e + j - first_count shape.extents ≡ e * n + j = omega arith in
    ap (λ k. k % n) inside ∙ mod-mul-add e n j less

pub is_extent_page : (shape : Shape) (e j : ℕ) → e < shape.extents → j < shape.extent_pages → IsExtentPage shape (first_page_of shape.extents shape.extent_pages e + j)
is_extent_page shape e j below less =
    let all : (e + 1) * shape.extent_pages ≤ shape.extents * shape.extent_pages = let next : e + 1 ≤ shape.extents = omega arith in mul-le-mul_right shape.extent_pages next in
    record { behind = omega arith; within = omega (arith, all) }

-- each page of an extent is that at its place
pub place_below : (shape : Shape) (p : ℕ) → place_in_extent shape p < shape.extent_pages
place_below shape p = let some = (extent_limits shape).0 in omega (arith, some)

pub page_of-parts : (shape : Shape) (p : ℕ) → IsExtentPage shape p → first_page_of shape.extents shape.extent_pages (extent_of shape p) + place_in_extent shape p ≡ p
page_of-parts shape p is = omega (arith, is.behind, div-add-mod' (p - first_count shape.extents) shape.extent_pages)

pub extent_below : (shape : Shape) (p : ℕ) → IsExtentPage shape p → extent_of shape p < shape.extents
extent_below shape p is =
    let some = (extent_limits shape).0 in
    div_below (p - first_count shape.extents) shape.extent_pages shape.extents (omega (arith, some)) (omega (arith, is.within, is.behind))

-- a lower page lies in a lower extent, or at a lower place of the same
pub lower_page : (shape : Shape) (q e j : ℕ) → IsExtentPage shape q → j < shape.extent_pages → q < first_page_of shape.extents shape.extent_pages e + j
    → (extent_of shape q < e) ⊎ ((extent_of shape q ≡ e) × (place_in_extent shape q < j))
lower_page shape q e j is less lower = elim (cases_lt (extent_of shape q) e) [
  | inl before ↦ inl before
  | inr after ↦
      let n = shape.extent_pages in
      let parts = page_of-parts shape q is in
      elim (cases_eq (extent_of shape q) e) [
        | inl same ↦ (let product : extent_of shape q * n ≡ e * n = ap (λ x. x * n) same in inr (same, omega (arith, parts, product, lower)))
        | inr other ↦
            let next : e + 1 ≤ extent_of shape q = omega (arith, after, other) in
            let product : (e + 1) * n ≤ extent_of shape q * n = mul-le-mul_right n next in
            absurd (omega (arith, parts, product, lower, less))
      ]
]

-- the list with a page more, or less, by its extent and place
pub with_page-parts : (shape : Shape) (owners : List Kind) (p e j : ℕ) (kind : Kind) → e ≡ extent_of shape p → j ≡ place_in_extent shape p → kind ≡ owner_of owners e
    → set owners e (with_used_place j kind) ≡ with_used_page shape owners p
with_page-parts shape owners p e j kind is_extent is_place is_kind =
    ap (λ k. set owners e (with_used_place j k)) is_kind ∙ (ap (λ i. set owners e (with_used_place i (owner_of owners e))) is_place
    ∙ ap (λ x. set owners x (with_used_place (place_in_extent shape p) (owner_of owners x))) is_extent)

pub without_page-parts : (shape : Shape) (owners : List Kind) (p e j : ℕ) (kind : Kind) → e ≡ extent_of shape p → j ≡ place_in_extent shape p → kind ≡ owner_of owners e
    → set owners e (without_place j kind) ≡ without_page shape owners p
without_page-parts shape owners p e j kind is_extent is_place is_kind =
    ap (λ k. set owners e (without_place j k)) is_kind ∙ (ap (λ i. set owners e (without_place i (owner_of owners e))) is_place
    ∙ ap (λ x. set owners x (without_place (place_in_extent shape p) (owner_of owners x))) is_extent)

-- a used page, by its extent and place
pub used_by_parts : (shape : Shape) (owners : List Kind) (p e j : ℕ) (kind : Kind) → e ≡ extent_of shape p → j ≡ place_in_extent shape p → owner_of owners e ≡ kind
    → IsUsedPage shape owners p → is_used_place j kind ≡ true
used_by_parts shape owners p e j kind is_extent is_place is_kind used =
    ap (is_used_place j) (sym is_kind) ∙ (ap (λ i. is_used_place i (owner_of owners e)) is_place ∙ (ap (λ x. is_used_place (place_in_extent shape p) (owner_of owners x)) is_extent ∙ used.used))
