-- How many extents are free, and how many index pages are used, once pages were claimed or given back.
use Rattle.std.proofs.Common.{◌≡◌, ◌≢◌, ◌<◌, ◌≤◌, ℕ, ◌+◌, ◌-◌, ◌*◌, ◌/◌, false, IsTrue, suc, List, [], ◌∷◌, length, length-set, inl, inr, refl, ap, sym, ◌∙◌, arith}
use Rattle.std.specs.Prelude.{sum_by}
use Rattle.std.proofs.Math.Nat.{add-div_right, div-eq_of_lt}
use Rattle.std.proofs.lemmas.Bool.{cases_lt, false_from_ne_true}
use Rattle.std.proofs.lemmas.List.Sums.{sum_by-cons, sum_by-set}
use Rattle.std.proofs.lemmas.Nat.{le-div}
use Rattle.store_api.specs.Extents.{first_page_of}
use Rattle.store_api.specs.declared.shape.Shape.{Shape}
use Rattle.extent_map.specs.Kinds.{is_free_kind, is_used_place, is_unused_place, with_used_place, without_place}
use Rattle.extent_map.specs.Owners.{HasNoFree, HasNoUnused, IsClaimable, IsExtentPage, IsFirstOfFree, IsLowestClaimable, IsUnusedPage, extent_of, owner_of, place_in_extent, with_block, with_used_page, without_block, without_page}
use Rattle.extent_map.specs.declared.kind.Kind.{Kind}
use Rattle.extent_map.specs.declared.kind.Kind.TheVariants.{Free, Block, Index}
use Rattle.extent_map.proofs.BitsLemmas.{unused_place-not_used}
use Rattle.extent_map.proofs.ExtentsLemmas.{extent_below, extent_limits, extent_of-page, is_extent_page, place_below, place_of-page}
use Rattle.extent_map.proofs.UsedPagesLemmas.{claimable-no_block}
use Rattle.entry_tree.specs.Pruning.{without_pages}
use Rattle.entry_tree.specs.Standing.{AreClaims, AreLowestClaims, with_pages}
use Rattle.entry_tree.proofs.UsedPagesLemmas.{length-with_pages}
use Rattle.table_trees.specs.SpaceChanges.{extents_for, free_extents, unused_index_pages, used_index_pages}
use Rattle.table_trees.proofs.PlaceCountsLemmas.{count_none, one_if, room_in, room_in-with_place, sum_by-none, sum_by-set_ge, sum_by-set_le, unused_in, used_in, used_in-with_place_le, used_in-without_place}

-- ---- how many pages may still be claimed

-- those of index extents that aren't used, and those of free extents
abbrev room : Shape → List Kind → ℕ
room shape owners = unused_index_pages shape owners + shape.extent_pages * free_extents owners

-- it is a sum over the extents
sum_room : (n : ℕ) (owners : List Kind) → sum_by (room_in n) owners ≡ sum_by (unused_in n) owners + n * free_extents owners
sum_room n [] = omega arith
sum_room n (kind ∷ owners) =
    omega (
      arith,
      sum_room n owners,
      sum_by-cons (room_in n) kind owners,
      sum_by-cons (unused_in n) kind owners,
      ap (λ k. n * k) (sum_by-cons (λ k. one_if (is_free_kind k)) kind owners),
    )

-- where no extent is free none is counted
pub free_extents-none : (owners : List Kind) → HasNoFree owners → free_extents owners ≡ 0
free_extents-none owners none = sum_by-none (λ kind. one_if (is_free_kind kind)) owners Free (λ e within. not_free (owner_of owners e) (none e within))
  where
    not_free : (kind : Kind) → kind ≢ Free → one_if (is_free_kind kind) ≡ 0
    not_free Free other = absurd (other refl)
    not_free (Block table) other = refl
    not_free (Index used) other = refl

-- and where each page of an index extent is used no unused one is
unused-none : (shape : Shape) (owners : List Kind) → length owners ≡ shape.extents → HasNoUnused shape owners → unused_index_pages shape owners ≡ 0
unused-none shape owners long none =
    sum_by-none (unused_in shape.extent_pages) owners Free
    (λ e within. count_none (λ j. is_unused_place j (owner_of owners e)) shape.extent_pages
    (λ j less. false_from_ne_true (is_unused_place j (owner_of owners e)) (λ unused. none (first_page_of shape.extents shape.extent_pages e + j) (page_at e j (omega (arith, within, long)) less unused))))
  where
    page_at : (e j : ℕ) → e < shape.extents → j < shape.extent_pages → IsTrue (is_unused_place j (owner_of owners e)) → IsUnusedPage shape owners (first_page_of shape.extents shape.extent_pages e + j)
    page_at e j below less unused = record {
      page = is_extent_page shape e j below less;
      unused = ap (λ i. is_unused_place i (owner_of owners (extent_of shape (first_page_of shape.extents shape.extent_pages e + j)))) (place_of-page shape e j less)
          ∙ (ap (λ x. is_unused_place j (owner_of owners x)) (extent_of-page shape e j less) ∙ unused);
    }

-- ---- one page that is claimed

-- its extent isn't free afterwards
with_place-not_free : (j : ℕ) (kind : Kind) → is_free_kind (with_used_place j kind) ≡ false
with_place-not_free j Free = refl
with_place-not_free j (Block table) = refl
with_place-not_free j (Index used) = refl

-- an extent with a page that isn't used isn't free
unused-not_free : (j : ℕ) (kind : Kind) → IsTrue (is_unused_place j kind) → is_free_kind kind ≡ false
unused-not_free j Free unused = absurd (cc)
unused-not_free j (Block table) unused = refl
unused-not_free j (Index used) unused = refl

module _ (shape : Shape) (owners : List Kind) (p : ℕ) where
  -- one that may be claimed isn't used
  claimable-place : IsClaimable shape owners p → is_used_place (place_in_extent shape p) (owner_of owners (extent_of shape p)) ≡ false
  claimable-place is = elim is.claimable [
    | inl unused ↦ false_from_ne_true (is_used_place (place_in_extent shape p) (owner_of owners (extent_of shape p))) (unused_place-not_used (place_in_extent shape p) (owner_of owners (extent_of shape p)) unused.unused)
    | inr free ↦ ap (is_used_place (place_in_extent shape p)) free.0
  ]

  -- its claim leaves room for one page less
  room-with_page : length owners ≡ shape.extents → IsClaimable shape owners p → room shape (with_used_page shape owners p) + 1 ≡ room shape owners
  room-with_page long is =
      let n = shape.extent_pages in
      let kind = owner_of owners (extent_of shape p) in
      let j = place_in_extent shape p in
      omega (
        arith,
        sum_room n owners,
        sum_room n (with_used_page shape owners p),
        room_in-with_place n j kind (place_below shape p) (claimable-no_block shape owners p is) (claimable-place is),
        sum_by-set (room_in n) owners (extent_of shape p) (with_used_place j kind) Free (omega (arith, long, extent_below shape p is.page)),
      )

  -- the extent isn't free afterwards, and the others are as they were
  free-with_page : length owners ≡ shape.extents → IsExtentPage shape p → free_extents (with_used_page shape owners p) + one_if (is_free_kind (owner_of owners (extent_of shape p))) ≡ free_extents owners
  free-with_page long page =
      let kind = owner_of owners (extent_of shape p) in
      let j = place_in_extent shape p in
      omega (
        arith,
        ap one_if (with_place-not_free j kind),
        sum_by-set (λ k. one_if (is_free_kind k)) owners (extent_of shape p) (with_used_place j kind) Free (omega (arith, long, extent_below shape p page)),
      )

  -- no more than one page more is used
  used-with_page_le : used_index_pages shape (with_used_page shape owners p) ≤ used_index_pages shape owners + 1
  used-with_page_le =
      let kind = owner_of owners (extent_of shape p) in
      let j = place_in_extent shape p in
      sum_by-set_le (used_in shape.extent_pages) owners (extent_of shape p) (with_used_place j kind) Free 1 (used_in-with_place_le shape.extent_pages j kind (place_below shape p))

  -- where the page was of an index extent, no extent less is free
  free-with_unused : length owners ≡ shape.extents → IsUnusedPage shape owners p → free_extents (with_used_page shape owners p) ≡ free_extents owners
  free-with_unused long unused =
      omega (arith, free-with_page long unused.page, ap one_if (unused-not_free (place_in_extent shape p) (owner_of owners (extent_of shape p)) unused.unused))

  -- and where it was the first of a free one, one less is
  free-with_first : length owners ≡ shape.extents → IsFirstOfFree shape owners p → free_extents (with_used_page shape owners p) + 1 ≡ free_extents owners
  free-with_first long first = omega (arith, free-with_page long first.page, ap (λ k. one_if (is_free_kind k)) first.lowest.free)

  -- the lowest that may be claimed may be claimed
  pub lowest-claimable : IsLowestClaimable shape owners p → IsClaimable shape owners p
  lowest-claimable (inl unused) = record { page = unused.unused.page; claimable = inl unused.unused }
  lowest-claimable (inr first) = record { page = first.page; claimable = inr (first.lowest.free, first.first) }

-- ---- numbers of extents

-- a page that wasn't used is filled
fills_unused : (n u left k few many rest : ℕ) → left + 1 ≡ u → few ≡ many → few ≤ rest + (k - left + n - 1) / n → many ≤ rest + (suc k - u + n - 1) / n
fills_unused n u left k few many rest one same le =
    let number : suc k - u + n - 1 ≡ k - left + n - 1 = omega (arith, one) in
    omega (arith, le, same, ap (λ x. x / n) number)

-- a free extent is taken for one page
fills_extent : (n k : ℕ) → 0 < n → (k - (n - 1) + n - 1) / n + 1 ≤ (suc k + n - 1) / n
fills_extent n k some =
    let one_more : (suc k + n - 1) / n ≡ k / n + 1 = (let number : suc k + n - 1 ≡ k + n = omega (arith, some) in ap (λ x. x / n) number ∙ add-div_right k some) in
    elim (cases_lt k (n - 1)) [
      | inl short ↦ (let number : k - (n - 1) + n - 1 ≡ n - 1 = omega (arith, short) in omega (arith, one_more, ap (λ x. x / n) number, div-eq_of_lt {n = n - 1} {m = n} (omega (arith, some))))
      | inr long ↦ (let number : k - (n - 1) + n - 1 ≡ k = omega (arith, long, some) in omega (arith, one_more, ap (λ x. x / n) number))
    ]

-- and later pages fill what is left of it
fills_free : (n u left k few many rest : ℕ) → 0 < n → u ≡ 0 → few + 1 ≡ many → left + n * few + 1 ≡ u + n * many → few ≤ rest + (k - left + n - 1) / n → many ≤ rest + (suc k - u + n - 1) / n
fills_free n u left k few many rest some none one all le =
    let product : n * many ≡ n * (few + 1) = ap (λ x. n * x) (sym one) in
    let whole : left ≡ n - 1 = omega (arith, all, product, none, some) in
    let number : suc k - u + n - 1 ≡ suc k + n - 1 = omega (arith, none) in
    omega (arith, le, one, fills_extent n k some, ap (λ x. (k - x + n - 1) / n) whole, ap (λ x. x / n) number)

-- more pages than there is room for
fills_more : (n u free k wanted : ℕ) → 0 < n → k ≡ u + n * free → k < wanted → free < (wanted - u + n - 1) / n
fills_more n u free k wanted some all more =
    let product : suc free * n ≡ n * free + n = omega arith in
    le-div (suc free) (wanted - u + n - 1) n some (omega (arith, product, all, more))

-- ---- pages that are claimed one after the other

module _ (shape : Shape) where
  -- there are as many extents as before
  length-with_page : (owners : List Kind) (p : ℕ) → length owners ≡ shape.extents → length (with_used_page shape owners p) ≡ shape.extents
  length-with_page owners p long = length-set owners (extent_of shape p) (with_used_place (place_in_extent shape p) (owner_of owners (extent_of shape p))) ∙ long

  -- each claim leaves room for one page less
  room-with_pages : (owners : List Kind) (claimed : List ℕ) → length owners ≡ shape.extents → AreClaims shape owners claimed → room shape (with_pages shape owners claimed) + length claimed ≡ room shape owners
  room-with_pages owners [] long claims = omega arith
  room-with_pages owners (p ∷ claimed) long claims =
      omega (arith, room-with_page shape owners p long claims.0, room-with_pages (with_used_page shape owners p) claimed (length-with_page owners p long) claims.1)

-- those that are each the lowest take no more extents than they fill
pub free_extents-with_pages : (shape : Shape) (owners : List Kind) (claimed : List ℕ) → length owners ≡ shape.extents → 0 < shape.extent_pages → AreLowestClaims shape owners claimed
    → free_extents owners ≤ free_extents (with_pages shape owners claimed) + extents_for shape owners (length claimed)
free_extents-with_pages shape owners [] long some lowest = omega arith
free_extents-with_pages shape owners (p ∷ claimed) long some lowest =
    let now = with_used_page shape owners p in
    let rest = free_extents (with_pages shape now claimed) in
    let later = free_extents-with_pages shape now claimed (length-with_page shape owners p long) some lowest.1 in
    let all = room-with_page shape owners p long (lowest-claimable shape owners p lowest.0) in
    elim lowest.0 [
      | inl unused ↦ (
          let same = free-with_unused shape owners p long unused.unused in
          fills_unused shape.extent_pages (unused_index_pages shape owners) (unused_index_pages shape now) (length claimed) (free_extents now) (free_extents owners) rest
          (omega (arith, all, ap (λ x. shape.extent_pages * x) same)) same later)
      | inr first ↦
          fills_free shape.extent_pages (unused_index_pages shape owners) (unused_index_pages shape now) (length claimed) (free_extents now) (free_extents owners) rest some
          (unused-none shape owners long first.none_unused) (free-with_first shape owners p long first) all later
    ]

-- and no more index pages are used
pub used_index_pages-with_pages : (shape : Shape) (owners : List Kind) (claimed : List ℕ) → length owners ≡ shape.extents → 0 < shape.extent_pages → AreClaims shape owners claimed
    → used_index_pages shape (with_pages shape owners claimed) ≤ used_index_pages shape owners + length claimed
used_index_pages-with_pages shape owners [] long some claims = omega arith
used_index_pages-with_pages shape owners (p ∷ claimed) long some claims =
    omega (arith, used-with_page_le shape owners p, used_index_pages-with_pages shape (with_used_page shape owners p) claimed (length-with_page shape owners p long) some claims.1)

-- where nothing is left to claim then, more pages than these would fill more extents than were free
pub extents_for-full : (shape : Shape) (owners : List Kind) (claimed : List ℕ) (wanted : ℕ) → length owners ≡ shape.extents → 0 < shape.extent_pages → AreClaims shape owners claimed
    → HasNoFree (with_pages shape owners claimed) → HasNoUnused shape (with_pages shape owners claimed) → length claimed < wanted → free_extents owners < extents_for shape owners wanted
extents_for-full shape owners claimed wanted long some claims none_free none_unused more =
    let now = with_pages shape owners claimed in
    let no_free = ap (λ x. shape.extent_pages * x) (free_extents-none now none_free) in
    let none_left = unused-none shape now (length-with_pages shape owners claimed ∙ long) none_unused in
    fills_more shape.extent_pages (unused_index_pages shape owners) (free_extents owners) (length claimed) wanted some
    (omega (arith, room-with_pages shape owners claimed long claims, no_free, none_left)) more

-- ---- pages that are given back

-- a free extent stays free
without_place-free : (j : ℕ) (kind : Kind) → one_if (is_free_kind kind) ≤ one_if (is_free_kind (without_place j kind))
without_place-free j Free = omega arith
without_place-free j (Block table) = omega arith
without_place-free j (Index used) = omega arith

-- no extent less is free
pub free_extents-without_pages : (shape : Shape) (owners : List Kind) (gone : List ℕ) → free_extents owners ≤ free_extents (without_pages shape owners gone)
free_extents-without_pages shape owners [] = omega arith
free_extents-without_pages shape owners (p ∷ gone) =
    let kind = owner_of owners (extent_of shape p) in
    let j = place_in_extent shape p in
    omega (
      arith,
      free_extents-without_pages shape (without_page shape owners p) gone,
      sum_by-set_ge (λ k. one_if (is_free_kind k)) owners (extent_of shape p) (without_place j kind) Free (without_place-free j kind),
    )

-- and no more index pages are used
pub used_index_pages-without_pages : (shape : Shape) (owners : List Kind) (gone : List ℕ) → used_index_pages shape (without_pages shape owners gone) ≤ used_index_pages shape owners
used_index_pages-without_pages shape owners [] = omega arith
used_index_pages-without_pages shape owners (p ∷ gone) =
    let n = shape.extent_pages in
    let kind = owner_of owners (extent_of shape p) in
    let j = place_in_extent shape p in
    let fewer : used_in n (without_place j kind) ≤ used_in n kind + 0 = omega (arith, used_in-without_place n j kind (extent_limits shape).1 (place_below shape p)) in
    omega (arith, used_index_pages-without_pages shape (without_page shape owners p) gone, sum_by-set_le (used_in n) owners (extent_of shape p) (without_place j kind) Free 0 fewer)

-- ---- an extent that becomes a block

-- one extent less is free
pub free_extents-with_block : (owners : List Kind) (e table : ℕ) → e < length owners → owner_of owners e ≡ Free → free_extents owners ≡ suc (free_extents (with_block owners e table))
free_extents-with_block owners e table within free =
    omega (arith, sum_by-set (λ k. one_if (is_free_kind k)) owners e (Block table) Free within, ap (λ k. one_if (is_free_kind k)) free)

-- and no more index pages are used
pub used_index_pages-with_block : (shape : Shape) (owners : List Kind) (e table : ℕ) → owner_of owners e ≡ Free → used_index_pages shape (with_block owners e table) ≤ used_index_pages shape owners
used_index_pages-with_block shape owners e table free =
    let n = shape.extent_pages in
    let none : used_in n (Block table) ≤ used_in n (owner_of owners e) + 0 = omega (arith, count_none (λ j. is_used_place j (Block table)) n (λ i less. refl)) in
    omega (arith, sum_by-set_le (used_in n) owners e (Block table) Free 0 none)

-- ---- a block that becomes a free extent

-- no extent less is free
pub free_extents-without_block : (owners : List Kind) (e : ℕ) → free_extents owners ≤ free_extents (without_block owners e)
free_extents-without_block owners e = sum_by-set_ge (λ k. one_if (is_free_kind k)) owners e Free Free (one_at_most (owner_of owners e))
  where
    one_at_most : (kind : Kind) → one_if (is_free_kind kind) ≤ one_if (is_free_kind Free)
    one_at_most Free = omega arith
    one_at_most (Block table) = omega arith
    one_at_most (Index used) = omega arith

-- and no more index pages are used
pub used_index_pages-without_block : (shape : Shape) (owners : List Kind) (e : ℕ) → used_index_pages shape (without_block owners e) ≤ used_index_pages shape owners
used_index_pages-without_block shape owners e =
    let n = shape.extent_pages in
    let none : used_in n Free ≤ used_in n (owner_of owners e) + 0 = omega (arith, count_none (λ j. is_used_place j Free) n (λ i less. refl)) in
    omega (arith, sum_by-set_le (used_in n) owners e Free Free 0 none)
