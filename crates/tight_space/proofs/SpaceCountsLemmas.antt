-- How many extents are blocks, free, or of trees, and how many of their pages are used: what a change makes of these numbers.
use Rattle.std.proofs.Common.{◌≡◌, ◌<◌, ◌≤◌, ◌+◌, ◌-◌, ◌*◌, ◌/◌, ◌==◌, ℕ, zero, suc, Bool, false, IsTrue, List, [], ◌∷◌, length, get_or, length-set, refl, ap, arith, sym, ◌∙◌, inl, inr}
use Rattle.std.specs.Prelude.{count_by, sum_by}
use Rattle.std.specs.Int.{bit_at, div_ceil}
use Rattle.std.specs.List.{range_with_len}
use Rattle.std.proofs.Math.Nat.{div-eq_of_lt, div-mul-le_self}
use Rattle.std.proofs.lemmas.Bool.{cases_lt, false_from_ne_true}
use Rattle.std.proofs.lemmas.Grind.{div_ceil_times}
use Rattle.std.proofs.lemmas.List.FromFn.{length-range_with_len}
use Rattle.std.proofs.lemmas.List.Sums.{sum_by-cons, sum_by-set}
use Rattle.std.proofs.lemmas.Nat.{mul-le}
use Rattle.std.proofs.lemmas.Nat.Bits.{bit_at-lt}
use Rattle.store_api.specs.Extents.{first_page_of}
use Rattle.store_api.specs.declared.shape.Shape.{Shape}
use Rattle.extent_map.specs.Kinds.{is_block_kind, is_free_kind, is_unused_place, is_used_place, with_used_place}
use Rattle.extent_map.specs.Owners.{HasNoUnused, IsLowestClaimable, IsUnusedPage, extent_of, owner_of, place_in_extent, with_block, with_used_page}
use Rattle.extent_map.specs.declared.kind.Kind.{Kind}
use Rattle.extent_map.specs.declared.kind.Kind.TheVariants.{Free, Block, Index}
use Rattle.extent_map.proofs.BitsLemmas.{unused_place-not_used}
use Rattle.extent_map.proofs.ExtentsLemmas.{extent_below, extent_of-page, is_extent_page, place_below, place_of-page}
use Rattle.extent_map.proofs.UsedPagesLemmas.{claimable-no_block}
use Rattle.entry_tree.specs.Standing.{AreLowestClaims, with_pages}
use Rattle.table_trees.specs.SpaceChanges.{KeepsBlocks, extents_for, free_extents, unused_index_pages, used_index_pages}
use Rattle.table_trees.proofs.ExtentCountsLemmas.{lowest-claimable}
use Rattle.table_trees.proofs.PlaceCountsLemmas.{count_none, one_if, room_in-with_place, sum_by-none, unused_in, used_in}

-- ---- sums

-- a larger factor
pub mul_mono : (n a b : ℕ) → a ≤ b → n * a ≤ n * b
mul_mono n a b le = mul-le n a n b (omega arith) le

-- what each item gives is the same, place by place
pub sum_by-same : {X : Type 0} (f : X → ℕ) (xs ys : List X) (d : X) → length xs ≡ length ys → ((i : ℕ) → f (get_or xs i d) ≡ f (get_or ys i d)) → sum_by f xs ≡ sum_by f ys
sum_by-same f [] [] d long same = refl
sum_by-same f [] (y ∷ ys) d long same = absurd (omega (arith, long))
sum_by-same f (x ∷ xs) [] d long same = absurd (omega (arith, long))
sum_by-same f (x ∷ xs) (y ∷ ys) d long same =
    omega (arith, same 0, sum_by-same f xs ys d (omega (arith, long)) (λ i. same (suc i)), sum_by-cons f x xs, sum_by-cons f y ys)

-- ---- what extents are

-- how many extents are blocks
abbrev pub block_extents : List Kind → ℕ
block_extents owners = count_by is_block_kind owners

-- each place passes one of two tests
count_both : (p q : ℕ → Bool) (js : List ℕ) → ((i : ℕ) → one_if (p i) + one_if (q i) ≡ 1) → count_by p js + count_by q js ≡ length js
count_both p q [] each = refl
count_both p q (j ∷ js) each = omega (arith, each j, count_both p q js each, sum_by-cons (λ i. one_if (p i)) j js, sum_by-cons (λ i. one_if (q i)) j js)

bit_either : (b : ℕ) → b < 2 → one_if (b == 0) + one_if (b == 1) ≡ 1
bit_either zero less = refl
bit_either (suc zero) less = refl
bit_either (suc (suc b)) less = absurd (omega (arith, less))

-- an extent is free, a block, or of pages that are used or not
parts_of_kind : (n : ℕ) (kind : Kind) → used_in n kind + unused_in n kind + n * one_if (is_free_kind kind) + n * one_if (is_block_kind kind) ≡ n
parts_of_kind n Free = omega (arith, count_none (λ j. is_used_place j Free) n (λ i less. refl), count_none (λ j. is_unused_place j Free) n (λ i less. refl))
parts_of_kind n (Block t) = omega (arith, count_none (λ j. is_used_place j (Block t)) n (λ i less. refl), count_none (λ j. is_unused_place j (Block t)) n (λ i less. refl))
parts_of_kind n (Index used) =
    omega (arith, count_both (λ j. is_unused_place j (Index used)) (λ j. is_used_place j (Index used)) (range_with_len 0 n) (λ i. bit_either (bit_at used i) (bit_at-lt used i)), length-range_with_len 0 n)

-- and so are all
parts_of_all : (n : ℕ) (owners : List Kind) → sum_by (used_in n) owners + sum_by (unused_in n) owners + n * free_extents owners + n * block_extents owners ≡ n * length owners
parts_of_all n [] = omega arith
parts_of_all n (kind ∷ owners) =
    let free : n * free_extents (kind ∷ owners) ≡ n * one_if (is_free_kind kind) + n * free_extents owners = ap (λ k. n * k) (sum_by-cons (λ k. one_if (is_free_kind k)) kind owners) ∙ omega arith in
    let blocks : n * block_extents (kind ∷ owners) ≡ n * one_if (is_block_kind kind) + n * block_extents owners = ap (λ k. n * k) (sum_by-cons (λ k. one_if (is_block_kind k)) kind owners) ∙ omega arith in
    let count : n * suc (length owners) ≡ n + n * length owners = omega arith in
    omega (arith, free, blocks, count, parts_of_kind n kind, parts_of_all n owners, sum_by-cons (used_in n) kind owners, sum_by-cons (unused_in n) kind owners)

pub parts_of_extents : (shape : Shape) (owners : List Kind) → length owners ≡ shape.extents
    → used_index_pages shape owners + unused_index_pages shape owners + shape.extent_pages * free_extents owners + shape.extent_pages * block_extents owners ≡ shape.extent_pages * shape.extents
parts_of_extents shape owners long = parts_of_all shape.extent_pages owners ∙ ap (λ n. shape.extent_pages * n) long

-- ---- fewer pages of trees are unused than an extent has

-- where each page of an index extent is used no unused one is
unused-none : (shape : Shape) (owners : List Kind) → length owners ≡ shape.extents → HasNoUnused shape owners → unused_index_pages shape owners ≡ 0
unused-none shape owners long none =
    sum_by-none (unused_in shape.extent_pages) owners Free
    (λ e within. count_none (λ j. is_unused_place j (owner_of owners e)) shape.extent_pages
    (λ j less. false_from_ne_true (is_unused_place j (owner_of owners e)) (λ unused. none (first_page_of shape.extents shape.extent_pages e + j) (page_at e j (omega (arith, within, long)) less unused))))
  where
    page_at : (e j : ℕ) → e < shape.extents → j < shape.extent_pages → IsTrue (is_unused_place j (owner_of owners e)) → IsUnusedPage shape owners (first_page_of shape.extents shape.extent_pages e + j)
    page_at e j below less unused = record {
      page = is_extent_page shape e j below less;
      unused = ap (λ i. is_unused_place i (owner_of owners (extent_of shape (first_page_of shape.extents shape.extent_pages e + j)))) (place_of-page shape e j less)
          ∙ (ap (λ x. is_unused_place j (owner_of owners x)) (extent_of-page shape e j less) ∙ unused);
    }

-- a claim takes an unused page, or leaves all but one of an extent's
claim_in : (n j : ℕ) (kind : Kind) → j < n → is_block_kind kind ≡ false → is_used_place j kind ≡ false → unused_in n (with_used_place j kind) + 1 ≡ unused_in n kind + n * one_if (is_free_kind kind)
claim_in n j Free less owned unused = omega (arith, room_in-with_place n j Free less owned unused)
claim_in n j (Block t) less owned unused = absurd (cc)
claim_in n j (Index used) less owned unused = omega (arith, room_in-with_place n j (Index used) less owned unused)

not_used : (shape : Shape) (owners : List Kind) (p : ℕ) → IsLowestClaimable shape owners p → is_used_place (place_in_extent shape p) (owner_of owners (extent_of shape p)) ≡ false
not_used shape owners p (inl unused) =
    false_from_ne_true (is_used_place (place_in_extent shape p) (owner_of owners (extent_of shape p))) (unused_place-not_used (place_in_extent shape p) (owner_of owners (extent_of shape p)) unused.unused.unused)
not_used shape owners p (inr first) = ap (is_used_place (place_in_extent shape p)) first.lowest.free

-- an extent with a page that isn't used isn't free
unused-not_free : (j : ℕ) (kind : Kind) → IsTrue (is_unused_place j kind) → is_free_kind kind ≡ false
unused-not_free j Free unused = absurd (cc)
unused-not_free j (Block table) unused = refl
unused-not_free j (Index used) unused = refl

few_unused-with_page : (shape : Shape) (owners : List Kind) (p : ℕ) → length owners ≡ shape.extents → IsLowestClaimable shape owners p → unused_index_pages shape owners < shape.extent_pages
    → unused_index_pages shape (with_used_page shape owners p) < shape.extent_pages
few_unused-with_page shape owners p long lowest few =
    let n = shape.extent_pages in
    let kind = owner_of owners (extent_of shape p) in
    let j = place_in_extent shape p in
    let claimable = lowest-claimable shape owners p lowest in
    let part = claim_in n j kind (place_below shape p) (claimable-no_block shape owners p claimable) (not_used shape owners p lowest) in
    let all = sum_by-set (unused_in n) owners (extent_of shape p) (with_used_place j kind) Free (omega (arith, long, extent_below shape p claimable.page)) in
    elim lowest [
      | inl unused ↦ omega (arith, few, all, part, ap (λ b. n * one_if b) (unused-not_free j kind unused.unused.unused))
      | inr first ↦ omega (arith, few, all, part, unused-none shape owners long first.none_unused, ap (λ k. n * one_if (is_free_kind k)) first.lowest.free)
    ]

pub few_unused-with_pages : (shape : Shape) (owners : List Kind) (claimed : List ℕ) → length owners ≡ shape.extents → AreLowestClaims shape owners claimed → unused_index_pages shape owners < shape.extent_pages
    → unused_index_pages shape (with_pages shape owners claimed) < shape.extent_pages
few_unused-with_pages shape owners [] long lowest few = few
few_unused-with_pages shape owners (p ∷ claimed) long lowest few =
    few_unused-with_pages shape (with_used_page shape owners p) claimed
    (length-set owners (extent_of shape p) (with_used_place (place_in_extent shape p) (owner_of owners (extent_of shape p))) ∙ long) lowest.1
    (few_unused-with_page shape owners p long lowest.0 few)

pub few_unused-claim : (shape : Shape) (owners : List Kind) (p : ℕ) → length owners ≡ shape.extents → IsLowestClaimable shape owners p → unused_index_pages shape owners < shape.extent_pages
    → unused_index_pages shape (with_used_page shape owners p) < shape.extent_pages
few_unused-claim = few_unused-with_page

-- an extent that becomes a block takes no unused page
pub unused-with_block : (shape : Shape) (owners : List Kind) (e t : ℕ) → e < length owners → owner_of owners e ≡ Free → unused_index_pages shape (with_block owners e t) ≡ unused_index_pages shape owners
unused-with_block shape owners e t within free =
    let n = shape.extent_pages in
    omega (
      arith,
      sum_by-set (unused_in n) owners e (Block t) Free within,
      ap (unused_in n) free,
      count_none (λ j. is_unused_place j Free) n (λ i less. refl),
      count_none (λ j. is_unused_place j (Block t)) n (λ i less. refl),
    )

-- ---- blocks

pub blocks-with_block : (owners : List Kind) (e t : ℕ) → e < length owners → owner_of owners e ≡ Free → block_extents (with_block owners e t) ≡ block_extents owners + 1
blocks-with_block owners e t within free = omega (arith, sum_by-set (λ k. one_if (is_block_kind k)) owners e (Block t) Free within, ap (λ k. one_if (is_block_kind k)) free)

-- where each extent is a block of the same table as before there are as many
pub blocks-kept : (old new : List Kind) → length old ≡ length new → KeepsBlocks old new → block_extents new ≡ block_extents old
blocks-kept old new long kept = sum_by-same (λ k. one_if (is_block_kind k)) new old Free (sym long) (λ e. go e (owner_of old e) (owner_of new e) refl refl)
  where
    go : (e : ℕ) (a b : Kind) → owner_of old e ≡ a → owner_of new e ≡ b → one_if (is_block_kind (owner_of new e)) ≡ one_if (is_block_kind (owner_of old e))
    go e (Block t) b is_a is_b = ap (λ k. one_if (is_block_kind k)) ((kept t e).0 is_a ∙ sym is_a)
    go e a (Block t) is_a is_b = ap (λ k. one_if (is_block_kind k)) (is_b ∙ sym ((kept t e).1 is_b))
    go e Free Free is_a is_b = ap (λ k. one_if (is_block_kind k)) (is_b ∙ sym is_a)
    go e Free (Index v) is_a is_b = ap (λ k. one_if (is_block_kind k)) is_b ∙ sym (ap (λ k. one_if (is_block_kind k)) is_a)
    go e (Index u) Free is_a is_b = ap (λ k. one_if (is_block_kind k)) is_b ∙ sym (ap (λ k. one_if (is_block_kind k)) is_a)
    go e (Index u) (Index v) is_a is_b = ap (λ k. one_if (is_block_kind k)) is_b ∙ sym (ap (λ k. one_if (is_block_kind k)) is_a)

-- ---- what is asked for and isn't there

-- a block that no free extent is left for, where the pages of trees fill their extents but for less than one
pub short_of_block : (shape : Shape) (owners : List Kind) (pages : ℕ) → length owners ≡ shape.extents → 0 < shape.extent_pages → unused_index_pages shape owners < shape.extent_pages → used_index_pages shape owners ≤ pages
    → free_extents owners < 1 + extents_for shape owners 0 → shape.extents < block_extents owners + 1 + div_ceil pages shape.extent_pages
short_of_block shape owners pages long some few most short =
    let n = shape.extent_pages in
    let none : extents_for shape owners 0 ≡ 0 = (let number : 0 - unused_index_pages shape owners + n - 1 ≡ n - 1 = omega arith in ap (λ x. x / n) number ∙ div-eq_of_lt {n = n - 1} {m = n} (omega (arith, some))) in
    let gone : free_extents owners ≡ 0 = omega (arith, short, none) in
    let parts = parts_of_extents shape owners long in
    let free : n * free_extents owners ≡ 0 = ap (λ k. n * k) gone ∙ omega arith in
    let ceil = (div_ceil_times pages n some).0 in
    by_contradiction n shape.extents (block_extents owners) (div_ceil pages n) (used_index_pages shape owners) (unused_index_pages shape owners) pages some few most (omega (arith, parts, free)) ceil
  where
    by_contradiction : (n extents blocks ceil used unused pages : ℕ) → 0 < n → unused < n → used ≤ pages → used + unused + n * blocks ≡ n * extents → pages ≤ ceil * n → extents < blocks + 1 + ceil
    by_contradiction n extents blocks ceil used unused pages some few most parts le = elim (cases_lt extents (blocks + 1 + ceil)) [
      | inl less ↦ less
      | inr more ↦ (
          let most_of : n * (blocks + 1 + ceil) ≤ n * extents = mul_mono n (blocks + 1 + ceil) extents more in
          let product : n * (blocks + 1 + ceil) ≡ n * blocks + n + ceil * n = omega arith in
          absurd (omega (arith, most_of, product, parts, le, few, most)))
    ]

-- and pages of trees
pub short_of_pages : (shape : Shape) (owners : List Kind) (pages asked : ℕ) → length owners ≡ shape.extents → 0 < shape.extent_pages → used_index_pages shape owners + asked ≤ pages
    → free_extents owners < extents_for shape owners asked → shape.extents < block_extents owners + div_ceil pages shape.extent_pages
short_of_pages shape owners pages asked long some most short =
    let n = shape.extent_pages in
    let unused = unused_index_pages shape owners in
    let free = free_extents owners in
    let parts = parts_of_extents shape owners long in
    let ceil = (div_ceil_times pages n some).0 in
    let quotient = div-mul-le_self (asked - unused + n - 1) n in
    by_contradiction n shape.extents (block_extents owners) (div_ceil pages n) (used_index_pages shape owners) unused free pages asked (extents_for shape owners asked) some most parts ceil short quotient
  where
    by_contradiction : (n extents blocks ceil used unused free pages asked wanted : ℕ) → 0 < n → used + asked ≤ pages → used + unused + n * free + n * blocks ≡ n * extents → pages ≤ ceil * n
        → free < wanted → wanted * n ≤ asked - unused + n - 1 → extents < blocks + ceil
    by_contradiction n extents blocks ceil used unused free pages asked wanted some most parts le less quotient = elim (cases_lt extents (blocks + ceil)) [
      | inl fewer ↦ fewer
      | inr more ↦ (
          let most_of : n * (blocks + ceil) ≤ n * extents = mul_mono n (blocks + ceil) extents more in
          let product : n * (blocks + ceil) ≡ n * blocks + ceil * n = omega arith in
          let next : n * (free + 1) ≤ n * wanted = mul_mono n (free + 1) wanted (omega (arith, less)) in
          let one_more : n * (free + 1) ≡ n * free + n = omega arith in
          let turned : n * wanted ≡ wanted * n = omega arith in
          absurd (omega (arith, most_of, product, next, one_more, turned, parts, le, quotient, most, some)))
    ]
