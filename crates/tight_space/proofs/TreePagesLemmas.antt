-- Where each used index page is in one of some trees, no more are used than these trees have pages.
use Rattle.std.proofs.Common.{◌≡◌, ◌<◌, ◌≤◌, ◌+◌, ◌*◌, ℕ, zero, suc, Bool, true, false, List, [], ◌∷◌, length, refl, ap, arith, ◌∙◌, inl, inr}
use Rattle.std.specs.Prelude.{sum_by}
use Rattle.std.specs.List.{range_with_len}
use Rattle.std.proofs.lemmas.Bool.{cases_eq, cases_lt}
use Rattle.std.proofs.lemmas.List.{get_or_past}
use Rattle.std.proofs.lemmas.List.Sums.{sum_by-cons}
use Rattle.store_api.specs.Extents.{first_count, first_page_of}
use Rattle.store_api.specs.declared.shape.Shape.{Shape}
use Rattle.extent_map.specs.Kinds.{is_used_place}
use Rattle.extent_map.specs.Owners.{IsUsedPage, extent_of, owner_of}
use Rattle.extent_map.specs.declared.kind.Kind.{Kind}
use Rattle.extent_map.specs.declared.kind.Kind.TheVariants.{Free}
use Rattle.extent_map.proofs.ExtentsLemmas.{extent_of-page, is_extent_page, place_of-page}
use Rattle.entry_tree.specs.Forest.{Forest, once, times}
use Rattle.entry_tree.specs.Forest.Forest.{Nil, Leaf, Fork}
use Rattle.entry_tree.proofs.ForestLemmas.{once_least, once_other}
use Rattle.table_trees.specs.SpaceChanges.{used_index_pages}
use Rattle.table_trees.proofs.PlaceCountsLemmas.{one_if, used_in}
use Rattle.tight_space.proofs.TreeSizesLemmas.{size}

-- ---- sums

pub sum_by-plus : {X : Type 0} (f g : X → ℕ) (xs : List X) → sum_by (λ x. f x + g x) xs ≡ sum_by f xs + sum_by g xs
sum_by-plus f g [] = refl
sum_by-plus f g (x ∷ xs) = omega (arith, sum_by-plus f g xs, sum_by-cons f x xs, sum_by-cons g x xs, sum_by-cons (λ y. f y + g y) x xs)

sum_by-zero : {X : Type 0} (xs : List X) → sum_by (λ x. 0) xs ≡ 0
sum_by-zero [] = refl
sum_by-zero {X = X} (x ∷ xs) = omega (arith, sum_by-zero xs, sum_by-cons {X = X} (λ y. 0) x xs)

range_split : (f : ℕ → ℕ) (a n m : ℕ) → sum_by f (range_with_len a (n + m)) ≡ sum_by f (range_with_len a n) + sum_by f (range_with_len (a + n) m)
range_split f a zero m =
    let same : a + 0 ≡ a = omega arith in
    let count : 0 + m ≡ m = omega arith in
    omega (arith, ap (λ (b : ℕ). sum_by f (range_with_len b m)) same, ap (λ (k : ℕ). sum_by f (range_with_len a k)) count)
range_split f a (suc n) m =
    let same : (a + 1) + n ≡ a + suc n = omega arith in
    let count : suc n + m ≡ suc (n + m) = omega arith in
    omega (
      arith,
      ap (λ (k : ℕ). sum_by f (range_with_len a k)) count,
      sum_by-cons f a (range_with_len (a + 1) (n + m)),
      sum_by-cons f a (range_with_len (a + 1) n),
      range_split f (a + 1) n m,
      ap (λ (b : ℕ). sum_by f (range_with_len b m)) same,
    )

range_moved : (f g : ℕ → ℕ) (a b n : ℕ) → ((j : ℕ) → j < n → g (a + j) ≤ f (b + j)) → sum_by g (range_with_len a n) ≤ sum_by f (range_with_len b n)
range_moved f g a b zero le = omega arith
range_moved f g a b (suc n) le =
    let first : g a ≤ f b = (let here : a + 0 ≡ a = omega arith in let there : b + 0 ≡ b = omega arith in omega (arith, le 0 (omega arith), ap g here, ap f there)) in
    omega (
      arith,
      first,
      sum_by-cons g a (range_with_len (a + 1) n),
      sum_by-cons f b (range_with_len (b + 1) n),
      range_moved f g (a + 1) (b + 1) n
          (λ j less. (let here : (a + 1) + j ≡ a + suc j = omega arith in let there : (b + 1) + j ≡ b + suc j = omega arith in omega (arith, le (suc j) (omega (arith, less)), ap g here, ap f there))),
    )

-- ---- the pages of trees among a range of pages

once_past : (page a n : ℕ) → page < a → sum_by (λ p. once p page) (range_with_len a n) ≡ 0
once_past page a zero less = refl
once_past page a (suc n) less =
    omega (arith, sum_by-cons (λ p. once p page) a (range_with_len (a + 1) n), once_other a page (λ e. omega (arith, e, less)), once_past page (a + 1) n (omega (arith, less)))

once_in : (page a n : ℕ) → sum_by (λ p. once p page) (range_with_len a n) ≤ 1
once_in page a zero = omega arith
once_in page a (suc n) = elim (cases_eq a page) [
  | inl is ↦ omega (arith, sum_by-cons (λ p. once p page) a (range_with_len (a + 1) n), once_least a page, once_past page (a + 1) n (omega (arith, is)))
  | inr other ↦ omega (arith, sum_by-cons (λ p. once p page) a (range_with_len (a + 1) n), once_other a page other, once_in page (a + 1) n)
]

times_in_range : (t : Forest) (a n : ℕ) → sum_by (λ p. times p t) (range_with_len a n) ≤ size t
times_in_range Nil a n = omega (arith, sum_by-zero (range_with_len a n))
times_in_range (Leaf page items next) a n =
    omega (arith, sum_by-plus (λ p. once p page) (λ p. times p next) (range_with_len a n), once_in page a n, times_in_range next a n)
times_in_range (Fork page seps kids next) a n =
    omega (
      arith,
      sum_by-plus (λ p. once p page) (λ p. times p kids + times p next) (range_with_len a n),
      sum_by-plus (λ p. times p kids) (λ p. times p next) (range_with_len a n),
      once_in page a n,
      times_in_range kids a n,
      times_in_range next a n,
    )

module _ {X : Type 0} (tree : X → Forest) where
  pub all_in_range : (xs : List X) (a n : ℕ) → sum_by (λ p. sum_by (λ x. times p (tree x)) xs) (range_with_len a n) ≤ sum_by (λ x. size (tree x)) xs
  all_in_range [] a n = omega (arith, sum_by-zero (range_with_len a n))
  all_in_range (x ∷ xs) a n =
      let parts : sum_by (λ p. sum_by (λ y. times p (tree y)) (x ∷ xs)) (range_with_len a n) ≤ sum_by (λ p. times p (tree x) + sum_by (λ y. times p (tree y)) xs) (range_with_len a n) =
      range_moved (λ p. times p (tree x) + sum_by (λ y. times p (tree y)) xs) (λ p. sum_by (λ y. times p (tree y)) (x ∷ xs)) a a n
      (λ j less. omega (arith, sum_by-cons (λ y. times (a + j) (tree y)) x xs)) in
      omega (
        arith,
        parts,
        sum_by-plus (λ p. times p (tree x)) (λ p. sum_by (λ y. times p (tree y)) xs) (range_with_len a n),
        times_in_range (tree x) a n,
        all_in_range xs a n,
        sum_by-cons (λ y. size (tree y)) x xs,
      )

-- ---- used pages

-- used pages of extents from one on, each counted by f
used_counted : (n at : ℕ) (f : ℕ → ℕ) (owners : List Kind) → ((i j : ℕ) → j < n → one_if (is_used_place j (owner_of owners i)) ≤ f (at + i * n + j))
    → sum_by (used_in n) owners ≤ sum_by f (range_with_len at (length owners * n))
used_counted n at f [] le = omega arith
used_counted n at f (kind ∷ owners) le =
    let count : suc (length owners) * n ≡ n + length owners * n = omega arith in
    let first : used_in n kind ≤ sum_by f (range_with_len at n) =
    range_moved f (λ j. one_if (is_used_place j kind)) 0 at n
    (λ j less. (let here : at + 0 * n + j ≡ at + j = omega arith in let same : 0 + j ≡ j = omega arith in omega (arith, le 0 j less, ap f here, ap (λ (k : ℕ). one_if (is_used_place k kind)) same))) in
    omega (
      arith,
      sum_by-cons (used_in n) kind owners,
      first,
      used_counted n (at + n) f owners (λ i j less. (let here : at + suc i * n + j ≡ (at + n) + i * n + j = omega arith in omega (arith, le (suc i) j less, ap f here))),
      ap (λ (k : ℕ). sum_by f (range_with_len at k)) count,
      range_split f at n (length owners * n),
    )

pub used_most : {X : Type 0} (tree : X → Forest) (xs : List X) (shape : Shape) (owners : List Kind) → length owners ≡ shape.extents
    → ((p : ℕ) → IsUsedPage shape owners p → sum_by (λ x. times p (tree x)) xs ≡ 1) → used_index_pages shape owners ≤ sum_by (λ x. size (tree x)) xs
used_most tree xs shape owners long used =
    omega (
      arith,
      used_counted shape.extent_pages (first_count shape.extents) (λ p. sum_by (λ x. times p (tree x)) xs) owners each,
      all_in_range tree xs (first_count shape.extents) (length owners * shape.extent_pages),
    )
  where
    each : (i j : ℕ) → j < shape.extent_pages → one_if (is_used_place j (owner_of owners i)) ≤ sum_by (λ x. times (first_page_of shape.extents shape.extent_pages i + j) (tree x)) xs
    each i j less = go (is_used_place j (owner_of owners i)) refl
      where
        go : (b : Bool) → is_used_place j (owner_of owners i) ≡ b → one_if (is_used_place j (owner_of owners i)) ≤ sum_by (λ x. times (first_page_of shape.extents shape.extent_pages i + j) (tree x)) xs
        go false e = omega (arith, ap one_if e)
        go true e = elim (cases_lt i (length owners)) [
          | inl within ↦ (
              let p = first_page_of shape.extents shape.extent_pages i + j in
              let is : IsUsedPage shape owners p = record {
                page = is_extent_page shape i j (omega (arith, within, long)) less;
                used = ap (λ k. is_used_place k (owner_of owners (extent_of shape p))) (place_of-page shape i j less) ∙ (ap (λ x. is_used_place j (owner_of owners x)) (extent_of-page shape i j less) ∙ e);
              } in
              omega (arith, ap one_if e, used p is))
          | inr past ↦ (let none = ap (is_used_place j) (get_or_past owners i Free past) in absurd (cc (e, none)))
        ]
