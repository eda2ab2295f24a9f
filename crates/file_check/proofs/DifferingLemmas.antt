-- Which values differ, in whatever order they stand.
use Rattle.std.proofs.Common.{◌≡◌, ◌≢◌, ◌<◌, ◌≤◌, ◌+◌, ◌-◌, ◌↔◌, ◌∙◌, ℕ, List, [], ◌∷◌, length, get_or, refl, ap, sym, subst, arith, inl, inr, Bool, true, false}
use Rattle.std.specs.Prelude.{map, AllPairs, IsPermutation, IsTrue, nat_eq}
use Rattle.std.specs.Cmp.{IsTotalOrder, unsigned_ties}
use Rattle.std.specs.Cmp.Lexicographic.{on_texts, same_text, slice_cmp, texts_ties}
use Rattle.std.specs.List.{AllAdjacentBelow, swap}
use Rattle.std.specs.List.Sorted.{IsSorted}
use Rattle.std.specs.Ordering.{eq_by_cmp, is_eq, is_lt, nat_cmp, ordering_reverse}
use Rattle.std.specs.declared.cmp.Ordering.{Ordering}
use Rattle.std.specs.declared.cmp.Ordering.TheVariants.{Less, Equal, Greater}
use Rattle.std.proofs.lemmas.Bool.{cases_eq, cases_order, eq-eqb, eqb-true}
use Rattle.std.proofs.lemmas.Cmp.{nat_cmp_total, nat_list_eq_equiv}
use Rattle.std.proofs.lemmas.List.{get_or-map, get_or_default, length-map, map-id}
use Rattle.std.proofs.lemmas.List.Edits.{Swapped, swapped_from_swap}
use lib.Pointwise.{pointwise}
use Rattle.std.proofs.lemmas.List.Sorted.{IsPermutation-keeps, IsPermutation-map, IsPermutation-swap, IsPermutation-sym, length_permutation, ranks_by, sorted_far}

-- two neighbours that are equal
pub equal_neighbours : {X : Type 0} (eq : X → X → Bool) (xs : List X) (i : ℕ) (now before : X) → 1 ≤ i → i < length xs → now ≡ get_or xs i now → before ≡ get_or xs (i - 1) before
    → eq now before ≡ true → (j : ℕ) × (j + 1 < length xs) × ((d : X) → eq (get_or xs (j + 1) d) (get_or xs j d) ≡ true)
equal_neighbours eq xs i now before some low now_is before_is same =
    let next : i - 1 + 1 ≡ i = omega arith in (
      i - 1,
      omega arith,
      λ d.
          let here : get_or xs (i - 1 + 1) d ≡ now = ap (λ k. get_or xs k d) next ∙ (get_or_default xs i d now low ∙ sym now_is) in
          let behind : get_or xs (i - 1) d ≡ before = get_or_default xs (i - 1) d before (omega arith) ∙ sym before_is in
          ap (λ x. eq x (get_or xs (i - 1) d)) here ∙ (ap (eq now) behind ∙ same),
    )

-- ---- another order

-- what differs one way differs the other way
differ_apart : {X : Type 0} (xs : List X) (i j : ℕ) (d : X) → AllPairs (λ a b. a ≢ b) xs → i < length xs → j < length xs → i ≢ j → get_or xs i d ≢ get_or xs j d
differ_apart xs i j d differ low high other e = elim (cases_order i j) [
  | inl same ↦ other same
  | inr (inl before) ↦ differ i j d before high e
  | inr (inr behind) ↦ differ j i d behind low (sym e)
]

-- where an element stood before two were exchanged
was_at : {X : Type 0} (f h : ℕ → X) (n a b : ℕ) → Swapped f h a b → a < n → b < n → (i : ℕ) → i < n
    → (k : ℕ) × (k < n) × (h i ≡ f k) × ((i ≡ a) → k ≡ b) × ((i ≡ b) → k ≡ a) × ((i ≢ a) → (i ≢ b) → k ≡ i)
was_at f h n a b swapped la lb i low = elim (cases_eq i a) [
  | inl e ↦ (b, lb, ap h e ∙ swapped.0, λ _. refl, λ f. sym f ∙ e, λ ne _. absurd (ne e))
  | inr ne ↦ elim (cases_eq i b) [
    | inl e ↦ (a, la, ap h e ∙ swapped.1, λ f. absurd (ne f), λ _. refl, λ _ nf. absurd (nf e))
    | inr nf ↦ (i, low, swapped.2 i ne nf, λ e. absurd (ne e), λ e. absurd (nf e), λ _ _. refl)
  ]
]

other_places : (i j a b k m : ℕ) → i < j → ((i ≡ a) → k ≡ b) → ((i ≡ b) → k ≡ a) → ((i ≢ a) → (i ≢ b) → k ≡ i) → ((j ≡ a) → m ≡ b) → ((j ≡ b) → m ≡ a) → ((j ≢ a) → (j ≢ b) → m ≡ j) → k ≢ m
other_places i j a b k m below ia ib other ja jb others e = elim (cases_eq i a) [
  | inl x ↦ elim (cases_eq j b) [
    | inl y ↦ omega (arith, ia x, jb y)
    | inr ny ↦ omega (arith, ia x, others (λ z. omega arith) ny)
  ]
  | inr nx ↦ elim (cases_eq i b) [
    | inl y ↦ elim (cases_eq j a) [
      | inl z ↦ omega (arith, ib y, ja z)
      | inr nz ↦ omega (arith, ib y, others nz (λ w. omega arith))
    ]
    | inr ny ↦ elim (cases_eq j a) [
      | inl z ↦ ny (omega (arith, other nx ny, ja z))
      | inr nz ↦ elim (cases_eq j b) [
        | inl w ↦ nx (omega (arith, other nx ny, jb w))
        | inr nw ↦ omega (arith, other nx ny, others nz nw)
      ]
    ]
  ]
]

differ_swapped : {X : Type 0} (xs : List X) (a b : ℕ) → a < length xs → b < length xs → AllPairs (λ x y. x ≢ y) xs → AllPairs (λ x y. x ≢ y) (swap xs a b)
differ_swapped xs a b la lb differ i j d below high same =
    let long : length (swap xs a b) ≡ length xs = length_permutation xs (swap xs a b) (IsPermutation-swap xs (swap xs a b) a b la lb refl) in
    let swapped = swapped_from_swap xs (swap xs a b) a b d la lb refl in
    let first = was_at (λ i. get_or xs i d) (λ i. get_or (swap xs a b) i d) (length xs) a b swapped la lb i (omega arith) in
    let second = was_at (λ i. get_or xs i d) (λ i. get_or (swap xs a b) i d) (length xs) a b swapped la lb j (omega arith) in
    differ_apart xs first.0 second.0 d differ first.1 second.1
    (other_places i j a b first.0 second.0 below first.3 first.4 first.5 second.3 second.4 second.5)
    (sym first.2 ∙ (same ∙ second.2))

-- values that differ do so in any order
pub differ_moved : {X : Type 0} (xs ys : List X) → IsPermutation xs ys → AllPairs (λ x y. x ≢ y) xs → AllPairs (λ x y. x ≢ y) ys
differ_moved xs ys moved differ = IsPermutation-keeps xs (AllPairs (λ x y. x ≢ y)) differ (λ l i j li lj d. differ_swapped l i j li lj d) ys moved

-- ---- values that are sorted

tie_of : (o p : Ordering) → o ≡ ordering_reverse p → is_lt o ≡ false → is_lt p ≡ false → is_eq o ≡ true
tie_of Less p e f h = cc
tie_of Equal p e f h = refl
tie_of Greater Less e f h = cc
tie_of Greater Equal e f h = cc
tie_of Greater Greater e f h = cc

is_tie : (o : Ordering) → is_eq o ≡ true → o ≡ Equal
is_tie Less e = cc
is_tie Equal e = refl
is_tie Greater e = cc

module _ {X : Type 0} (R : X → X → Ordering) (E : X → X → Bool) (total : IsTotalOrder R) (ties : (x y : X) → E x y ≡ eq_by_cmp R x y) where
  -- in a sorted list, where no neighbours are equal, none are
  none_equal : (xs : List X) → IsSorted R xs → AllAdjacentBelow (λ a b. E b a ≡ false) xs (length xs) → (i j : ℕ) (d : X) → i < j → j < length xs → E (get_or xs i d) (get_or xs j d) ≡ true → ⊥
  none_equal xs sorted apart i j d below high equal =
      let order = ranks_by total (λ (x : X). x) in
      let x = get_or xs i d in
      let y = get_or xs (i + 1) d in
      let z = get_or xs j d in
      let tie : R x z ≡ Equal = is_tie (R x z) (sym (ties x z) ∙ equal) in
      let up : is_lt (R y x) ≡ false = sorted_far (λ a b. is_lt (R a b)) order xs sorted i (i + 1) d (omega arith) (omega arith) in
      let down : is_lt (R z y) ≡ false = sorted_far (λ a b. is_lt (R a b)) order xs sorted (i + 1) j d (omega arith) high in
      let back : is_lt (R x y) ≡ false = ap is_lt (total.congr x z y tie) ∙ down in
      let both : E y x ≡ true = ties y x ∙ tie_of (R y x) (R x y) (total.antisymm y x) up back in
      let here : E y x ≡ false = apart i d (omega arith) in
      cc

  module _ {Y : Type 0} (f : X → Y) (told : (x y : X) → E x y ≡ true → f x ≡ f y) (tells : (x y : X) → f x ≡ f y → E x y ≡ true) where
    differ_sorted : (xs : List X) → IsSorted R xs → AllAdjacentBelow (λ a b. E b a ≡ false) xs (length xs) → AllPairs (λ a b. a ≢ b) (map f xs)
    differ_sorted [] sorted apart i j d below high same = omega (arith, high)
    differ_sorted (x ∷ xs) sorted apart i j d below high same =
        let long : length (map f (x ∷ xs)) ≡ length (x ∷ xs) = length-map (x ∷ xs) f in
        let low : j < length (x ∷ xs) = omega (arith, long, high) in
        none_equal (x ∷ xs) sorted apart i j x below low
        (tells (get_or (x ∷ xs) i x) (get_or (x ∷ xs) j x) (sym (get_or-map f (x ∷ xs) i x d (omega (arith, low, below))) ∙ (same ∙ get_or-map f (x ∷ xs) j x d low)))

    two_equal : (xs : List X) (i : ℕ) → i + 1 < length xs → ((d : X) → E (get_or xs (i + 1) d) (get_or xs i d) ≡ true) → AllPairs (λ a b. a ≢ b) (map f xs) → ⊥
    two_equal [] i low equal differ = omega (arith, low)
    two_equal (x ∷ xs) i low equal differ =
        let long : length (map f (x ∷ xs)) ≡ length (x ∷ xs) = length-map (x ∷ xs) f in
        differ i (i + 1) (f x) (omega arith) (omega (arith, long, low))
        (get_or-map f (x ∷ xs) i x (f x) (omega (arith, low)) ∙ (sym (told (get_or (x ∷ xs) (i + 1) x) (get_or (x ∷ xs) i x) (equal x)) ∙ sym (get_or-map f (x ∷ xs) (i + 1) x (f x) low)))

    -- whether neighbours differ in the sorted list is whether all differ
    pub differ_if_neighbours : (xs ys : List X) (differs : Bool) → IsPermutation xs ys → IsSorted R ys → (differs ≡ true → AllAdjacentBelow (λ a b. E b a ≡ false) ys (length ys))
        → (differs ≡ false → (i : ℕ) × (i + 1 < length ys) × ((d : X) → E (get_or ys (i + 1) d) (get_or ys i d) ≡ true)) → IsTrue differs ↔ AllPairs (λ a b. a ≢ b) (map f xs)
    differ_if_neighbours xs ys true moved sorted apart equal =
        (λ _. differ_moved (map f ys) (map f xs) (IsPermutation-sym (map f xs) (map f ys) (IsPermutation-map f xs ys moved)) (differ_sorted ys sorted (apart refl)), λ _. refl)
    differ_if_neighbours xs ys false moved sorted apart equal =
        let at = equal refl in
        (λ h. cc, λ differ. absurd (two_equal ys at.0 at.1 at.2 (differ_moved (map f xs) (map f ys) (IsPermutation-map f xs ys moved) differ)))

-- ---- numbers and keys

pub numbers_differ : (xs ys : List ℕ) (differs : Bool) → IsPermutation xs ys → IsSorted nat_cmp ys → (differs ≡ true → AllAdjacentBelow (λ a b. nat_eq b a ≡ false) ys (length ys))
    → (differs ≡ false → (i : ℕ) × (i + 1 < length ys) × ((d : ℕ) → nat_eq (get_or ys (i + 1) d) (get_or ys i d) ≡ true)) → IsTrue differs ↔ AllPairs (λ a b. a ≢ b) xs
numbers_differ xs ys differs moved sorted apart equal =
    subst (λ (ns : List ℕ). IsTrue differs ↔ AllPairs (λ a b. a ≢ b) ns) (map-id xs)
    (differ_if_neighbours nat_cmp nat_eq nat_cmp_total unsigned_ties (λ n. n) (λ x y. eqb-true x y) (λ x y. eq-eqb x y) xs ys differs moved sorted apart equal)

pub texts_differ : {X : Type 0} (bytes : X → List ℕ) (xs ys : List X) (differs : Bool) → IsPermutation xs ys → IsSorted (λ x y. slice_cmp nat_cmp (bytes x) (bytes y)) ys
    → (differs ≡ true → AllAdjacentBelow (λ a b. pointwise nat_eq (bytes b) (bytes a) ≡ false) ys (length ys))
    → (differs ≡ false → (i : ℕ) × (i + 1 < length ys) × ((d : X) → pointwise nat_eq (bytes (get_or ys (i + 1) d)) (bytes (get_or ys i d)) ≡ true)) → IsTrue differs ↔ AllPairs (λ a b. a ≢ b) (map bytes xs)
texts_differ bytes xs ys differs moved sorted apart equal =
    differ_if_neighbours (λ x y. slice_cmp nat_cmp (bytes x) (bytes y)) (λ x y. pointwise nat_eq (bytes x) (bytes y)) (on_texts bytes) (λ x y. texts_ties (bytes x) (bytes y)) bytes
    (λ x y e. same_text (bytes x) (bytes y) (sym e)) (λ x y e. subst (λ (ns : List ℕ). pointwise nat_eq (bytes x) ns ≡ true) e (nat_list_eq_equiv.refl (bytes x))) xs ys differs moved sorted apart equal
