-- How often a page stands in the trees of all tables, and in which of them.
use Rattle.std.proofs.Common.{◌≡◌, ◌≢◌, ◌<◌, ◌≤◌, ◌+◌, ◌⊎◌, ℕ, zero, suc, List, [], ◌∷◌, Option, Some, None, refl, ap, arith, subst, inl, inr, length, sum_by}
use Rattle.std.specs.Prelude.{slice_get}
use Rattle.std.specs.List.{AllZip}
use Rattle.std.proofs.lemmas.Bool.{cases_lt}
use Rattle.std.proofs.lemmas.List.Sums.{sum_by-cons}
use Rattle.std.proofs.lemmas.Option.{same_Some}
use Rattle.entry_tree.specs.Forest.{EachNode, Forest, IsPageBelow, times}
use Rattle.entry_tree.specs.Forest.Forest.{Fork, Leaf, Nil}
use Rattle.entry_tree.proofs.ForestLemmas.{once_other}
use Rattle.entry_tree.proofs.HeldTreesLemmas.{HoldsForest-below}
use Rattle.table_trees.specs.TableTrees.{TreePlace}
use Rattle.table_trees.specs.ToldPages.{HasTree, PageList, telling}
use Rattle.mdc_sound.specs.SpaceRules.{tables_there}
use Rattle.mdc_sound.specs.TableViews.{TableView}

-- ---- sums over lists

-- an element that counts, in its place
pub record Counts {X : Type 0} (f : X → ℕ) (xs : List X) : Type 0 where
  pub place : ℕ
  pub x : X
  pub stands : slice_get xs place ≡ Some x
  pub counts : 0 < f x

-- two elements that count, in two places
pub record CountTwo {X : Type 0} (f : X → ℕ) (xs : List X) : Type 0 where
  pub one : Counts f xs
  pub other : Counts f xs
  pub apart : one.place ≢ other.place

module _ {X : Type 0} (f : X → ℕ) where
  pub one_in_sum : (xs : List X) (i : ℕ) (x : X) → slice_get xs i ≡ Some x → f x ≤ sum_by f xs
  one_in_sum [] i x at = absurd (cc)
  one_in_sum (y ∷ xs) zero x at = omega (arith, ap f (same_Some y x at), sum_by-cons f y xs)
  one_in_sum (y ∷ xs) (suc i) x at = omega (arith, one_in_sum xs i x at, sum_by-cons f y xs)

  pub two_in_sum : (xs : List X) (i j : ℕ) (x y : X) → i ≢ j → slice_get xs i ≡ Some x → slice_get xs j ≡ Some y → f x + f y ≤ sum_by f xs
  two_in_sum [] i j x y apart at there = absurd (cc)
  two_in_sum (z ∷ xs) zero zero x y apart at there = absurd (apart refl)
  two_in_sum (z ∷ xs) zero (suc j) x y apart at there = omega (arith, ap f (same_Some z x at), one_in_sum xs j y there, sum_by-cons f z xs)
  two_in_sum (z ∷ xs) (suc i) zero x y apart at there = omega (arith, ap f (same_Some z y there), one_in_sum xs i x at, sum_by-cons f z xs)
  two_in_sum (z ∷ xs) (suc i) (suc j) x y apart at there = omega (arith, two_in_sum xs i j x y (λ e. apart (ap suc e)) at there, sum_by-cons f z xs)

  abbrev counts_behind : (y : X) (xs : List X) → Counts f xs → Counts f (y ∷ xs)
  counts_behind y xs c = record { place = suc c.place; x = c.x; stands = c.stands; counts = c.counts }

  pub one_counts : (xs : List X) → 0 < sum_by f xs → Counts f xs
  one_counts [] l = absurd (omega (arith, l))
  one_counts (y ∷ xs) l = elim (cases_lt 0 (f y)) [
    | inl here ↦ record { place = 0; x = y; stands = refl; counts = here }
    | inr none ↦ counts_behind y xs (one_counts xs (omega (arith, l, none, sum_by-cons f y xs)))
  ]

  pub two_count : (xs : List X) → ((i : ℕ) (x : X) → slice_get xs i ≡ Some x → f x ≤ 1) → 1 < sum_by f xs → CountTwo f xs
  two_count [] few l = absurd (omega (arith, l))
  two_count (y ∷ xs) few l = elim (cases_lt 0 (f y)) [
    | inl here ↦
        let most = few 0 y refl in
        record { one = record { place = 0; x = y; stands = refl; counts = here }; other = counts_behind y xs (one_counts xs (omega (arith, l, most, sum_by-cons f y xs))); apart = λ e. omega (arith, e) }
    | inr none ↦
        let two = two_count xs (λ i x at. few (suc i) x at) (omega (arith, l, none, sum_by-cons f y xs)) in
        record { one = counts_behind y xs two.one; other = counts_behind y xs two.other; apart = λ e. two.apart (omega (arith, e)) }
  ]

  pub none_counts : (xs : List X) → ((i : ℕ) (x : X) → slice_get xs i ≡ Some x → f x ≡ 0) → sum_by f xs ≡ 0
  none_counts [] none = refl
  none_counts (y ∷ xs) none = omega (arith, none 0 y refl, none_counts xs (λ i x at. none (suc i) x at), sum_by-cons f y xs)

-- ---- sums over the tables that are there

-- a table that counts, in its place
pub record TableCounts (f : TableView → ℕ) (places : List (Option TableView)) : Type 0 where
  pub place : ℕ
  pub table : TableView
  pub stands : slice_get places place ≡ Some (Some table)
  pub counts : 0 < f table

pub record TablesCount (f : TableView → ℕ) (places : List (Option TableView)) : Type 0 where
  pub one : TableCounts f places
  pub other : TableCounts f places
  pub apart : one.place ≢ other.place

-- a table that counts more than once
pub record TableCountsMore (f : TableView → ℕ) (places : List (Option TableView)) : Type 0 where
  pub place : ℕ
  pub table : TableView
  pub stands : slice_get places place ≡ Some (Some table)
  pub counts : 1 < f table

module _ (f : TableView → ℕ) where
  abbrev behind : (first : Option TableView) (places : List (Option TableView)) → TableCounts f places → TableCounts f (first ∷ places)
  behind first places c = record { place = suc c.place; table = c.table; stands = c.stands; counts = c.counts }

  pub one_table_counts : (places : List (Option TableView)) → 0 < sum_by f (tables_there places) → TableCounts f places
  one_table_counts [] l = absurd (omega (arith, l))
  one_table_counts (None ∷ places) l = behind None places (one_table_counts places l)
  one_table_counts (Some table ∷ places) l = elim (cases_lt 0 (f table)) [
    | inl here ↦ record { place = 0; table = table; stands = refl; counts = here }
    | inr none ↦ behind (Some table) places (one_table_counts places (omega (arith, l, none, sum_by-cons f table (tables_there places))))
  ]

  more_behind : (first : Option TableView) (places : List (Option TableView)) → TablesCount f places ⊎ TableCountsMore f places → TablesCount f (first ∷ places) ⊎ TableCountsMore f (first ∷ places)
  more_behind first places (inl two) = inl (record { one = behind first places two.one; other = behind first places two.other; apart = λ e. two.apart (omega (arith, e)) })
  more_behind first places (inr more) = inr (record { place = suc more.place; table = more.table; stands = more.stands; counts = more.counts })

  pub two_tables_count : (places : List (Option TableView)) → 1 < sum_by f (tables_there places) → TablesCount f places ⊎ TableCountsMore f places
  two_tables_count [] l = absurd (omega (arith, l))
  two_tables_count (None ∷ places) l = more_behind None places (two_tables_count places l)
  two_tables_count (Some table ∷ places) l = elim (cases_lt 1 (f table)) [
    | inl more ↦ inr (record { place = 0; table = table; stands = refl; counts = more })
    | inr few ↦ elim (cases_lt 0 (f table)) [
      | inl here ↦ inl (record {
        one = record { place = 0; table = table; stands = refl; counts = here };
        other = behind (Some table) places (one_table_counts places (omega (arith, l, few, sum_by-cons f table (tables_there places))));
        apart = λ e. omega (arith, e);
      })
      | inr none ↦ more_behind (Some table) places (two_tables_count places (omega (arith, l, none, sum_by-cons f table (tables_there places))))
    ]
  ]

  pub no_table_counts : (places : List (Option TableView)) → ((t : ℕ) (table : TableView) → slice_get places t ≡ Some (Some table) → f table ≡ 0) → sum_by f (tables_there places) ≡ 0
  no_table_counts [] none = refl
  no_table_counts (None ∷ places) none = no_table_counts places (λ t table at. none (suc t) table at)
  no_table_counts (Some table ∷ places) none = omega (arith, none 0 table refl, no_table_counts places (λ t other at. none (suc t) other at), sum_by-cons f table (tables_there places))

-- ---- pages behind those that there are

below_times : (count n : ℕ) (t : Forest) → EachNode (IsPageBelow count) t → count ≤ n → times n t ≡ 0
below_times count n Nil each past = refl
below_times count n (Leaf page items next) each past =
    omega (arith, once_other n page (λ e. omega (arith, e, past, each.0)), below_times count n next each.1 past)
below_times count n (Fork page seps kids next) each past =
    omega (arith, once_other n page (λ e. omega (arith, e, past, each.0)), below_times count n kids each.1 past, below_times count n next each.2 past)

pub past_times : (pages : PageList) (place : TreePlace) (t : Forest) (p : ℕ) → HasTree pages place t → length pages ≤ p → times p t ≡ 0
past_times pages place t p has past = below_times (length pages) p t (HoldsForest-below place.width (telling pages) t has.is_tree.holds) past

-- ---- lists side by side

module _ {A B : Type 0} (R : A → B → Type 0) where
  pub beside_back : (xs : List A) (ys : List B) (i : ℕ) (y : B) → AllZip R xs ys → slice_get ys i ≡ Some y → (x : A) × (slice_get xs i ≡ Some x) × R x y
  beside_back xs [] i y h e = absurd (cc)
  beside_back [] (b ∷ ys) i y h e = absurd h
  beside_back (a ∷ xs) (b ∷ ys) zero y h e = (a, refl, subst (R a) (same_Some b y e) h.0)
  beside_back (a ∷ xs) (b ∷ ys) (suc i) y h e = beside_back xs ys i y h.1 e
