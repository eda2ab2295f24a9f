-- Row numbers that differ and lie below the next one, in whatever order the rows are, and with a row more or less.
use Rattle.std.proofs.Common.{◌≡◌, ◌≢◌, ◌<◌, ◌≤◌, ◌+◌, ℕ, zero, suc, List, [], ◌∷◌, length, get_or, sum_by, refl, ap, arith, sym, ◌∙◌, inl, inr}
use Rattle.std.specs.Prelude.{AllPairs, Contains, IsPermutation}
use Rattle.std.specs.List.{AllByRecursion}
use Rattle.std.proofs.lemmas.Bool.{cases_eq}
use Rattle.std.proofs.lemmas.List.Sorted.{Contains-permutation, IsPermutation-sym, sum_by-IsPermutation}
use Rattle.std.proofs.lemmas.List.Sums.{sum_by-cons}
use Rattle.mdc_ast.specs.declared.definition.TableDef.{TableDef}
use Rattle.entry_tree.specs.Forest.{once}
use Rattle.entry_tree.proofs.ForestLemmas.{once_other, once_same}
use Rattle.mdc_sound.specs.BlockRules.{AreRowNumbersSound}
use Rattle.mdc_sound.specs.TableRows.{PlacedRow}
use Rattle.mdc_sound.proofs.BlockRulesLemmas.{each_as, each_of}
use Rattle.mdc_sound.proofs.NextNumberLemmas.{with_next}

-- ---- how many rows have a number

-- 1 for a row of this number, and else 0
row_once : ℕ → PlacedRow → ℕ
row_once k placed = once k placed.row.number

times_numbered : ℕ → List PlacedRow → ℕ
times_numbered k rows = sum_by (row_once k) rows

times-cons : (k : ℕ) (placed : PlacedRow) (rows : List PlacedRow) → times_numbered k (placed ∷ rows) ≡ once k placed.row.number + times_numbered k rows
unfolding times_numbered row_once
times-cons k placed rows = sum_by-cons (row_once k) placed rows

numbered_not : (k : ℕ) (rows : List PlacedRow) → ((i : ℕ) (d : PlacedRow) → i < length rows → k ≢ (get_or rows i d).row.number) → times_numbered k rows ≡ 0
unfolding times_numbered
numbered_not k [] none = refl
numbered_not k (placed ∷ rows) none =
    omega (arith, times-cons k placed rows, once_other k placed.row.number (none 0 placed (omega arith)), numbered_not k rows (λ i d low. none (suc i) d (omega (arith, low))))

numbered_some : (k i : ℕ) (rows : List PlacedRow) (d : PlacedRow) → i < length rows → k ≡ (get_or rows i d).row.number → 1 ≤ times_numbered k rows
numbered_some k i [] d low is = absurd (omega arith)
numbered_some k zero (placed ∷ rows) d low is = omega (arith, times-cons k placed rows, ap (once k) (sym is), once_same k)
numbered_some k (suc i) (placed ∷ rows) d low is = omega (arith, times-cons k placed rows, numbered_some k i rows d (omega (arith, low)) is)

-- numbers differ where each is had once at most
differ_once : (rows : List PlacedRow) → AllPairs (λ a b. a.row.number ≢ b.row.number) rows → (k : ℕ) → times_numbered k rows ≤ 1
unfolding times_numbered
differ_once [] differ k = omega arith
differ_once (placed ∷ rows) differ k = elim (cases_eq k placed.row.number) [
  | inl same ↦
      let none = numbered_not k rows (λ i d low e. differ 0 (suc i) d (omega arith) (omega (arith, low)) (sym same ∙ e)) in
      omega (arith, times-cons k placed rows, ap (once k) (sym same), once_same k, none)
  | inr other ↦
      omega (arith, times-cons k placed rows, once_other k placed.row.number other, differ_once rows (λ i j d low high. differ (suc i) (suc j) d (omega (arith, low)) (omega (arith, high))) k)
]

once_differ : (rows : List PlacedRow) → ((k : ℕ) → times_numbered k rows ≤ 1) → AllPairs (λ a b. a.row.number ≢ b.row.number) rows
once_differ [] once_each i j d low high = absurd (omega (arith, high))
once_differ (placed ∷ rows) once_each zero zero d low high = absurd (omega (arith, low))
once_differ (placed ∷ rows) once_each zero (suc j) d low high =
    λ e. omega (arith, once_each placed.row.number, times-cons placed.row.number placed rows, once_same placed.row.number, numbered_some placed.row.number j rows d (omega (arith, high)) e)
once_differ (placed ∷ rows) once_each (suc i) zero d low high = absurd (omega (arith, low))
once_differ (placed ∷ rows) once_each (suc i) (suc j) d low high =
    once_differ rows (λ k. omega (arith, once_each k, times-cons k placed rows)) i j d (omega (arith, low)) (omega (arith, high))

-- ---- row numbers that are sound

-- the same rows in another order
pub numbers_in_order : (def : TableDef) (rows others : List PlacedRow) → IsPermutation rows others → AreRowNumbersSound def rows → AreRowNumbersSound def others
unfolding times_numbered
numbers_in_order def rows others same is = record {
  below_next = each_as (λ (placed : PlacedRow). Unit {0}) (λ (placed : PlacedRow). placed.row.number < def.next) others
      (λ placed there any. each_of (λ (x : PlacedRow). x.row.number < def.next) rows placed is.below_next (Contains-permutation others rows placed (IsPermutation-sym rows others same) there)) (any_rows others);
  differ = once_differ others (λ k. omega (arith, differ_once rows is.differ k, sum_by-IsPermutation (row_once k) rows others same));
}
  where
    any_rows : (some : List PlacedRow) → AllByRecursion (λ (placed : PlacedRow). Unit {0}) some
    any_rows [] = tt
    any_rows (placed ∷ some) = (tt, any_rows some)

-- a row less
pub numbers_without : (def : TableDef) (placed : PlacedRow) (rows : List PlacedRow) → AreRowNumbersSound def (placed ∷ rows) → AreRowNumbersSound def rows
numbers_without def placed rows is = record {
  below_next = is.below_next.1;
  differ = λ i j d low high. is.differ (suc i) (suc j) d (omega (arith, low)) (omega (arith, high));
}

-- a row more, which has a number from the next one on
pub numbers_with : (def : TableDef) (next : ℕ) (placed : PlacedRow) (rows : List PlacedRow) → AreRowNumbersSound def rows → def.next ≤ placed.row.number → placed.row.number < next
    → AreRowNumbersSound (with_next def next) (placed ∷ rows)
numbers_with def next placed rows is new_number below = record {
  below_next = (
    below,
    each_as (λ (x : PlacedRow). x.row.number < def.next) (λ (x : PlacedRow). x.row.number < next) rows (λ x there low. omega (arith, low, new_number, below)) is.below_next,
  );
  differ = once_differ (placed ∷ rows) once_each;
}
  where
    not_there : (i : ℕ) (d : PlacedRow) → i < length rows → placed.row.number ≢ (get_or rows i d).row.number
    not_there i d low e =
        let there : Contains rows (get_or rows i d) = (i, low, same_default rows i d low) in
        omega (arith, each_of (λ (x : PlacedRow). x.row.number < def.next) rows (get_or rows i d) is.below_next there, new_number, e)
      where
        same_default : (xs : List PlacedRow) (n : ℕ) (x : PlacedRow) → n < length xs → get_or xs n (get_or xs n x) ≡ get_or xs n x
        same_default [] n x low = absurd (omega arith)
        same_default (y ∷ xs) zero x low = refl
        same_default (y ∷ xs) (suc n) x low = same_default xs n x (omega (arith, low))

    once_each : (k : ℕ) → times_numbered k (placed ∷ rows) ≤ 1
    once_each k = elim (cases_eq k placed.row.number) [
      | inl same ↦ omega (arith, times-cons k placed rows, ap (once k) (sym same), once_same k, numbered_not k rows (λ i d low e. not_there i d low (sym same ∙ e)))
      | inr other ↦ omega (arith, times-cons k placed rows, once_other k placed.row.number other, differ_once rows is.differ k)
    ]

-- a row that became another of the same number
pub numbers_over : (def : TableDef) (placed other : PlacedRow) (rows : List PlacedRow) → other.row.number ≡ placed.row.number → AreRowNumbersSound def (placed ∷ rows) → AreRowNumbersSound def (other ∷ rows)
numbers_over def placed other rows same is = record {
  below_next = (omega (arith, is.below_next.0, same), is.below_next.1);
  differ = once_differ (other ∷ rows) (λ k. omega (arith, differ_once (placed ∷ rows) is.differ k, times-cons k placed rows, times-cons k other rows, ap (once k) same));
}
