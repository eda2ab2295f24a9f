-- Rows by their numbers: which rise, and which stand twice.
use Rattle.std.proofs.Common.{◌≡◌, ◌≢◌, ◌<◌, ◌≤◌, ◌+◌, ◌-◌, ◌==◌, ◌∙◌, ℕ, zero, suc, List, [], ◌∷◌, length, get_or, refl, ap, sym, arith, inl, inr, eq-eqb, cond, add-one}
use Rattle.std.specs.Prelude.{map, AllPairs, IsPermutation}
use Rattle.std.specs.List.{AllAdjacentBelow}
use Rattle.std.proofs.lemmas.Bool.{cases_eq, ne_eqb}
use Rattle.std.proofs.lemmas.List.{get_or_default}
use Rattle.std.proofs.lemmas.List.Sums.{sum_by-cons}
use Rattle.std.proofs.lemmas.List.Sorted.{IsNonDecreasingBy-from_all_adjacent, sum_by-IsPermutation}
use Rattle.std.specs.List.Sorted.{IsNonDecreasingBy}
use Rattle.mdc_ast.specs.declared.row.Row.{Row}
use Rattle.mdc_sound.specs.TableRows.{PlacedRow}
use Rattle.reference_reader.specs.ReadTables.{DoNumbersRise, IsFall, IsNumberTwice, times_numbered}

-- a place where the numbers don't rise
pub fall_at : (rows : List Row) (i : ℕ) (now before : Row) → 1 ≤ i → i < length rows → (get_or rows i now).number ≤ (get_or rows (i - 1) before).number → IsFall rows (i - 1)
fall_at rows i now before some low falls =
    let next : i ≡ i - 1 + 1 = omega arith in
    let here : (d : Row) → get_or rows (i - 1 + 1) d ≡ get_or rows i now = λ d. ap (λ k. get_or rows k d) (sym next) ∙ get_or_default rows i d now low in
    let behind : (d : Row) → get_or rows (i - 1) d ≡ get_or rows (i - 1) before = λ d. get_or_default rows (i - 1) d before (omega arith) in
    (omega arith, λ d. omega (arith, falls, ap (λ row. row.number) (here d), ap (λ row. row.number) (behind d)))

-- rows that rise from each to the next do so from each to all behind it
pub all_rise : (rows : List Row) → AllAdjacentBelow (λ a b. a.number < b.number) rows (length rows) → DoNumbersRise rows
all_rise rows adjacent i j d low high =
    let climbs : IsNonDecreasingBy (λ row. row.number) rows = IsNonDecreasingBy-from_all_adjacent (λ row. row.number) rows (λ k e below. omega (arith, adjacent k e below)) in
    omega (arith, adjacent i d (omega arith), climbs (i + 1) j d (omega arith) high)

-- ---- how many rows have a number

-- one row more in front
abbrev one_if_same : ℕ → ℕ → ℕ
one_if_same n m = cond (n == m) 1 0

same_number : (n m : ℕ) → n ≡ m → one_if_same n m ≡ 1
same_number n m e = rw (eq-eqb n m e) refl

other_number : (n m : ℕ) → n ≢ m → one_if_same n m ≡ 0
other_number n m ne = rw (ne_eqb n m ne) refl

times_numbered-cons : (n : ℕ) (x : Row) (rows : List Row) → times_numbered n (x ∷ rows) ≡ one_if_same x.number n + times_numbered n rows
times_numbered-cons n x rows = sum_by-cons (λ row. one_if_same row.number n) x rows

-- two rows of one number, one behind the other
twice_at : (rows : List Row) (i : ℕ) → suc i < length rows → ((d : Row) → (get_or rows (suc i) d).number ≡ (get_or rows i d).number) → IsNumberTwice rows
twice_at [] i low same = absurd (omega (arith, low))
twice_at (x ∷ []) i low same = absurd (omega (arith, low))
twice_at (x ∷ y ∷ rows) zero low same =
    (x.number, omega (arith, times_numbered-cons x.number x (y ∷ rows), times_numbered-cons x.number y rows, same_number x.number x.number refl, same_number y.number x.number (same x)))
twice_at (x ∷ y ∷ rows) (suc i) low same =
    let rest : IsNumberTwice (y ∷ rows) = twice_at (y ∷ rows) i (omega (arith, low)) same in
    (rest.0, omega (arith, rest.1, times_numbered-cons rest.0 x (y ∷ rows)))

-- where numbers climb and don't rise, one stands twice
pub number_twice : (rows : List Row) → IsNonDecreasingBy (λ row. row.number) rows → (i : ℕ) → IsFall rows i → IsNumberTwice rows
number_twice rows climbs i falls =
    twice_at rows i (omega (arith, falls.0)) (λ d.
    let up : (get_or rows i d).number ≤ (get_or rows (i + 1) d).number = climbs i (i + 1) d (omega arith) falls.0 in
    let e : (get_or rows (i + 1) d).number ≡ (get_or rows i d).number = omega (arith, falls.1 d) in
    rw add-one at e)

-- rows whose numbers differ
none_numbered : (n : ℕ) (placed : List PlacedRow) → ((k : ℕ) (d : PlacedRow) → k < length placed → (get_or placed k d).row.number ≢ n) → times_numbered n (map (λ p. p.row) placed) ≡ 0
none_numbered n [] none = refl
none_numbered n (x ∷ placed) none =
    let rest = none_numbered n placed (λ k d low. none (suc k) d (omega (arith, low))) in
    omega (arith, times_numbered-cons n x.row (map (λ p. p.row) placed), other_number x.row.number n (none 0 x (omega arith)), rest)

once_numbered : (n : ℕ) (placed : List PlacedRow) → AllPairs (λ a b. a.row.number ≢ b.row.number) placed → times_numbered n (map (λ p. p.row) placed) ≤ 1
once_numbered n [] differ = omega arith
once_numbered n (x ∷ placed) differ =
    let later : AllPairs (λ a b. a.row.number ≢ b.row.number) placed = λ i j d low high. differ (suc i) (suc j) d (omega (arith, low)) (omega (arith, high)) in
    elim (cases_eq x.row.number n) [
      | inl e ↦
          let rest = none_numbered n placed (λ k d low same. differ 0 (suc k) d (omega arith) (omega (arith, low)) (e ∙ sym same)) in
          omega (arith, times_numbered-cons n x.row (map (λ p. p.row) placed), same_number x.row.number n e, rest)
      | inr ne ↦ omega (arith, times_numbered-cons n x.row (map (λ p. p.row) placed), other_number x.row.number n ne, once_numbered n placed later)
    ]

-- a number that stands twice in some order of rows is that of two of them
pub differ_in_no_order : (placed : List PlacedRow) (rows : List Row) → IsPermutation (map (λ p. p.row) placed) rows → IsNumberTwice rows
    → AllPairs (λ a b. a.row.number ≢ b.row.number) placed → ⊥
differ_in_no_order placed rows moved (n, twice) differ =
    omega (arith, twice, once_numbered n placed differ, sum_by-IsPermutation (λ row. cond (row.number == n) 1 0) (map (λ p. p.row) placed) rows moved)
