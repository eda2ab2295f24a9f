-- The plain table after all qualifying rows were taken out, or became others, one after the other; and what is said against an
-- UPDATE, by the rows that qualify alone.
use Rattle.std.proofs.Common.{◌≡◌, ◌≢◌, ◌<◌, ℕ, Bool, true, false, eq-eqb, ne_eqb, inl, inr, List, [], ◌∷◌, ◌++◌, ◌∙◌, map, refl, sym, ap, subst, arith, Option}
use Rattle.std.specs.Prelude.{AllPairs, Contains, filter, flat_map, not, ◌==◌, if◌then◌else◌}
use Rattle.std.proofs.lemmas.Bool.{cases_Bool}
use Rattle.mdc_ast.specs.declared.bound.BoundSet.{BoundSet}
use Rattle.mdc_ast.specs.declared.definition.ColumnDef.{ColumnDef}
use Rattle.mdc_ast.specs.declared.predicate.Pred.{Pred}
use Rattle.mdc_ast.specs.declared.row.Row.{Row}
use Rattle.mdc_ast.specs.Database.{PlainTable}
use Rattle.statement_meaning.specs.Doing.{changed_causes, changed_row, changed_table, left_table}
use Rattle.mdc_ast.specs.Truth.{qualifies}
use Rattle.statement_meaning.proofs.UpdateLemmas.{number-changed_row}
use Rattle.mdc_sound.specs.StandsForDatabase.{with_row, without_row}
use Rattle.mdc_sound.proofs.StandsForLemmas.{above_first, first_or_later, is_first, is_later, rest_rises}
use Rattle.statement_rows.specs.RowsOfStatement.{with_rows, without_rows}

-- by rising number
abbrev Rise : List Row → Type 0
Rise rows = AllPairs (λ a b. a.number < b.number) rows

-- no row has this number
abbrev HasNone : ℕ → List Row → Type 0
HasNone n rows = (z : Row) → Contains rows z → z.number ≢ n

-- the rows behind the first of rising ones don't have its number
others_above : (x : Row) (xs : List Row) → Rise (x ∷ xs) → HasNone x.number xs
others_above x xs rise z there e = omega (arith, above_first x xs rise z there, e)

-- ---- filters

filter_first : (p : Row → Bool) (x : Row) (xs : List Row) → p x ≡ true → filter p (x ∷ xs) ≡ x ∷ filter p xs
filter_first p x xs is = rw is refl

filter_past : (p : Row → Bool) (x : Row) (xs : List Row) → p x ≡ false → filter p (x ∷ xs) ≡ filter p xs
filter_past p x xs is = rw is refl

-- what was kept was there
none_kept : (n : ℕ) (p : Row → Bool) (xs : List Row) → HasNone n xs → HasNone n (filter p xs)
none_kept n p [] none z there = absurd (omega (arith, there.1))
none_kept n p (x ∷ xs) none z there = elim (cases_Bool (p x)) [
  | inl here ↦ elim (first_or_later x z (filter p xs) (subst (λ (all : List Row). Contains all z) (filter_first p x xs here) there)) [
    | inl e ↦ subst (λ (r : Row). r.number ≢ n) e (none x (is_first x xs))
    | inr later ↦ none_kept n p xs (λ y y_in. none y (is_later x y xs y_in)) z later
  ]
  | inr out ↦ none_kept n p xs (λ y y_in. none y (is_later x y xs y_in)) z (subst (λ (all : List Row). Contains all z) (filter_past p x xs out) there)
]

-- ---- rows taken out

-- not the row of this number
abbrev other_than : ℕ → Row → Bool
other_than n row = not (row.number == n)

-- the rows that are left once these were taken out, one after the other
abbrev left_rows : List Row → List Row → List Row
left_rows [] rows = rows
left_rows (gone ∷ more) rows = left_rows more (filter (other_than gone.number) rows)

passes : (n : ℕ) (row : Row) → row.number ≢ n → other_than n row ≡ true
passes n row apart = ap not (ne_eqb row.number n apart)

fails : (n : ℕ) (row : Row) → row.number ≡ n → other_than n row ≡ false
fails n row same = ap not (eq-eqb row.number n same)

none_taken : (n : ℕ) (xs : List Row) → HasNone n xs → filter (other_than n) xs ≡ xs
none_taken n [] none = refl
none_taken n (x ∷ xs) none =
    filter_first (other_than n) x xs (passes n x (none x (is_first x xs))) ∙ ap (λ (rest : List Row). x ∷ rest) (none_taken n xs (λ z there. none z (is_later x z xs there)))

-- a first row of another number stays
first_left : (gone : List Row) (x : Row) (xs : List Row) → HasNone x.number gone → left_rows gone (x ∷ xs) ≡ x ∷ left_rows gone xs
first_left [] x xs none = refl
first_left (y ∷ gone) x xs none =
    ap (left_rows gone) (filter_first (other_than y.number) x xs (passes y.number x (λ e. none y (is_first y gone) (sym e))))
    ∙ first_left gone x (filter (other_than y.number) xs) (λ z there. none z (is_later y z gone there))

qualifying_left : (p : Row → Bool) (rows : List Row) → Rise rows → left_rows (filter p rows) rows ≡ filter (λ row. not (p row)) rows
qualifying_left p [] rise = refl
qualifying_left p (x ∷ xs) rise =
    let apart = others_above x xs rise in
    let rest = qualifying_left p xs (rest_rises x xs rise) in
    elim (cases_Bool (p x)) [
      | inl here ↦
          ap (λ (gone : List Row). left_rows gone (x ∷ xs)) (filter_first p x xs here)
          ∙ ap (left_rows (filter p xs)) (filter_past (other_than x.number) x xs (fails x.number x refl) ∙ none_taken x.number xs apart) ∙ rest
          ∙ sym (filter_past (λ row. not (p row)) x xs (ap not here))
      | inr out ↦
          ap (λ (gone : List Row). left_rows gone (x ∷ xs)) (filter_past p x xs out) ∙ first_left (filter p xs) x xs (none_kept x.number p xs apart)
          ∙ ap (λ (r : List Row). x ∷ r) rest ∙ sym (filter_first (λ row. not (p row)) x xs (ap not out))
    ]

without_rows_are : (gone : List Row) (table : PlainTable) → without_rows gone table ≡ record table { rows = left_rows gone table.rows }
without_rows_are [] table = refl
without_rows_are (row ∷ gone) table = without_rows_are gone (without_row row.number table)

-- the table without the rows that qualify
pub qualifying_taken : (pred : Option Pred) (table : PlainTable) → Rise table.rows → without_rows (filter (λ row. qualifies pred row.values) table.rows) table ≡ left_table pred table
qualifying_taken pred table rise =
    without_rows_are (filter (λ (row : Row). qualifies pred row.values) table.rows) table
    ∙ ap (λ rows. record table { rows = rows }) (qualifying_left (λ (row : Row). qualifies pred row.values) table.rows rise)

-- ---- rows that became others

-- the row of this number becomes another
abbrev turned_to : Row → Row → Row
turned_to other row = if row.number == other.number then other else row

-- the rows once these were put, each in the place of the one of its number, one after the other
abbrev rows_with : List Row → List Row → List Row
rows_with [] rows = rows
rows_with (other ∷ more) rows = rows_with more (map (turned_to other) rows)

turns : (other row : Row) → row.number ≡ other.number → turned_to other row ≡ other
turns other row same = rw (eq-eqb row.number other.number same) refl

stays : (other row : Row) → row.number ≢ other.number → turned_to other row ≡ row
stays other row apart = rw (ne_eqb row.number other.number apart) refl

none_turned : (other : Row) (xs : List Row) → HasNone other.number xs → map (turned_to other) xs ≡ xs
none_turned other [] none = refl
none_turned other (x ∷ xs) none =
    let first : turned_to other x ≡ x = stays other x (none x (is_first x xs)) in
    let rest : map (turned_to other) xs ≡ xs = none_turned other xs (λ z there. none z (is_later x z xs there)) in
    cc (first, rest)

-- a first row of another number stays
first_stays : (others : List Row) (x : Row) (xs : List Row) → HasNone x.number others → rows_with others (x ∷ xs) ≡ x ∷ rows_with others xs
first_stays [] x xs none = refl
first_stays (y ∷ others) x xs none =
    ap (λ first. rows_with others (first ∷ map (turned_to y) xs)) (stays y x (λ e. none y (is_first y others) (sym e)))
    ∙ first_stays others x (map (turned_to y) xs) (λ z there. none z (is_later y z others there))

module _ (f : Row → Row) (p : Row → Bool) (keeps : (row : Row) → (f row).number ≡ row.number) (same : (row : Row) → p row ≡ false → f row ≡ row) where
  none_changed : (n : ℕ) (xs : List Row) → HasNone n xs → HasNone n (map f xs)
  none_changed n [] none z there = absurd (omega (arith, there.1))
  none_changed n (x ∷ xs) none z there = elim (first_or_later (f x) z (map f xs) there) [
    | inl e ↦ λ is. none x (is_first x xs) (sym (keeps x) ∙ ap (λ (r : Row). r.number) e ∙ is)
    | inr later ↦ none_changed n xs (λ y y_in. none y (is_later x y xs y_in)) z later
  ]

  qualifying_turned : (rows : List Row) → Rise rows → rows_with (map f (filter p rows)) rows ≡ map f rows
  qualifying_turned [] rise = refl
  qualifying_turned (x ∷ xs) rise =
      let apart = others_above x xs rise in
      let rest = qualifying_turned xs (rest_rises x xs rise) in
      let kept = map f (filter p xs) in
      let none : HasNone x.number kept = none_changed x.number (filter p xs) (none_kept x.number p xs apart) in
      elim (cases_Bool (p x)) [
        | inl here ↦
            let turned : turned_to (f x) x ≡ f x = turns (f x) x (sym (keeps x)) in
            let others : map (turned_to (f x)) xs ≡ xs = none_turned (f x) xs (λ z there e. apart z there (e ∙ keeps x)) in
            let all : map (turned_to (f x)) (x ∷ xs) ≡ f x ∷ xs = cc (turned, others) in
            ap (λ (l : List Row). rows_with (map f l) (x ∷ xs)) (filter_first p x xs here) ∙ ap (rows_with kept) all
            ∙ first_stays kept (f x) xs (λ z there e. none z there (e ∙ keeps x)) ∙ ap (λ (r : List Row). f x ∷ r) rest
        | inr out ↦
            ap (λ (l : List Row). rows_with (map f l) (x ∷ xs)) (filter_past p x xs out) ∙ first_stays kept x xs none
            ∙ ap (λ (r : List Row). x ∷ r) rest ∙ ap (λ (r : Row). r ∷ map f xs) (sym (same x out))
      ]

with_rows_are : (others : List Row) (table : PlainTable) → with_rows others table ≡ record table { rows = rows_with others table.rows }
with_rows_are [] table = refl
with_rows_are (other ∷ others) table = with_rows_are others (with_row other table)

-- a row that doesn't qualify stays
unchanged : (sets : List BoundSet) (pred : Option Pred) (row : Row) → qualifies pred row.values ≡ false → changed_row sets pred row ≡ row
unchanged sets pred row out = rw out refl

-- and one that does is set
pub changed : (sets : List BoundSet) (pred : Option Pred) (row : Row) → qualifies pred row.values ≡ true → changed_row sets pred row ≡ changed_row sets Option.None row
changed sets pred row is = rw is refl

-- the table with the changed rows in the place of those that qualify
pub qualifying_changed : (sets : List BoundSet) (pred : Option Pred) (table : PlainTable) → Rise table.rows
    → with_rows (map (changed_row sets pred) (filter (λ row. qualifies pred row.values) table.rows)) table ≡ changed_table sets pred table
qualifying_changed sets pred table rise =
    let p : Row → Bool = λ row. qualifies pred row.values in
    with_rows_are (map (changed_row sets pred) (filter p table.rows)) table
    ∙ ap (λ rows. record table { rows = rows }) (qualifying_turned (changed_row sets pred) p (number-changed_row sets pred) (λ row out. unchanged sets pred row out) table.rows rise)

-- ---- what is said against an UPDATE

-- nothing is said of rows that don't qualify
pub causes_of_qualifying : (columns : List ColumnDef) (sets : List BoundSet) (pred : Option Pred) (rows : List Row)
    → flat_map (changed_causes columns sets pred) rows ≡ flat_map (changed_causes columns sets Option.None) (filter (λ row. qualifies pred row.values) rows)
causes_of_qualifying columns sets pred [] = refl
causes_of_qualifying columns sets pred (row ∷ rows) =
    let p : Row → Bool = λ r. qualifies pred r.values in
    let of = changed_causes columns sets Option.None in
    let rest = causes_of_qualifying columns sets pred rows in
    elim (cases_Bool (p row)) [
      | inl here ↦
          let first : changed_causes columns sets pred row ≡ of row = rw here refl in
          ap (λ l. l ++ flat_map (changed_causes columns sets pred) rows) first ∙ ap (λ l. of row ++ l) rest ∙ ap (flat_map of) (sym (filter_first p row rows here))
      | inr out ↦
          let first : changed_causes columns sets pred row ≡ [] = rw out refl in
          ap (λ l. l ++ flat_map (changed_causes columns sets pred) rows) first ∙ rest ∙ ap (flat_map of) (sym (filter_past p row rows out))
    ]
