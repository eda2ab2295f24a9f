-- The names of columns, and where they stand.
use Rattle.std.proofs.Common.{◌≡◌, ℕ, zero, suc, ◌+◌, ◌<◌, ◌≤◌, inl, inr, Bool, true, false, not, ◌||◌, List, [], ◌∷◌, ◌++◌, Option, Some, None, add-one, arith, ap, bytes_eq, drop, drop-cons, eqb, get_or, is_some, length, map, option_and_then, refl, sym, take, ◌∙◌}
use Rattle.std.specs.Prelude.{flat_map, slice_get}
use Rattle.std.specs.List.{list_any, position_from}
use Rattle.std.proofs.lemmas.Bool.{cases_Bool}
use Rattle.std.proofs.lemmas.Bool.Decides.{nat_tests}
use Rattle.std.proofs.lemmas.List.{drop_all, take_more}
use Rattle.std.proofs.lemmas.List.Folds.{list_any-append}
use Rattle.std.proofs.lemmas.Option.{none-some, same_Some}
use Rattle.mdc_ast.specs.declared.definition.ColumnDef.{ColumnDef}
use Rattle.mdc_ast.specs.declared.name.Name.{Name}
use Rattle.statement_meaning.specs.Cause.{cause_if, NoColumn, ColumnTwice}
use Rattle.mdc_ast.specs.Definitions.{column_named, column_names, is_among, is_same}
use Rattle.statement_meaning.specs.Judging.{listed_names}
use Rattle.binder.specs.Saying.{first_of}

pub length-column_names : (columns : List ColumnDef) → length (column_names columns) ≡ length columns
length-column_names [] = refl
length-column_names (column ∷ columns) = ap suc (length-column_names columns)

pub slice_get-column_names : (columns : List ColumnDef) (i : ℕ) (column : ColumnDef) → i < length columns → slice_get (column_names columns) i ≡ Some (get_or columns i column).name
slice_get-column_names [] i column lt = absurd (omega (arith, lt))
slice_get-column_names (first ∷ columns) zero column lt = refl
slice_get-column_names (first ∷ columns) (suc i) column lt = slice_get-column_names columns i column (omega (arith, lt))

pub map-column_names : {Y : Type 0} (f : Name → Y) (columns : List ColumnDef) → map f (column_names columns) ≡ map (λ column. f column.name) columns
map-column_names f [] = refl
map-column_names f (column ∷ columns) = ap (λ rest. f column.name ∷ rest) (map-column_names f columns)

pub flat_map-column_names : {Y : Type 0} (f : Name → List Y) (columns : List ColumnDef) → flat_map f (column_names columns) ≡ flat_map (λ column. f column.name) columns
flat_map-column_names f [] = refl
flat_map-column_names f (column ∷ columns) = ap (λ rest. f column.name ++ rest) (flat_map-column_names f columns)

-- ---- columns by name

eqb-sym : (a b : ℕ) → eqb a b ≡ eqb b a
eqb-sym a b = grind (arith, nat_tests)

bytes_eq-sym : (a b : List ℕ) → bytes_eq a b ≡ bytes_eq b a
bytes_eq-sym [] [] = refl
bytes_eq-sym [] (y ∷ b) = refl
bytes_eq-sym (x ∷ a) [] = refl
bytes_eq-sym (x ∷ a) (y ∷ b) = rw (eqb-sym x y, bytes_eq-sym a b) refl

pub is_same-sym : (a b : Name) → is_same a b ≡ is_same b a
is_same-sym a b = bytes_eq-sym a.0 b.0

position_from-within : {K : Type 0} (test : K → Bool) (from : ℕ) (xs : List K) (n : ℕ) → position_from test from xs ≡ Some n → n < from + length xs
position_from-within test from [] n e = absurd (none-some n e)
position_from-within test from (x ∷ xs) n e =
    elim (cases_Bool (test x)) [
      | inl t ↦ omega (arith, same_Some from n (rw t at e))
      | inr f ↦ omega (arith, position_from-within test (from + 1) xs n (rw f at e))
    ]

pub is_some-position_from : {K : Type 0} (test : K → Bool) (from : ℕ) (xs : List K) → is_some (position_from test from xs) ≡ list_any test xs
is_some-position_from test from [] = refl
is_some-position_from test from (x ∷ xs) =
    elim (cases_Bool (test x)) [
      | inl t ↦ rw t refl
      | inr f ↦ rw f (is_some-position_from test (from + 1) xs)
    ]

is_some-within : {X : Type 0} (xs : List X) (o : Option ℕ) → ((n : ℕ) → o ≡ Some n → n < length xs) → is_some (option_and_then (slice_get xs) o) ≡ is_some o
is_some-within xs None within = refl
is_some-within xs (Some n) within = is_some-at xs n (within n refl)
  where
    is_some-at : {X : Type 0} (xs : List X) (n : ℕ) → n < length xs → is_some (slice_get xs n) ≡ true
    is_some-at [] n lt = absurd (omega (arith, lt))
    is_some-at (x ∷ xs) zero lt = refl
    is_some-at (x ∷ xs) (suc n) lt = is_some-at xs n (omega (arith, lt))

is_among-any : (columns : List ColumnDef) (name : Name) → is_among name (column_names columns) ≡ list_any (λ column. is_same column.name name) columns
is_among-any [] name = refl
is_among-any (column ∷ columns) name = rw (is_same-sym name column.name, is_among-any columns name) refl

-- a name is among the names of columns exactly where there is a column of that name
pub is_among-column_names : (columns : List ColumnDef) (name : Name) → is_among name (column_names columns) ≡ is_some (column_named columns name)
is_among-column_names columns name =
    let test : ColumnDef → Bool = λ column. is_same column.name name in
    is_among-any columns name ∙ sym (is_some-position_from test 0 columns)
    ∙ sym (is_some-within columns (position_from test 0 columns) (λ n e. omega (arith, position_from-within test 0 columns n e)))

-- ---- a list of names, judged from a place on

-- it depends on what is among the earlier names alone
listed_names-same : (columns a b : List Name) (names : List Name) → ((n : Name) → is_among n a ≡ is_among n b) → listed_names columns a names ≡ listed_names columns b names
listed_names-same columns a b [] same = refl
listed_names-same columns a b (name ∷ names) same =
    rw (same name, listed_names-same columns (name ∷ a) (name ∷ b) names (λ n. ap (λ among. is_same n name || among) (same n))) refl

or-turned : (a b : Bool) → (a || b) ≡ (b || (a || false))
or-turned true true = refl
or-turned true false = refl
or-turned false true = refl
or-turned false false = refl

pub is_among-last : (names : List Name) (name n : Name) → is_among n (name ∷ names) ≡ is_among n (names ++ name ∷ [])
is_among-last names name n =
    rw (list_any-append (is_same n) names (name ∷ [])) (or-turned (is_same n name) (list_any (is_same n) names))

listed_names-step : (columns names : List Name) (i : ℕ) (name : Name) → i < length names → name ≡ get_or names i name
    → listed_names columns (take i names) (drop i names)
    ≡ cause_if (not (is_among name columns)) (NoColumn name) ++ cause_if (is_among name (take i names)) (ColumnTwice name)
    ++ listed_names columns (take (i + 1) names) (drop (i + 1) names)
listed_names-step columns names i name lt at =
    let more : take (i + 1) names ≡ take i names ++ name ∷ [] = take_more names i name lt ∙ ap (λ n. take i names ++ n ∷ []) (sym at) in
    let tail : drop i names ≡ name ∷ drop (i + 1) names = rw (drop-cons names i name, add-one) (ap (λ n. n ∷ drop (suc i) names) (sym at)) in
    rw tail (ap (λ rest. cause_if (not (is_among name columns)) (NoColumn name) ++ cause_if (is_among name (take i names)) (ColumnTwice name) ++ rest)
    (listed_names-same columns (name ∷ take i names) (take (i + 1) names) (drop (i + 1) names) (λ n. is_among-last (take i names) name n ∙ ap (is_among n) (sym more))))

pub listed_names-no_column : (columns names : List Name) (i : ℕ) (name : Name) → i < length names → name ≡ get_or names i name → is_among name columns ≡ false
    → first_of (listed_names columns (take i names) (drop i names)) ≡ Some (NoColumn name)
listed_names-no_column columns names i name lt at absent = rw (listed_names-step columns names i name lt at, absent) refl

pub listed_names-twice : (columns names : List Name) (i : ℕ) (name : Name) → i < length names → name ≡ get_or names i name → is_among name columns ≡ true → is_among name (take i names) ≡ true
    → first_of (listed_names columns (take i names) (drop i names)) ≡ Some (ColumnTwice name)
listed_names-twice columns names i name lt at there twice = rw (listed_names-step columns names i name lt at, there, twice) refl

pub listed_names-next : (columns names : List Name) (i : ℕ) (name : Name) → i < length names → name ≡ get_or names i name → is_among name columns ≡ true → is_among name (take i names) ≡ false
    → first_of (listed_names columns (take i names) (drop i names)) ≡ first_of (listed_names columns (take (i + 1) names) (drop (i + 1) names))
listed_names-next columns names i name lt at there once = rw (listed_names-step columns names i name lt at, there, once) refl

pub listed_names-end : (columns earlier names : List Name) (i : ℕ) → length names ≤ i → first_of (listed_names columns earlier (drop i names)) ≡ None
listed_names-end columns earlier names i le = rw (drop_all i names) refl
