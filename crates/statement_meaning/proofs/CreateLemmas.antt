-- A table that a CREATE TABLE makes is valid, where nothing is said against it.
use Rattle.std.proofs.Common.{sym, Some, slice_get, ◌≡◌, ℕ, zero, suc, nat_le, ◌+◌, ◌<◌, ◌≤◌, List, [], ◌∷◌, ◌++◌, length, map, Bool, true, false, refl, ap, subst, ◌∙◌, arith}
use Rattle.std.specs.Prelude.{IsTrue, ◌||◌, ◌==◌, not, nat_lt, flat_map, is_none, unwrap_or}
use Rattle.std.specs.List.{AllByRecursion, list_all, list_any, position_from}
use Rattle.std.specs.Str.{bytes_eq}
use Rattle.std.proofs.lemmas.Bool.{false≢true}
use Rattle.std.proofs.lemmas.Bool.Decides.{nat_tests}
use Rattle.std.proofs.lemmas.List.{map-append}
use Rattle.mdc_ast.specs.declared.definition.ColumnDef.{ColumnDef}
use Rattle.mdc_ast.specs.declared.name.Name.{Name}
use Rattle.mdc_ast.specs.declared.statement.ColumnText.{ColumnText}
use Rattle.mdc_ast.specs.declared.statement.TypeText.{TypeText}
use Rattle.mdc_ast.specs.declared.statement.TypeText.TheVariants as type
use Rattle.statement_meaning.specs.Binding.{bound_column, bound_table, text_place}
use Rattle.statement_meaning.specs.Cause.{ColumnTwice, Limit, NoColumn, cause_if}
use Rattle.mdc_ast.specs.Definitions.{AllNamesDiffer, AllPlacesDiffer, Definitions, IsShort, are_there, empty_place, column_names, column_types, is_among, is_good_type, is_same, is_short_key, key_width, row_width, types_at}
use Rattle.mdc_ast.specs.ValidDatabase.{IsValidDef}
use Rattle.statement_meaning.specs.Judged.{bad_length, column_limits, create_judged, dim_limits, long_key, long_name, text_named, text_names, text_types, types_named, twice_named, type_of}
use Rattle.statement_meaning.specs.Judging.{listed_names}
use Rattle.statement_meaning.proofs.CausesLemmas.{none_if, none_if_not, none_of_both}
use Rattle.mdc_ast.specs.TableLimits.{is_good_source}
use Rattle.mdc_ast.proofs.DefinitionsLemmas.{is_same-sym, neither}
use Rattle.mdc_ast.proofs.FitsLemmas.{bytes_eq-refl}
use Rattle.mdc_ast.proofs.TestsLemmas.{and_true, both, lt_is_true, some_is}

-- ---- names

apart : (x : Name) (earlier : List Name) (columns : List ColumnText) → ((c : Name) → is_among c earlier ≡ false → is_same c x ≡ false) → twice_named earlier columns ≡ [] → is_among x (column_names (map bound_column columns)) ≡ false
apart x earlier [] not_same e = refl
apart x earlier (column ∷ columns) not_same e =
    let causes = none_of_both (cause_if (is_among column.name earlier) (ColumnTwice column.name)) (twice_named (column.name ∷ earlier) columns) e in
    let rest : is_among x (column_names (map bound_column columns)) ≡ false = apart x (column.name ∷ earlier) columns (λ c is. not_same c (neither (is_same c column.name) (is_among c earlier) is).1) causes.1 in
    rw (is_same-sym x column.name ∙ not_same column.name (none_if _ _ causes.0)) rest

names_differ : (earlier : List Name) (columns : List ColumnText) → twice_named earlier columns ≡ [] → AllNamesDiffer (column_names (map bound_column columns))
names_differ earlier [] e = tt
names_differ earlier (column ∷ columns) e =
    let causes = none_of_both (cause_if (is_among column.name earlier) (ColumnTwice column.name)) (twice_named (column.name ∷ earlier) columns) e in
    (apart column.name (column.name ∷ earlier) columns (λ c is. (neither (is_same c column.name) (is_among c earlier) is).0) causes.1, names_differ (column.name ∷ earlier) columns causes.1)

-- ---- columns

pub is_short : (name : Name) → long_name name ≡ [] → IsShort name
is_short name e = at_most (length name.0) (none_if _ _ e)
  where
    at_most : (n : ℕ) → nat_lt 18 n ≡ false → n ≤ 18
    at_most n is = grind (arith, nat_tests, is)

is_good : (ty : TypeText) → bad_length ty ≡ [] → IsTrue (is_good_type (type_of ty))
is_good type.Integer e = refl
is_good type.Bigint e = refl
is_good (type.Char n) e = none_if_not _ _ e
is_good type.Date e = refl

-- what the limits of columns say, from place i on
pub record AreWithin (i : ℕ) (all columns : List ColumnText) : Type 0 where
  pub few : i + length columns ≤ 16
  pub short : AllByRecursion (λ column. IsShort column.name) (map bound_column columns)
  pub good : IsTrue (list_all (λ column. is_good_type column.ty) (map bound_column columns))
  pub narrow : row_width (text_types all) ≤ 1000

are_within : (i : ℕ) (all columns : List ColumnText) → i ≤ 16 → column_limits i all columns ≡ [] → AreWithin i all columns
are_within i all [] le e = record { few = omega (arith, le); short = tt; good = refl; narrow = at_most (row_width (text_types all)) (none_if _ _ e) }
  where
    at_most : (n : ℕ) → nat_lt 1000 n ≡ false → n ≤ 1000
    at_most n is = grind (arith, nat_tests, is)
are_within i all (column ∷ columns) le e =
    let rest = none_of_both (cause_if (i == 16) (Limit 16) ++ long_name column.name ++ bad_length column.ty) (column_limits (i + 1) all columns) e in
    let good = none_of_both (cause_if (i == 16) (Limit 16) ++ long_name column.name) (bad_length column.ty) rest.0 in
    let short = none_of_both (cause_if (i == 16) (Limit 16)) (long_name column.name) good.0 in
    let within : AreWithin (i + 1) all columns = are_within (i + 1) all columns (below i le (none_if _ _ short.0)) rest.1 in
    record {
      few = omega (arith, within.few);
      short = (is_short column.name short.1, within.short);
      good = and_true _ _ (is_good column.ty good.1) within.good;
      narrow = within.narrow;
    }
  where
    below : (i : ℕ) → i ≤ 16 → (i == 16) ≡ false → i + 1 ≤ 16
    below i le is = grind (arith, nat_tests, le, is)

column_types-map : (columns : List ColumnText) → column_types (map bound_column columns) ≡ text_types columns
column_types-map [] = refl
column_types-map (column ∷ columns) = ap (λ types. type_of column.ty ∷ types) (column_types-map columns)

-- ---- dimensions

few_dims : (i : ℕ) (columns : List ColumnText) (all : List Name) (dims : List (List Name)) → i ≤ 4 → dim_limits i columns all dims ≡ [] → i + length dims ≤ 4
few_dims i columns all [] le e = omega (arith, le)
few_dims i columns all (dim ∷ dims) le e =
    let rest = none_of_both (cause_if (i == 4) (Limit 4) ++ long_key columns dim) (dim_limits (i + 1) columns all dims) e in
    let first = none_of_both (cause_if (i == 4) (Limit 4)) (long_key columns dim) rest.0 in
    omega (arith, few_dims (i + 1) columns all dims (below i le (none_if _ _ first.0)) rest.1)
  where
    below : (i : ℕ) → i ≤ 4 → (i == 4) ≡ false → i + 1 ≤ 4
    below i le is = grind (arith, nat_tests, le, is)

-- each of the names is a column's
abbrev pub are_among : List Name → List Name → Bool
are_among columns names = list_all (λ name. is_among name columns) names

pub all_among : (columns earlier names : List Name) → listed_names columns earlier names ≡ [] → IsTrue (are_among columns names)
all_among columns earlier [] e = refl
all_among columns earlier (name ∷ names) e =
    let rest = none_of_both (cause_if (not (is_among name columns)) (NoColumn name) ++ cause_if (is_among name earlier) (ColumnTwice name)) (listed_names columns (name ∷ earlier) names) e in
    let first = none_of_both (cause_if (not (is_among name columns)) (NoColumn name)) (cause_if (is_among name earlier) (ColumnTwice name)) rest.0 in
    and_true _ _ (none_if_not _ _ first.0) (all_among columns (name ∷ earlier) names rest.1)

front_among : (columns a b : List Name) → IsTrue (are_among columns (a ++ b)) → IsTrue (are_among columns a) × IsTrue (are_among columns b)
front_among columns [] b h = (refl, h)
front_among columns (name ∷ a) b h =
    let parts : IsTrue (is_among name columns) × IsTrue (are_among columns (a ++ b)) = both _ _ h in
    let rest : IsTrue (are_among columns a) × IsTrue (are_among columns b) = front_among columns a b parts.1 in
    (and_true _ _ parts.0 rest.0, rest.1)

-- a name that is a column's, and the column that it names, of those from place i on
record IsNamed (name : Name) (columns : List ColumnText) (i : ℕ) : Type 0 where
  pub k : ℕ
  pub column : ColumnText
  pub placed : position_from (λ column. is_same name column.name) i columns ≡ Some (i + k)
  pub at : slice_get columns k ≡ Some column
  pub named : text_named columns name ≡ Some column
  pub same : IsTrue (is_same name column.name)

named_behind : (name : Name) (column : ColumnText) (columns : List ColumnText) (i : ℕ) → is_same name column.name ≡ false → IsNamed name columns (i + 1) → IsNamed name (column ∷ columns) i
named_behind name column columns i is found = record { k = suc found.k; column = found.column; placed = rw is (found.placed ∙ ap Some (omega arith)); at = found.at; named = rw is found.named; same = found.same }

is_named : (name : Name) (columns : List ColumnText) (i : ℕ) → IsTrue (is_among name (text_names columns)) → IsNamed name columns i
is_named name [] i h = cc
is_named name (column ∷ columns) i h = by_cases (is_same name column.name) refl (λ k. is_named name columns (i + 1) k)
  where
    by_cases : (b : Bool) → is_same name column.name ≡ b → (IsTrue (is_among name (text_names columns)) → IsNamed name columns (i + 1)) → IsNamed name (column ∷ columns) i
    by_cases true is rest = record { k = 0; column = column; placed = rw is (ap Some (omega arith)); at = refl; named = rw is refl; same = is }
    by_cases false is rest = named_behind name column columns i is (rest (subst (λ b. IsTrue (b || is_among name (text_names columns))) is h))

-- its place
text_place-k : (name : Name) (columns : List ColumnText) (found : IsNamed name columns 0) → text_place columns name ≡ found.k
text_place-k name columns found = ap (λ place. unwrap_or place 0) found.placed ∙ omega arith

pub within : {X : Type 0} (xs : List X) (i : ℕ) (x : X) → slice_get xs i ≡ Some x → i < length xs
within [] i x e = cc
within (y ∷ xs) zero x e = omega arith
within (y ∷ xs) (suc i) x e = omega (arith, within xs i x e)

length-map : {X Y : Type 0} (f : X → Y) (xs : List X) → length (map f xs) ≡ length xs
length-map f [] = refl
length-map f (x ∷ xs) = ap suc (length-map f xs)

dim_there : (columns : List ColumnText) (names : List Name) → IsTrue (are_among (text_names columns) names) → IsTrue (are_there (map bound_column columns) (map (text_place columns) names))
dim_there columns [] h = refl
dim_there columns (name ∷ names) h =
    let parts : IsTrue (is_among name (text_names columns)) × IsTrue (are_among (text_names columns) names) = both _ _ h in
    let found : IsNamed name columns 0 = is_named name columns 0 parts.0 in
    let below : text_place columns name < length (map bound_column columns) = rw (length-map bound_column columns, text_place-k name columns found) (within columns found.k found.column found.at) in
    and_true _ _ (lt_is_true (text_place columns name) (length (map bound_column columns)) below) (dim_there columns names parts.1)

dims_there : (columns : List ColumnText) (dims : List (List Name)) → IsTrue (are_among (text_names columns) (flat_map (λ dim. dim) dims)) → IsTrue (list_all (are_there (map bound_column columns)) (map (λ dim. map (text_place columns) dim) dims))
dims_there columns [] h = refl
dims_there columns (dim ∷ dims) h =
    let parts : IsTrue (are_among (text_names columns) dim) × IsTrue (are_among (text_names columns) (flat_map (λ dim. dim) dims)) = front_among (text_names columns) dim (flat_map (λ dim. dim) dims) h in
    and_true _ _ (dim_there columns dim parts.0) (dims_there columns dims parts.1)

-- the places of all dimensions are those of all their names
places_flat : (columns : List ColumnText) (dims : List (List Name)) → flat_map (λ dim. dim) (map (λ dim. map (text_place columns) dim) dims) ≡ map (text_place columns) (flat_map (λ dim. dim) dims)
places_flat columns [] = refl
places_flat columns (dim ∷ dims) = ap (λ rest. map (text_place columns) dim ++ rest) (places_flat columns dims) ∙ sym (map-append (text_place columns) dim (flat_map (λ dim. dim) dims))

-- ---- no column twice

pub bytes_eq_is : (xs ys : List ℕ) → IsTrue (bytes_eq xs ys) → xs ≡ ys
bytes_eq_is [] [] h = refl
bytes_eq_is [] (y ∷ ys) h = cc
bytes_eq_is (x ∷ xs) [] h = cc
bytes_eq_is (x ∷ xs) (y ∷ ys) h =
    let parts : IsTrue (x == y) × IsTrue (bytes_eq xs ys) = both _ _ h in
    cong (eqb_is x y parts.0) (bytes_eq_is xs ys parts.1)
  where
    eqb_is : (x y : ℕ) → IsTrue (x == y) → x ≡ y
    eqb_is x y e = grind (arith, nat_tests, e)

    cong : {x y : ℕ} {xs ys : List ℕ} → x ≡ y → xs ≡ ys → x ∷ xs ≡ y ∷ ys
    cong {x} {y} {xs} {ys} e f = ap (λ z. z ∷ xs) e ∙ ap (λ zs. y ∷ zs) f

-- two names of one column are the same
same_column : (a b : Name) (c d : ColumnText) → IsTrue (is_same a c.name) → IsTrue (is_same b d.name) → c ≡ d → IsTrue (is_same a b)
same_column a b c d h k e =
    let bytes : a.0 ≡ b.0 = bytes_eq_is a.0 c.name.0 h ∙ ap (λ column. column.name.0) e ∙ sym (bytes_eq_is b.0 d.name.0 k) in
    subst (λ other. IsTrue (bytes_eq a.0 other)) bytes (bytes_eq-refl a.0)

-- names that aren't the same have places that aren't
place_apart : (columns : List ColumnText) (a b : Name) → IsTrue (is_among a (text_names columns)) → IsTrue (is_among b (text_names columns)) → is_same a b ≡ false → (text_place columns b == text_place columns a) ≡ false
place_apart columns a b h k differ = by_cases (text_place columns b == text_place columns a) refl
  where
    first : IsNamed a columns 0
    first = is_named a columns 0 h

    second : IsNamed b columns 0
    second = is_named b columns 0 k

    one_place : IsTrue (text_place columns b == text_place columns a) → second.k ≡ first.k
    one_place e = grind (arith, nat_tests, e, text_place-k a columns first, text_place-k b columns second)

    by_cases : (t : Bool) → (text_place columns b == text_place columns a) ≡ t → (text_place columns b == text_place columns a) ≡ false
    by_cases false e = e
    by_cases true e =
        let same : first.column ≡ second.column = some_is first.column second.column (sym first.at ∙ ap (slice_get columns) (sym (one_place e)) ∙ second.at) in
        absurd (false≢true (sym differ ∙ same_column a b first.column second.column first.same second.same same))

-- names of which one stands twice nowhere have places of which none does, where names that aren't the same have places that aren't
module _ (columns : List Name) (place : Name → ℕ) (apart : (a b : Name) → IsTrue (is_among a columns) → IsTrue (is_among b columns) → is_same a b ≡ false → (place b == place a) ≡ false) where
  apart_places : (x : Name) (earlier names : List Name) → IsTrue (is_among x columns) → ((c : Name) → is_among c earlier ≡ false → is_same c x ≡ false) → listed_names columns earlier names ≡ [] → list_any (λ other. other == place x) (map place names) ≡ false
  apart_places x earlier [] there not_same e = refl
  apart_places x earlier (name ∷ names) there not_same e =
      let rest = none_of_both (cause_if (not (is_among name columns)) (NoColumn name) ++ cause_if (is_among name earlier) (ColumnTwice name)) (listed_names columns (name ∷ earlier) names) e in
      let first = none_of_both (cause_if (not (is_among name columns)) (NoColumn name)) (cause_if (is_among name earlier) (ColumnTwice name)) rest.0 in
      let apart_here : (place name == place x) ≡ false = apart x name there (none_if_not _ _ first.0) (is_same-sym x name ∙ not_same name (none_if _ _ first.1)) in
      rw apart_here (apart_places x (name ∷ earlier) names there (λ c is. not_same c (neither (is_same c name) (is_among c earlier) is).1) rest.1)

  pub places_differ : (earlier names : List Name) → listed_names columns earlier names ≡ [] → AllPlacesDiffer (map place names)
  places_differ earlier [] e = tt
  places_differ earlier (name ∷ names) e =
      let rest = none_of_both (cause_if (not (is_among name columns)) (NoColumn name) ++ cause_if (is_among name earlier) (ColumnTwice name)) (listed_names columns (name ∷ earlier) names) e in
      let first = none_of_both (cause_if (not (is_among name columns)) (NoColumn name)) (cause_if (is_among name earlier) (ColumnTwice name)) rest.0 in
      (apart_places name (name ∷ earlier) names (none_if_not _ _ first.0) (λ c is. (neither (is_same c name) (is_among c earlier) is).0) rest.1, places_differ (name ∷ earlier) names rest.1)

-- ---- keys

slice_get-map : {X Y : Type 0} (f : X → Y) (xs : List X) (i : ℕ) (x : X) → slice_get xs i ≡ Some x → slice_get (map f xs) i ≡ Some (f x)
slice_get-map f [] i x e = cc
slice_get-map f (y ∷ xs) zero x e = ap (λ z. Some (f z)) (some_is y x e)
slice_get-map f (y ∷ xs) (suc i) x e = slice_get-map f xs i x e

key_types : (columns : List ColumnText) (names : List Name) → IsTrue (are_among (text_names columns) names) → types_at (map bound_column columns) (map (text_place columns) names) ≡ types_named columns names
key_types columns [] h = refl
key_types columns (name ∷ names) h =
    let parts : IsTrue (is_among name (text_names columns)) × IsTrue (are_among (text_names columns) names) = both _ _ h in
    let found : IsNamed name columns 0 = is_named name columns 0 parts.0 in
    let at : slice_get (map bound_column columns) (text_place columns name) ≡ Some (bound_column found.column) = ap (slice_get (map bound_column columns)) (text_place-k name columns found) ∙ slice_get-map bound_column columns found.k found.column found.at in
    rw (at, found.named) (ap (λ types. type_of found.column.ty ∷ types) (key_types columns names parts.1))

short_key : (columns : List ColumnText) (names : List Name) → IsTrue (are_among (text_names columns) names) → long_key columns names ≡ [] → IsTrue (is_short_key (map bound_column columns) (map (text_place columns) names))
short_key columns names h e = rw (key_types columns names h) (at_most (key_width (types_named columns names)) (none_if _ _ e))
  where
    at_most : (n : ℕ) → nat_lt 128 n ≡ false → IsTrue (nat_le n 128)
    at_most n is = grind (arith, nat_tests, is)

-- the keys of the dimensions, and that of all of them
short_keys : (i : ℕ) (columns : List ColumnText) (all : List Name) (dims : List (List Name)) → IsTrue (are_among (text_names columns) (flat_map (λ dim. dim) dims)) → dim_limits i columns all dims ≡ [] → IsTrue (list_all (is_short_key (map bound_column columns)) (map (λ dim. map (text_place columns) dim) dims)) × (long_key columns all ≡ [])
short_keys i columns all [] h e = (refl, e)
short_keys i columns all (dim ∷ dims) h e =
    let parts : IsTrue (are_among (text_names columns) dim) × IsTrue (are_among (text_names columns) (flat_map (λ dim. dim) dims)) = front_among (text_names columns) dim (flat_map (λ dim. dim) dims) h in
    let rest = none_of_both (cause_if (i == 4) (Limit 4) ++ long_key columns dim) (dim_limits (i + 1) columns all dims) e in
    let first = none_of_both (cause_if (i == 4) (Limit 4)) (long_key columns dim) rest.0 in
    let others : IsTrue (list_all (is_short_key (map bound_column columns)) (map (λ dim. map (text_place columns) dim) dims)) × (long_key columns all ≡ []) = short_keys (i + 1) columns all dims parts.1 rest.1 in
    (and_true _ _ (short_key columns dim parts.0 first.1) others.0, others.1)

sources : (all : List ColumnDef) (columns : List ColumnText) → IsTrue (list_all (λ column. is_good_source all column.ty column.made) (map bound_column columns))
sources all [] = refl
sources all (column ∷ columns) = sources all columns

-- no form that is built makes a generated column
pub none_made : (columns : List ColumnText) → IsTrue (list_all (λ column. is_none column.made) (map bound_column columns))
none_made [] = refl
none_made (column ∷ columns) = none_made columns

-- ---- the table

pub created_is_valid : (defs : Definitions) (name : Name) (columns : List ColumnText) (dims : List (List Name)) (place : ℕ) → (create_judged defs name columns dims).columns ≡ [] → (create_judged defs name columns dims).limits ≡ [] → IsValidDef place (record (bound_table name columns dims) { number = place })
created_is_valid defs name columns dims place named limited =
    let flat : List Name = flat_map (λ dim. dim) dims in
    let rest = none_of_both (long_name name ++ cause_if (is_none (empty_place defs)) (Limit 16) ++ column_limits 0 columns columns) (dim_limits 0 columns flat dims) limited in
    let front = none_of_both (long_name name ++ cause_if (is_none (empty_place defs)) (Limit 16)) (column_limits 0 columns columns) rest.0 in
    let first = none_of_both (long_name name) (cause_if (is_none (empty_place defs)) (Limit 16)) front.0 in
    let names = none_of_both (twice_named [] columns) (listed_names (text_names columns) [] flat) named in
    let keys = short_keys 0 columns flat dims (all_among (text_names columns) [] flat names.1) rest.1 in
    let within : AreWithin 0 columns columns = are_within 0 columns columns (omega arith) front.1 in
    record {
      stands = refl;
      short = is_short name first.0;
      few = rw (length-map bound_column columns) (omega (arith, within.few));
      short_names = within.short;
      good_types = within.good;
      names_differ = names_differ [] columns names.0;
      narrow = rw (column_types-map columns) within.narrow;
      few_dims = rw (length-map (λ dim. map (text_place columns) dim) dims) (omega (arith, few_dims 0 columns flat dims (omega arith) rest.1));
      dims_there = dims_there columns dims (all_among (text_names columns) [] flat names.1);
      dims_apart = subst AllPlacesDiffer (sym (places_flat columns dims)) (places_differ (text_names columns) (text_place columns) (place_apart columns) [] flat names.1);
      short_keys = keys.0;
      short_composite = subst (λ places. IsTrue (is_short_key (map bound_column columns) places)) (sym (places_flat columns dims)) (short_key columns flat (all_among (text_names columns) [] flat names.1) keys.1);
      sources = sources (map bound_column columns) columns;
      few_indexes = omega arith;
      indexes = tt;
      few_rows = omega arith;
    }
