-- The names and the limits of a CREATE TABLE.
use Rattle.std.proofs.Common.{◌≡◌, ℕ, suc, ◌+◌, ◌<◌, ◌≤◌, List, [], ◌∷◌, ◌++◌, Bool, true, false, not, ◌==◌, ◌&&◌, ◌||◌, IsTrue, nat_le, Some, None, add-one, ap, arith, drop, drop-cons, get_or, length, map, refl, sym, take, ◌∙◌}
use Rattle.std.specs.Prelude.{flat_map, is_none}
use Rattle.std.specs.List.{list_all}
use Rattle.std.proofs.lemmas.Bool.Decides.{nat_tests}
use Rattle.std.proofs.Math.ListN.{get_or-map}
use Rattle.std.proofs.lemmas.List.{drop_all, map-append, take_more}
use Rattle.mdc_ast.specs.declared.name.Name.{Name}
use Rattle.mdc_ast.specs.declared.statement.ColumnText.{ColumnText}
use Rattle.mdc_ast.specs.declared.statement.TypeText.{TypeText}
use Rattle.mdc_ast.specs.declared.statement.TypeText.TheVariants as type
use Rattle.statement_meaning.specs.Cause.{Cause, ColumnTwice, Limit, cause_if}
use Rattle.mdc_ast.specs.Definitions.{Definitions, empty_place, is_among, is_same}
use Rattle.statement_meaning.specs.Judged.{bad_length, column_limits, create_judged, dim_limits, long_name, text_names, twice_named}
use Rattle.statement_meaning.specs.Judging.{Judged, in_order}
use Rattle.binder.specs.Bounded.{is_short_char}
use Rattle.binder.specs.Knowing.{Knows}
use Rattle.binder.specs.Saying.{first_of}
use Rattle.binder.specs.declared.known_names.KnownNames.{KnownNames}
use Rattle.binder.proofs.ColumnLemmas.{is_among-last}

-- ---- names

twice_named-same : (a b : List Name) (columns : List ColumnText) → ((n : Name) → is_among n a ≡ is_among n b) → twice_named a columns ≡ twice_named b columns
twice_named-same a b [] same = refl
twice_named-same a b (column ∷ columns) same =
    rw (same column.name, twice_named-same (column.name ∷ a) (column.name ∷ b) columns (λ n. ap (λ among. is_same n column.name || among) (same n))) refl

text_names-more : (columns : List ColumnText) (i : ℕ) (column : ColumnText) → i < length columns → column ≡ get_or columns i column
    → text_names (take (i + 1) columns) ≡ text_names (take i columns) ++ column.name ∷ []
text_names-more columns i column lt at =
    ap text_names (take_more columns i column lt ∙ ap (λ c. take i columns ++ c ∷ []) (sym at)) ∙ map-append (λ c. c.name) (take i columns) (column ∷ [])

twice_named-step : (columns : List ColumnText) (i : ℕ) (column : ColumnText) → i < length columns → column ≡ get_or columns i column
    → twice_named (text_names (take i columns)) (drop i columns)
    ≡ cause_if (is_among column.name (text_names (take i columns))) (ColumnTwice column.name) ++ twice_named (text_names (take (i + 1) columns)) (drop (i + 1) columns)
twice_named-step columns i column lt at =
    let tail : drop i columns ≡ column ∷ drop (i + 1) columns = rw (drop-cons columns i column, add-one) (ap (λ c. c ∷ drop (suc i) columns) (sym at)) in
    rw tail (ap (λ rest. cause_if (is_among column.name (text_names (take i columns))) (ColumnTwice column.name) ++ rest)
    (twice_named-same (column.name ∷ text_names (take i columns)) (text_names (take (i + 1) columns)) (drop (i + 1) columns)
    (λ n. is_among-last (text_names (take i columns)) column.name n ∙ ap (is_among n) (sym (text_names-more columns i column lt at)))))

pub twice_named-here : (columns : List ColumnText) (i : ℕ) (column : ColumnText) → i < length columns → column ≡ get_or columns i column
    → is_among column.name (text_names (take i columns)) ≡ true → first_of (twice_named (text_names (take i columns)) (drop i columns)) ≡ Some (ColumnTwice column.name)
twice_named-here columns i column lt at twice = rw (twice_named-step columns i column lt at, twice) refl

pub twice_named-next : (columns : List ColumnText) (i : ℕ) (column : ColumnText) → i < length columns → column ≡ get_or columns i column
    → is_among column.name (text_names (take i columns)) ≡ false
    → first_of (twice_named (text_names (take i columns)) (drop i columns)) ≡ first_of (twice_named (text_names (take (i + 1) columns)) (drop (i + 1) columns))
twice_named-next columns i column lt at once = rw (twice_named-step columns i column lt at, once) refl

pub twice_named-end : (earlier : List Name) (columns : List ColumnText) (i : ℕ) → length columns ≤ i → first_of (twice_named earlier (drop i columns)) ≡ None
twice_named-end earlier columns i le = rw (drop_all i columns) refl

-- names are known in any order
pub knows-last : (set : KnownNames) (names : List Name) (name : Name) → Knows set (name ∷ names) → Knows set (names ++ name ∷ [])
knows-last set names name knows = λ n. knows n ∙ is_among-last names name n

pub knows-more : (set : KnownNames) (columns : List ColumnText) (i : ℕ) (column : ColumnText) → i < length columns → column ≡ get_or columns i column
    → Knows set (column.name ∷ text_names (take i columns)) → Knows set (text_names (take (i + 1) columns))
knows-more set columns i column lt at knows =
    λ n. knows-last set (text_names (take i columns)) column.name knows n ∙ ap (is_among n) (sym (text_names-more columns i column lt at))

-- a name that is lent from a list of lent names
pub lent-at : {B X : Type 0} (now : B → X) (xs : List B) (i : ℕ) (x : B) → x ≡ get_or xs i x → now x ≡ get_or (map now xs) i (now x)
lent-at now xs i x at = ap now at ∙ sym (get_or-map now xs i x)

pub knows-next : (set : KnownNames) (names : List Name) (i : ℕ) (name : Name) → i < length names → name ≡ get_or names i name
    → Knows set (name ∷ take i names) → Knows set (take (i + 1) names)
knows-next set names i name lt at knows =
    let more : take (i + 1) names ≡ take i names ++ name ∷ [] = take_more names i name lt ∙ ap (λ n. take i names ++ n ∷ []) (sym at) in
    λ n. knows-last set (take i names) name knows n ∙ ap (is_among n) (sym more)

-- ---- limits

front-nothing : (xs ys : List Cause) → xs ++ ys ≡ [] → xs ≡ []
front-nothing [] ys e = refl
front-nothing (x ∷ xs) ys e = cc

back-nothing : (xs ys : List Cause) → xs ++ ys ≡ [] → ys ≡ []
back-nothing [] ys e = e
back-nothing (x ∷ xs) ys e = cc

no_cause : (b : Bool) (cause : Cause) → cause_if b cause ≡ [] → b ≡ false
no_cause true cause e = cc
no_cause false cause e = refl

short-char : (ty : TypeText) → bad_length ty ≡ [] → IsTrue (is_short_char ty)
short-char type.Integer e = refl
short-char type.Bigint e = refl
short-char type.Date e = refl
short-char (type.Char n) e =
    let good : not (nat_le 1 n && nat_le n 254) ≡ false = no_cause (not (nat_le 1 n && nat_le n 254)) (Limit 254) e in
    grind (arith, nat_tests, good)

both-true : (a b : Bool) → IsTrue a → IsTrue b → IsTrue (a && b)
both-true true b h k = k
both-true false b h k = h

-- the columns within the limits are few, and their texts short
within_limits : (i : ℕ) (all columns : List ColumnText) → i ≤ 16 → column_limits i all columns ≡ [] → (i + length columns ≤ 16) × IsTrue (list_all (λ column. is_short_char column.ty) columns)
within_limits i all [] le e = (omega arith, refl)
within_limits i all (column ∷ columns) le e =
    let place : List Cause = cause_if (i == 16) (Limit 16) in
    let name : List Cause = long_name column.name in
    let char : List Cause = bad_length column.ty in
    let front : place ++ name ++ char ≡ [] = front-nothing (place ++ name ++ char) (column_limits (i + 1) all columns) e in
    let other : (i == 16) ≡ false = no_cause (i == 16) (Limit 16) (front-nothing place name (front-nothing (place ++ name) char front)) in
    let few : i + 1 ≤ 16 = grind (arith, nat_tests, other, le) in
    let rest = within_limits (i + 1) all columns few (back-nothing (place ++ name ++ char) (column_limits (i + 1) all columns) e) in
    (omega (arith, rest.0), both-true (is_short_char column.ty) _ (short-char column.ty (back-nothing (place ++ name) char front)) rest.1)

-- binding needs this of a CREATE TABLE against which nothing is said
pub bounded : (defs : Definitions) (name : Name) (columns : List ColumnText) (dims : List (List Name)) → in_order (create_judged defs name columns dims) ≡ []
    → (length columns ≤ 16) × IsTrue (list_all (λ column. is_short_char column.ty) columns)
bounded defs name columns dims e =
    let j : Judged = create_judged defs name columns dims in
    let limits : j.limits ≡ [] = back-nothing (j.names ++ j.columns ++ j.types) j.limits (front-nothing (j.names ++ j.columns ++ j.types ++ j.limits) j.values e) in
    let before : List Cause = long_name name ++ cause_if (is_none (empty_place defs)) (Limit 16) in
    let front : before ++ column_limits 0 columns columns ≡ [] =
    front-nothing (before ++ column_limits 0 columns columns) (dim_limits 0 columns (flat_map (λ dim. dim) dims) dims) limits in
    let all = within_limits 0 columns columns (omega arith) (back-nothing before (column_limits 0 columns columns) front) in
    (omega (arith, all.0), all.1)
