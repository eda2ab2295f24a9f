-- In rows of a valid table no two have equal keys in a UNIQUE index, as the keys are judged.
use Rattle.std.proofs.Common.{◌≡◌, ◌<◌, ℕ, zero, suc, List, [], ◌∷◌, Bool, true, false, length, arith, refl, sym, ap, ◌∙◌}
use Rattle.std.specs.Prelude.{IsTrue, AllPairs, flat_map, ◌&&◌, ◌||◌, not, nat_le, slice_index_or}
use Rattle.std.specs.List.{AllByRecursion}
use Rattle.std.proofs.lemmas.Bool.Decides.{Decides-eqb, Decides-int_eq}
use Rattle.std.proofs.lemmas.Slice.Eq.{bytes_eq-Decides}
use Rattle.mdc_values.specs.declared.value.ColType.{ColType}
use Rattle.mdc_values.specs.declared.value.ColType.TheVariants.{Char}
use Rattle.mdc_values.specs.declared.value.Value.{Value}
use Rattle.mdc_values.specs.declared.value.Value.TheVariants.{Null, Int, Text, Day}
use Rattle.mdc_values.specs.Value.{are_bytes, trimmed}
use Rattle.mdc_ast.specs.declared.definition.ColumnDef.{ColumnDef}
use Rattle.mdc_ast.specs.declared.definition.IndexDef.{IndexDef}
use Rattle.mdc_ast.specs.declared.definition.KeyPart.{KeyPart}
use Rattle.mdc_ast.specs.declared.row.Row.{Row}
use Rattle.mdc_ast.specs.Database.{fits, fits_all, is_null, is_of_type, is_trimmed}
use Rattle.mdc_ast.specs.Truth.{value_at}
use Rattle.mdc_ast.specs.ValidDatabase.{AreSameAtParts, IsUniqueIn}
use Rattle.mdc_ast.proofs.TestsLemmas.{both}
use Rattle.row_groups.specs.Numbers.{values_of}
use Rattle.row_groups.specs.Values.{belong_together}
use Rattle.statement_meaning.specs.Cause.{DuplicateKey, cause_if}
use Rattle.statement_meaning.specs.Doing.{twin_causes}
use Rattle.statement_meaning.specs.Keys.{are_twins, has_twin, have_twins}

-- ---- values

-- no blank ends it, if it is a text
abbrev is_plain : Value → Bool
is_plain (Text text) = is_trimmed text
is_plain value = true

plain_of_type : (ty : ColType) (value : Value) → IsTrue (is_of_type ty value) → IsTrue (is_plain value)
plain_of_type ty Null h = refl
plain_of_type ty (Int n) h = refl
plain_of_type (Char n) (Text text) h = (both (nat_le (length text) n) (is_trimmed text) (both (nat_le (length text) n && is_trimmed text) (are_bytes text) h).0).1
plain_of_type ty (Text text) h = cc
plain_of_type ty (Day day) h = refl

-- each value of a row that fits is so
plain_at : (columns : List ColumnDef) (values : List Value) (place : ℕ) → IsTrue (fits_all columns values) → IsTrue (is_plain (value_at values place))
plain_at columns [] place h = refl
plain_at [] (value ∷ values) place h = cc
plain_at (column ∷ columns) (value ∷ values) zero h =
    plain_of_type column.ty value (both (is_of_type column.ty value) (not (column.not_null && is_null value)) (both (fits column value) (fits_all columns values) h).0).0
plain_at (column ∷ columns) (value ∷ values) (suc place) h = plain_at columns values place (both (fits column value) (fits_all columns values) h).1

-- such values are equal where they belong together
same_if_together : (a b : Value) → IsTrue (is_plain a) → IsTrue (is_plain b) → belong_together a b ≡ true → a ≡ b
same_if_together Null Null p q e = refl
same_if_together (Int m) (Int n) p q e = ap Int ((Decides-int_eq m n).0 e)
same_if_together (Text s) (Text t) p q e =
    ap Text (sym ((bytes_eq-Decides (trimmed s) s).0 p) ∙ (bytes_eq-Decides (trimmed s) (trimmed t)).0 e ∙ (bytes_eq-Decides (trimmed t) t).0 q)
same_if_together (Day d) (Day e) p q same = ap Day ((Decides-eqb d e).0 same)
same_if_together a b p q e = cc

-- rows that fit have the same values in the columns of a key where they have equal keys
pub same_if_twins : (columns : List ColumnDef) (parts : List KeyPart) (a b : List Value) → IsTrue (fits_all columns a) → IsTrue (fits_all columns b) → are_twins parts a b ≡ true → AreSameAtParts parts a b
same_if_twins columns [] a b p q e = tt
same_if_twins columns (part ∷ parts) a b p q e =
    let each = both (belong_together (value_at a part.column) (value_at b part.column)) (are_twins parts a b) e in
    (same_if_together (value_at a part.column) (value_at b part.column) (plain_at columns a part.column p) (plain_at columns b part.column q) each.0, same_if_twins columns parts a b p q each.1)

-- ---- rows

pub tail_pairs : {X : Type 0} (R : X → X → Type 0) (x : X) (xs : List X) → AllPairs R (x ∷ xs) → AllPairs R xs
tail_pairs R x xs all i j d lt low = all (suc i) (suc j) d (omega arith) (omega arith)

pub head_pairs : {X : Type 0} (R : X → X → Type 0) (x : X) (xs : List X) → AllPairs R (x ∷ xs) → (j : ℕ) → j < length xs → R x (slice_index_or xs j x)
head_pairs R x xs all j low = all 0 (suc j) x (omega arith) (omega arith)

pub each_place : {X : Type 0} (P : X → Type 0) (d : X) (xs : List X) → ((j : ℕ) → j < length xs → P (slice_index_or xs j d)) → AllByRecursion P xs
each_place P d [] at = tt
each_place P d (x ∷ xs) at = (at 0 (omega arith), each_place P d xs (λ j low. at (suc j) (omega arith)))

no_twin : (columns : List ColumnDef) (parts : List KeyPart) (row : Row) (rows : List Row) → IsTrue (fits_all columns row.values) → AllByRecursion (λ other. IsTrue (fits_all columns other.values)) rows
    → AllByRecursion (λ other. AreSameAtParts parts row.values other.values → ⊥) rows → has_twin parts (values_of rows) row.values ≡ false
no_twin columns parts row [] fit all apart = refl
no_twin columns parts row (other ∷ rows) fit all apart =
    by_test (are_twins parts row.values other.values) refl (no_twin columns parts row rows fit all.1 apart.1)
  where
    by_test : (b : Bool) → are_twins parts row.values other.values ≡ b → has_twin parts (values_of rows) row.values ≡ false → (b || has_twin parts (values_of rows) row.values) ≡ false
    by_test true e rest = absurd (apart.0 (same_if_twins columns parts row.values other.values fit all.0 e))
    by_test false e rest = rest

-- rows that fit, no two of which have the same values in the columns of a key, have keys of their own
pub none_twins : (columns : List ColumnDef) (parts : List KeyPart) (rows : List Row) → AllByRecursion (λ row. IsTrue (fits_all columns row.values)) rows
    → AllPairs (λ a b. AreSameAtParts parts a.values b.values → ⊥) rows → have_twins parts (values_of rows) ≡ false
none_twins columns parts [] fit apart = refl
none_twins columns parts (row ∷ rows) fit apart =
    let R : Row → Row → Type 0 = λ a b. AreSameAtParts parts a.values b.values → ⊥ in
    rw (no_twin columns parts row rows fit.0 fit.1 (each_place (R row) row rows (head_pairs R row rows apart)), none_twins columns parts rows fit.1 (tail_pairs R row rows apart)) refl

one_says_nothing : (columns : List ColumnDef) (rows : List Row) (index : IndexDef) → AllByRecursion (λ row. IsTrue (fits_all columns row.values)) rows → IsUniqueIn rows index → twin_causes (values_of rows) index ≡ []
one_says_nothing columns rows index fit unique = by_test index.unique refl
  where
    by_test : (b : Bool) → index.unique ≡ b → cause_if (b && have_twins index.parts (values_of rows)) (DuplicateKey index.name) ≡ []
    by_test true is = ap (λ twins. cause_if twins (DuplicateKey index.name)) (none_twins columns index.parts rows fit (unique is))
    by_test false is = refl

-- rows that fit and keep the UNIQUE indexes are said nothing against
pub unique_says_nothing : (columns : List ColumnDef) (rows : List Row) (indexes : List IndexDef) → AllByRecursion (λ row. IsTrue (fits_all columns row.values)) rows → AllByRecursion (IsUniqueIn rows) indexes
    → flat_map (twin_causes (values_of rows)) indexes ≡ []
unique_says_nothing columns rows [] fit unique = refl
unique_says_nothing columns rows (index ∷ indexes) fit unique =
    rw (one_says_nothing columns rows index fit unique.0, unique_says_nothing columns rows indexes fit unique.1) refl
