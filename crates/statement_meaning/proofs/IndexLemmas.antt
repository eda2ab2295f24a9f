-- A record index that a CREATE INDEX makes is valid, where nothing is said against it.
use Rattle.std.proofs.Common.{◌≡◌, ℕ, suc, ◌+◌, ◌<◌, List, [], ◌∷◌, ◌++◌, length, map, Bool, true, false, Some, refl, sym, ap, subst, ◌∙◌, arith}
use Rattle.std.specs.Prelude.{IsTrue, ◌==◌, ◌||◌, nat_lt, nat_le, option_and_then, slice_get, unwrap_or}
use Rattle.std.specs.List.{position_from}
use Rattle.std.proofs.lemmas.Bool.{false≢true}
use Rattle.std.proofs.lemmas.Bool.Decides.{nat_tests}
use Rattle.mdc_ast.specs.declared.definition.ColumnDef.{ColumnDef}
use Rattle.mdc_ast.specs.declared.definition.IndexDef.{IndexDef}
use Rattle.mdc_ast.specs.declared.definition.TableDef.{TableDef}
use Rattle.mdc_ast.specs.declared.name.Name.{Name}
use Rattle.mdc_ast.specs.declared.statement.KeyText.{KeyText}
use Rattle.mdc_ast.specs.Definitions.{AllPlacesDiffer, Definitions, are_there, column_named, column_names, is_among, is_same, is_short_key, key_width, places_of, types_at}
use Rattle.mdc_ast.specs.ValidDatabase.{IsValidIndex}
use Rattle.mdc_ast.proofs.DefinitionsLemmas.{is_same-sym}
use Rattle.mdc_ast.proofs.FitsLemmas.{bytes_eq-refl}
use Rattle.mdc_ast.proofs.TestsLemmas.{and_true, both, lt_is_true, some_is}
use Rattle.statement_meaning.specs.Binding.{bound_index, bound_key, the_place}
use Rattle.statement_meaning.specs.Cause.{Limit, cause_if}
use Rattle.statement_meaning.specs.Judged.{index_judged, long_name, long_parts, part_names, types_of}
use Rattle.statement_meaning.proofs.CausesLemmas.{none_if, none_of_both}
use Rattle.statement_meaning.proofs.CreateLemmas.{all_among, are_among, bytes_eq_is, is_short, places_differ, within}

-- ---- one column

-- a column of that name, of those from place i on
record IsNamed (name : Name) (columns : List ColumnDef) (i : ℕ) : Type 0 where
  pub k : ℕ
  pub column : ColumnDef
  pub placed : position_from (λ column. is_same column.name name) i columns ≡ Some (i + k)
  pub at : slice_get columns k ≡ Some column
  pub same : IsTrue (is_same column.name name)

named_behind : (name : Name) (column : ColumnDef) (columns : List ColumnDef) (i : ℕ) → is_same column.name name ≡ false → IsNamed name columns (i + 1) → IsNamed name (column ∷ columns) i
named_behind name column columns i is found = record { k = suc found.k; column = found.column; placed = rw is (found.placed ∙ ap Some (omega arith)); at = found.at; same = found.same }

is_named : (name : Name) (columns : List ColumnDef) (i : ℕ) → IsTrue (is_among name (column_names columns)) → IsNamed name columns i
is_named name [] i h = cc
is_named name (column ∷ columns) i h = by_cases (is_same column.name name) refl (λ k. is_named name columns (i + 1) k)
  where
    by_cases : (b : Bool) → is_same column.name name ≡ b → (IsTrue (is_among name (column_names columns)) → IsNamed name columns (i + 1)) → IsNamed name (column ∷ columns) i
    by_cases true is rest = record { k = 0; column = column; placed = rw is (ap Some (omega arith)); at = refl; same = is }
    by_cases false is rest =
        named_behind name column columns i is (rest (subst (λ b. IsTrue (b || is_among name (column_names columns))) (is_same-sym name column.name ∙ is) h))

place_is : (columns : List ColumnDef) (name : Name) (found : IsNamed name columns 0) → the_place columns name ≡ found.k
place_is columns name found = ap (λ place. unwrap_or place 0) found.placed ∙ omega arith

named_is : (columns : List ColumnDef) (name : Name) (found : IsNamed name columns 0) → column_named columns name ≡ Some found.column
named_is columns name found = ap (option_and_then (slice_get columns)) (found.placed ∙ ap Some (omega arith)) ∙ found.at

at_place : (columns : List ColumnDef) (name : Name) (found : IsNamed name columns 0) → slice_get columns (the_place columns name) ≡ Some found.column
at_place columns name found = ap (slice_get columns) (place_is columns name found) ∙ found.at

-- ---- all parts

parts_there : (columns : List ColumnDef) (names : List Name) → IsTrue (are_among (column_names columns) names) → IsTrue (are_there columns (map (the_place columns) names))
parts_there columns [] h = refl
parts_there columns (name ∷ names) h =
    let parts : IsTrue (is_among name (column_names columns)) × IsTrue (are_among (column_names columns) names) = both _ _ h in
    let found : IsNamed name columns 0 = is_named name columns 0 parts.0 in
    and_true _ _ (lt_is_true (the_place columns name) (length columns) (within columns (the_place columns name) found.column (at_place columns name found))) (parts_there columns names parts.1)

same_column : (a b : Name) (c d : ColumnDef) → IsTrue (is_same c.name a) → IsTrue (is_same d.name b) → c ≡ d → IsTrue (is_same a b)
same_column a b c d h k e =
    let bytes : a.0 ≡ b.0 = sym (bytes_eq_is c.name.0 a.0 h) ∙ ap (λ column. column.name.0) e ∙ bytes_eq_is d.name.0 b.0 k in
    subst (λ other. IsTrue (is_same a (record { 0 = other }))) bytes (bytes_eq-refl a.0)

-- names that aren't the same have places that aren't
place_apart : (columns : List ColumnDef) (a b : Name) → IsTrue (is_among a (column_names columns)) → IsTrue (is_among b (column_names columns)) → is_same a b ≡ false → (the_place columns b == the_place columns a) ≡ false
place_apart columns a b h k differ = by_cases (the_place columns b == the_place columns a) refl
  where
    first : IsNamed a columns 0
    first = is_named a columns 0 h

    second : IsNamed b columns 0
    second = is_named b columns 0 k

    one_place : IsTrue (the_place columns b == the_place columns a) → the_place columns b ≡ the_place columns a
    one_place e = grind (arith, nat_tests, e)

    by_cases : (t : Bool) → (the_place columns b == the_place columns a) ≡ t → (the_place columns b == the_place columns a) ≡ false
    by_cases false e = e
    by_cases true e =
        let same : first.column ≡ second.column = some_is first.column second.column (sym (at_place columns a first) ∙ ap (slice_get columns) (sym (one_place e)) ∙ at_place columns b second) in
        absurd (false≢true (sym differ ∙ same_column a b first.column second.column first.same second.same same))

part_types : (columns : List ColumnDef) (names : List Name) → IsTrue (are_among (column_names columns) names) → types_at columns (map (the_place columns) names) ≡ types_of columns names
part_types columns [] h = refl
part_types columns (name ∷ names) h =
    let parts : IsTrue (is_among name (column_names columns)) × IsTrue (are_among (column_names columns) names) = both _ _ h in
    let found : IsNamed name columns 0 = is_named name columns 0 parts.0 in
    rw (at_place columns name found, named_is columns name found) (ap (λ types. found.column.ty ∷ types) (part_types columns names parts.1))

short_parts : (columns : List ColumnDef) (names : List Name) → IsTrue (are_among (column_names columns) names) → long_parts columns names ≡ [] → IsTrue (is_short_key columns (map (the_place columns) names))
short_parts columns names h e = rw (part_types columns names h) (at_most (key_width (types_of columns names)) (none_if _ _ e))
  where
    at_most : (n : ℕ) → nat_lt 128 n ≡ false → IsTrue (nat_le n 128)
    at_most n is = grind (arith, nat_tests, is)

-- the places of the parts are those of their names
bound_places : (columns : List ColumnDef) (parts : List KeyText) → places_of (map (bound_key columns) parts) ≡ map (the_place columns) (part_names parts)
bound_places columns [] = refl
bound_places columns (part ∷ parts) = ap (λ places. the_place columns part.column ∷ places) (bound_places columns parts)

-- ---- the index

-- the table has room for one more, and the new one is valid
pub record MayHaveIndex (def : TableDef) (index : IndexDef) : Type 0 where
  pub few : length def.indexes < 8
  pub valid : IsValidIndex def.columns index

pub created_index : (defs : Definitions) (name : Name) (unique : Bool) (parts : List KeyText) (def : TableDef) → (index_judged defs name parts def).columns ≡ [] → (index_judged defs name parts def).limits ≡ []
    → MayHaveIndex def (bound_index def.columns name unique parts)
created_index defs name unique parts def named limited =
    let names : List Name = part_names parts in
    let rest = none_of_both (long_name name ++ cause_if (nat_le 8 (length def.indexes)) (Limit 8)) (long_parts def.columns names) limited in
    let front = none_of_both (long_name name) (cause_if (nat_le 8 (length def.indexes)) (Limit 8)) rest.0 in
    let among : IsTrue (are_among (column_names def.columns) names) = all_among (column_names def.columns) [] names named in
    let places : map (the_place def.columns) names ≡ places_of (map (bound_key def.columns) parts) = sym (bound_places def.columns parts) in
    record {
      few = fewer (length def.indexes) (none_if _ _ front.1);
      valid = record {
        short = is_short name front.0;
        there = subst (λ p. IsTrue (are_there def.columns p)) places (parts_there def.columns names among);
        apart = subst AllPlacesDiffer places (places_differ (column_names def.columns) (the_place def.columns) (place_apart def.columns) [] names named);
        short_key = subst (λ p. IsTrue (is_short_key def.columns p)) places (short_parts def.columns names among rest.1);
      };
    }
  where
    fewer : (n : ℕ) → nat_le 8 n ≡ false → n < 8
    fewer n is = grind (arith, nat_tests, is)
