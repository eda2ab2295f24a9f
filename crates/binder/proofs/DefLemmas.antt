-- Tables of a valid catalog have few columns, no two of one name, and few record indexes.
use Rattle.std.proofs.Common.{◌≡◌, ℕ, zero, suc, ◌+◌, ◌<◌, ◌≤◌, [], ◌∷◌, Option, Some, None, IfSome, MatchOption, arith, length, option_and_then, subst, sym}
use Rattle.std.proofs.lemmas.Option.{none-some, same_Some}
use Rattle.mdc_ast.specs.declared.definition.TableDef.{TableDef}
use Rattle.mdc_ast.specs.declared.name.Name.{Name}
use Rattle.mdc_ast.specs.Definitions.{AllNamesDiffer, Definitions, column_names, def_at, def_named, index_place_of, place_of}
use Rattle.mdc_ast.specs.ValidDatabase.{AreValidDefs, AreValidFrom, IsValidDef, IsValidPlace}
use Rattle.statement_meaning.proofs.IndexNamesLemmas.{IsIndexAt, found_index}

-- ---- what holds of each valid definition holds of those that are found

found_at_place : (Holds : TableDef → Type 0) → ((place : ℕ) (def : TableDef) → IsValidDef place def → Holds def) → (place : ℕ) (old : Option TableDef) (def : TableDef) → IsValidPlace place old → old ≡ Some def → Holds def
found_at_place Holds each place None def valid e = absurd (none-some def e)
found_at_place Holds each place (Some old) def valid e = subst Holds (same_Some old def e) (each place old valid)

found_at : (Holds : TableDef → Type 0) → ((place : ℕ) (def : TableDef) → IsValidDef place def → Holds def) → (from : ℕ) (defs : Definitions) (i : ℕ) (def : TableDef) → AreValidFrom from defs → def_at defs i ≡ Some def → Holds def
found_at Holds each from [] i def valid e = absurd (none-some def e)
found_at Holds each from (old ∷ defs) zero def valid e = found_at_place Holds each from old def valid.0 e
found_at Holds each from (old ∷ defs) (suc i) def valid e = found_at Holds each (from + 1) defs i def valid.1 e

found : (Holds : TableDef → Type 0) → ((place : ℕ) (def : TableDef) → IsValidDef place def → Holds def) → (defs : Definitions) (place : Option ℕ) (def : TableDef) → AreValidFrom 0 defs → option_and_then (def_at defs) place ≡ Some def → Holds def
found Holds each defs None def valid e = absurd (none-some def e)
found Holds each defs (Some place) def valid e = found_at Holds each 0 defs place def valid e

-- the table of a name has at most 16 columns
pub few_columns : {B : Type 0} (now : B → TableDef) (result : Option B) (defs : Definitions) (name : Name) → AreValidDefs defs
    → MatchOption result (def_named defs name ≡ None) (λ def. def_named defs name ≡ Some (now def)) → IfSome result (λ def. length (now def).columns ≤ 16)
few_columns now None defs name valid found_here = tt
few_columns now (Some def) defs name valid found_here = found (λ d. length d.columns ≤ 16) (λ place d ok. ok.few) defs (place_of defs name) (now def) valid.each found_here

-- the columns of the table of a name have different names
pub names_differ : {B : Type 0} (now : B → TableDef) (result : Option B) (defs : Definitions) (name : Name) → AreValidDefs defs
    → MatchOption result (def_named defs name ≡ None) (λ def. def_named defs name ≡ Some (now def)) → IfSome result (λ def. AllNamesDiffer (column_names (now def).columns))
names_differ now None defs name valid found_here = tt
names_differ now (Some def) defs name valid found_here = found (λ d. AllNamesDiffer (column_names d.columns)) (λ place d ok. ok.names_differ) defs (place_of defs name) (now def) valid.each found_here

-- a record index that is found is one of at most 8
pub few_indexes : (result : Option (ℕ × ℕ)) (defs : Definitions) (name : Name) → AreValidDefs defs → result ≡ index_place_of defs name → IfSome result (λ at. at.1 < 8)
few_indexes None defs name valid is = tt
few_indexes (Some (table, index)) defs name valid is =
    let there : IsIndexAt defs table index = found_index defs name table index (sym is) in
    let few : length there.def.indexes ≤ 8 = found_at (λ d. length d.indexes ≤ 8) (λ place d ok. ok.few_indexes) 0 defs table there.def valid.each there.at in
    omega (arith, few, there.within)
