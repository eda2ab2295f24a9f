-- A valid database is valid once one of its places holds another table, or none.
use Rattle.std.proofs.Common.{true, ◌≡◌, ℕ, zero, suc, ◌+◌, [], ◌∷◌, refl, ap, subst, ◌∙◌, arith}
use Rattle.std.specs.Prelude.{Option, Some, None, flat_map, option_map, slice_set}
use Rattle.std.specs.List.{AllByRecursion}
use Rattle.mdc_ast.specs.declared.definition.TableDef.{TableDef}
use Rattle.mdc_ast.specs.ValidDatabase.{AreValidRows, IsValidTable, AreValidFrom, IsValidDef, IsValidPlace, index_names}
use Rattle.mdc_ast.specs.Database.{Database, PlainTable, changed_at, defs_of, table_at, with_place}
use Rattle.mdc_ast.specs.Definitions.{AllNamesDiffer, Definitions, def_at}
use Rattle.statement_meaning.specs.Built.{IsBuiltDatabase, are_built, is_built_place}
use Rattle.statement_meaning.proofs.BuiltLemmas.{built_at, built_put}
use Rattle.statement_meaning.proofs.IndexNamesLemmas.{IsThinner, names_put}
use Rattle.mdc_ast.proofs.DefinitionsLemmas.{IsFreeBut, own_name, put_keeps_defs}
use Rattle.mdc_ast.proofs.TestsLemmas.{some_is}

-- the definition of a table
abbrev pub def_of : Option PlainTable → Option TableDef
def_of table = option_map (λ table. table.def) table

defs_of-with_place : (db : Database) (place : ℕ) (new : Option PlainTable) → defs_of (with_place db place new) ≡ slice_set (defs_of db) place (def_of new)
defs_of-with_place [] place new = refl
defs_of-with_place (table ∷ db) zero new = refl
defs_of-with_place (table ∷ db) (suc place) new = ap (λ defs. def_of table ∷ defs) (defs_of-with_place db place new)

rows_put : (db : Database) (place : ℕ) (new : Option PlainTable) → AllByRecursion AreValidRows db → AreValidRows new → AllByRecursion AreValidRows (with_place db place new)
rows_put [] place new valid is = valid
rows_put (table ∷ db) zero new valid is = (is, valid.1)
rows_put (table ∷ db) (suc place) new valid is = (valid.0, rows_put db place new valid.1 is)

-- another table of a built form, or none, in a place
pub with_place_keeps : (db : Database) (place : ℕ) (new : Option PlainTable) → IsBuiltDatabase db → is_built_place (def_of new) ≡ true → IsValidPlace place (def_of new) → AreValidRows new
    → IsFreeBut (defs_of db) place (def_of new) → AllNamesDiffer (flat_map index_names (slice_set (defs_of db) place (def_of new))) → IsBuiltDatabase (with_place db place new)
with_place_keeps db place new was is def rows free names =
    let built : are_built (slice_set (defs_of db) place (def_of new)) ≡ true = built_put (defs_of db) place (def_of new) was.built is in
    record {
      valid = record {
        defs = rw (defs_of-with_place db place new) (put_keeps_defs (defs_of db) place (def_of new) was.valid.defs def free names);
        tables = rows_put db place new was.valid.tables rows;
      };
      built = rw (defs_of-with_place db place new) built;
    }

-- ---- the table at a place

pub def_at-defs_of : (db : Database) (place : ℕ) → def_at (defs_of db) place ≡ def_of (table_at db place)
def_at-defs_of [] place = refl
def_at-defs_of (None ∷ db) zero = refl
def_at-defs_of (Some table ∷ db) zero = refl
def_at-defs_of (table ∷ db) (suc place) = def_at-defs_of db place

def_is_valid : (from : ℕ) (defs : Definitions) (place : ℕ) (def : TableDef) → AreValidFrom from defs → def_at defs place ≡ Some def → IsValidDef (from + place) def
def_is_valid from [] place def valid at = cc
def_is_valid from (None ∷ defs) zero def valid at = cc
def_is_valid from (Some d ∷ defs) zero def valid at = subst (λ x. IsValidDef (from + 0) x) (some_is d def at) (subst (λ n. IsValidDef n d) (omega arith) valid.0)
def_is_valid from (d ∷ defs) (suc place) def valid at = subst (λ n. IsValidDef n def) (omega arith) (def_is_valid (from + 1) defs place def valid.1 at)

pub rows_are_valid : (db : Database) (place : ℕ) (table : PlainTable) → AllByRecursion AreValidRows db → table_at db place ≡ Some table → IsValidTable table
rows_are_valid [] place table valid at = cc
rows_are_valid (None ∷ db) zero table valid at = cc
rows_are_valid (Some t ∷ db) zero table valid at = subst IsValidTable (some_is t table at) valid.0
rows_are_valid (t ∷ db) (suc place) table valid at = rows_are_valid db place table valid.1 at

-- what holds of the table at a place of a valid database of built forms
pub record IsValidAt (db : Database) (place : ℕ) (table : PlainTable) : Type 0 where
  pub def : IsValidDef place table.def
  pub rows : IsValidTable table
  pub built : is_built_place (Some table.def) ≡ true

pub is_valid_at : (db : Database) (place : ℕ) (table : PlainTable) → IsBuiltDatabase db → table_at db place ≡ Some table → IsValidAt db place table
is_valid_at db place table is at = record {
  def = subst (λ n. IsValidDef n table.def) (omega arith) (def_is_valid 0 (defs_of db) place table.def is.valid.defs.each (def_at-defs_of db place ∙ ap def_of at));
  rows = rows_are_valid db place table is.valid.tables at;
  built = built_at (defs_of db) place table.def is.built (def_at-defs_of db place ∙ ap def_of at);
}

-- ---- a table changed

pub changed_at-with_place : (db : Database) (place : ℕ) (table : PlainTable) (change : PlainTable → PlainTable) → table_at db place ≡ Some table → changed_at db place change ≡ with_place db place (Some (change table))
changed_at-with_place [] place table change at = cc
changed_at-with_place (None ∷ db) zero table change at = cc
changed_at-with_place (Some t ∷ db) zero table change at = ap (λ x. Some (change x) ∷ db) (some_is t table at)
changed_at-with_place (t ∷ db) (suc place) table change at = ap (λ rest. t ∷ rest) (changed_at-with_place db place table change at)

pub changed_at-none : (db : Database) (place : ℕ) (change : PlainTable → PlainTable) → table_at db place ≡ None → changed_at db place change ≡ db
changed_at-none [] place change at = refl
changed_at-none (None ∷ db) zero change at = refl
changed_at-none (Some t ∷ db) zero change at = cc
changed_at-none (t ∷ db) (suc place) change at = ap (λ rest. t ∷ rest) (changed_at-none db place change at)

-- what is there, once the table is changed
pub table_at-changed : (db : Database) (place : ℕ) (table : PlainTable) (change : PlainTable → PlainTable) → table_at db place ≡ Some table → table_at (changed_at db place change) place ≡ Some (change table)
table_at-changed [] place table change at = absurd (cc at)
table_at-changed (None ∷ db) zero table change at = absurd (cc at)
table_at-changed (Some t ∷ db) zero table change at = ap (λ x. Some (change x)) (some_is t table at)
table_at-changed (t ∷ db) (suc place) table change at = table_at-changed db place table change at

-- the definition there
pub def_there : (db : Database) (place : ℕ) (table : PlainTable) → table_at db place ≡ Some table → def_at (defs_of db) place ≡ Some table.def
def_there db place table at = def_at-defs_of db place ∙ ap def_of at

-- a table of the same name in the place of one, where no name of an index stands twice
pub changed_names_keep : (db : Database) (place : ℕ) (table : PlainTable) (change : PlainTable → PlainTable) → IsBuiltDatabase db → table_at db place ≡ Some table → (change table).def.name ≡ table.def.name
    → is_built_place (Some (change table).def) ≡ true → IsValidDef place (change table).def → IsValidTable (change table) → AllNamesDiffer (flat_map index_names (slice_set (defs_of db) place (Some (change table).def)))
    → IsBuiltDatabase (changed_at db place change)
changed_names_keep db place table change was at name is def rows names =
    rw (changed_at-with_place db place table change at)
    (with_place_keeps db place (Some (change table)) was is def rows (rw name (own_name (defs_of db) place table.def was.valid.defs.differ (def_there db place table at))) names)

-- a table of the same name, with no more record indexes, in the place of one
pub changed_at_keeps : (db : Database) (place : ℕ) (table : PlainTable) (change : PlainTable → PlainTable) → IsBuiltDatabase db → table_at db place ≡ Some table → (change table).def.name ≡ table.def.name
    → IsThinner (index_names (Some (change table).def)) (index_names (Some table.def)) → is_built_place (Some (change table).def) ≡ true → IsValidDef place (change table).def → IsValidTable (change table) → IsBuiltDatabase (changed_at db place change)
changed_at_keeps db place table change was at name thin is def rows =
    changed_names_keep db place table change was at name is def rows (names_put (defs_of db) place table.def (change table).def (def_there db place table at) thin was.valid.defs.index_names_differ)
