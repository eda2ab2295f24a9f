-- Tables of built forms: they have no generated column, so that less holds each database together.
use Rattle.std.proofs.Common.{◌≡◌, ℕ, zero, suc, List, [], ◌∷◌, true, subst}
use Rattle.std.specs.Prelude.{IsTrue, is_none, Option, Some, None, slice_set}
use Rattle.std.specs.List.{AllByRecursion, list_all}
use Rattle.mdc_values.specs.declared.value.Value.{Value}
use Rattle.mdc_ast.specs.declared.definition.ColumnDef.{ColumnDef}
use Rattle.mdc_ast.specs.declared.definition.GenExpr.{GenExpr}
use Rattle.mdc_ast.specs.declared.definition.TableDef.{TableDef}
use Rattle.mdc_ast.specs.declared.row.Row.{Row}
use Rattle.mdc_ast.specs.Database.{PlainTable, fits_all}
use Rattle.mdc_ast.specs.Definitions.{Definitions, def_at}
use Rattle.mdc_ast.specs.FittingRows.{AreMadeFrom, IsMadeFrom, RowFits}
use Rattle.mdc_ast.specs.ValidDatabase.{IsUniqueIn, IsValidTable, RiseFrom}
use Rattle.mdc_ast.proofs.TestsLemmas.{and_true, both, some_is}
use Rattle.statement_meaning.specs.Built.{are_built, is_built_place}

-- ---- one table

not_made : (made : Option GenExpr) (all : List Value) (value : Value) → IsTrue (is_none made) → IsMadeFrom made all value
not_made None all value h = tt
not_made (Some e) all value h = cc

-- where no column is generated each value is right
pub none_generated : (all : List Value) (columns : List ColumnDef) (values : List Value) → IsTrue (list_all (λ column. is_none column.made) columns) → AreMadeFrom all columns values
none_generated all [] values h = tt
none_generated all (column ∷ columns) [] h = tt
none_generated all (column ∷ columns) (value ∷ values) h =
    let parts = both (is_none column.made) (list_all (λ c. is_none c.made) columns) h in
    (not_made column.made all value parts.0, none_generated all columns values parts.1)

-- rows that fit the columns fit the definition
pub rows_fit : (def : TableDef) (rows : List Row) → is_built_place (Some def) ≡ true → AllByRecursion (λ row. IsTrue (fits_all def.columns row.values)) rows → AllByRecursion (RowFits def) rows
rows_fit def [] built fit = tt
rows_fit def (row ∷ rows) built fit =
    (record { values = fit.0; generated = none_generated row.values def.columns row.values built }, rows_fit def rows built fit.1)

-- and the other way round
pub values_fit : (def : TableDef) (rows : List Row) → AllByRecursion (RowFits def) rows → AllByRecursion (λ row. IsTrue (fits_all def.columns row.values)) rows
values_fit def [] fit = tt
values_fit def (row ∷ rows) fit = (fit.0.values, values_fit def rows fit.1)

-- rows that rise, fit the columns and keep the UNIQUE indexes are those of a valid table
pub is_valid_table : (table : PlainTable) → is_built_place (Some table.def) ≡ true → RiseFrom 0 table.rows table.def.next
    → AllByRecursion (λ row. IsTrue (fits_all table.def.columns row.values)) table.rows → AllByRecursion (IsUniqueIn table.rows) table.def.indexes → IsValidTable table
is_valid_table table built rising fit unique = record { rising = rising; fitting = rows_fit table.def table.rows built fit; unique = unique }

-- ---- all tables

first_built : (place : Option TableDef) (defs : Definitions) → are_built (place ∷ defs) ≡ true → (is_built_place place ≡ true) × (are_built defs ≡ true)
first_built place defs built = both (is_built_place place) (are_built defs) built

-- a place of built definitions has one
pub built_at : (defs : Definitions) (place : ℕ) (def : TableDef) → are_built defs ≡ true → def_at defs place ≡ Some def → is_built_place (Some def) ≡ true
built_at [] place def built at = absurd (cc at)
built_at (None ∷ defs) zero def built at = absurd (cc at)
built_at (Some first ∷ defs) zero def built at = subst (λ d. is_built_place (Some d) ≡ true) (some_is first def at) (first_built (Some first) defs built).0
built_at (first ∷ defs) (suc place) def built at = built_at defs place def (first_built first defs built).1 at

-- another built one in a place
pub built_put : (defs : Definitions) (place : ℕ) (def : Option TableDef) → are_built defs ≡ true → is_built_place def ≡ true → are_built (slice_set defs place def) ≡ true
built_put [] place def built is = built
built_put (first ∷ defs) zero def built is = and_true (is_built_place def) (are_built defs) is (first_built first defs built).1
built_put (first ∷ defs) (suc place) def built is =
    let parts = first_built first defs built in
    and_true (is_built_place first) (are_built (slice_set defs place def)) parts.0 (built_put defs place def parts.1 is)
