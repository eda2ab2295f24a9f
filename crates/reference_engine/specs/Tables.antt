-- The tables of a plain database: definitions, and the rows of each place.
use Rattle.std.specs.Prelude.{◌≡◌, ℕ, List, [], ◌∷◌, length, None, option_map, slice_get, unwrap_or}
use Rattle.mdc_ast.specs.declared.definition.TableDef.{TableDef}
use Rattle.mdc_ast.specs.declared.row.Row.{Row}
use Rattle.mdc_ast.specs.Database.{Database, PlainTable}
use Rattle.mdc_ast.specs.Definitions.{Definitions, def_at}

-- a table of this definition, with these rows
abbrev pub table_with : List Row → TableDef → PlainTable
table_with rows def = record { def = def; rows = rows }

-- the database of these definitions and rows, place by place
abbrev pub tables_of : Definitions → List (List Row) → Database
tables_of [] rows = []
tables_of (def ∷ defs) [] = option_map (table_with []) def ∷ tables_of defs []
tables_of (def ∷ defs) (rows ∷ others) = option_map (table_with rows) def ∷ tables_of defs others

-- the rows in a place
abbrev pub rows_in : List (List Row) → ℕ → List Row
rows_in rows place = unwrap_or (slice_get rows place) []

-- 16 places, of which an empty one has no rows
pub record AreTables (defs : Definitions) (rows : List (List Row)) : Type 0 where
  pub places : length defs ≡ 16
  pub rooms : length rows ≡ 16
  pub cleared : (place : ℕ) → def_at defs place ≡ None → rows_in rows place ≡ []

-- ---- a table changed

-- a table with other rows
abbrev pub with_rows : List Row → PlainTable → PlainTable
with_rows rows table = record table { rows = rows }

-- a table whose next row has another number
abbrev pub with_next : ℕ → PlainTable → PlainTable
with_next next table = record table { def = record table.def { next = next } }
