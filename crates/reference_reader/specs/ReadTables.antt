-- What the reference reader answers: the tables that the pages stand for.
use Rattle.std.specs.Prelude.{◌≡◌, ◌==◌, ◌<◌, ◌≤◌, ◌+◌, ℕ, List, [], ◌∷◌, length, map, slice_index_or, Option, Some, None, option_map, IsPermutation, AllPairs, Contains}
use Rattle.std.specs.List.{count_by}
use Rattle.mdc_ast.specs.declared.definition.TableDef.{TableDef}
use Rattle.mdc_ast.specs.declared.row.Row.{Row}
use Rattle.mdc_ast.specs.Database.{Database, PlainTable}
use Rattle.store_api.specs.StoreState.{zero_page}
use Rattle.store_api.specs.declared.shape.Shape.{Shape}
use Rattle.entry_tree.specs.Forest.{Forest}
use Rattle.block_map.specs.MapLines.{used_blocks}
use Rattle.table_trees.specs.TableTrees.{map_place}
use Rattle.table_trees.specs.ToldPages.{HasTree, PageList}
use Rattle.mdc_sound.specs.StandsForDatabase.{rootless}
use Rattle.mdc_sound.specs.TablePages.{DefinesTable, table_page_at}
use Rattle.mdc_sound.specs.TableRows.{rows_in_table}
use Rattle.reference_reader.specs.ReadPages.{HasRowPages}
use Rattle.reference_reader.specs.declared.table.ReadTable.{ReadTable}

-- the plain table that was read: its definition without roots, and its rows
abbrev pub plain_table : ReadTable → PlainTable
plain_table table = record { def = rootless table.def; rows = table.rows }

-- the plain database that was read
abbrev pub plain_database : List (Option ReadTable) → Database
plain_database tables = map (option_map plain_table) tables

-- ---- rows

-- the rows in slots, in order
abbrev pub rows_in_slots : List (Option Row) → List Row
rows_in_slots [] = []
rows_in_slots (None ∷ slots) = rows_in_slots slots
rows_in_slots (Some row ∷ slots) = row ∷ rows_in_slots slots

-- the rows of a table, as they lie in its Used blocks
abbrev pub rows_as_they_lie : Shape → PageList → TableDef → Forest → List Row
rows_as_they_lie shape pages def map_tree = map (λ placed. placed.row) (rows_in_table shape pages def map_tree)

-- each row number is below those behind it
abbrev pub DoNumbersRise : List Row → Type 0
DoNumbersRise rows = AllPairs (λ a b. a.number < b.number) rows

-- how many rows have a number
abbrev pub times_numbered : ℕ → List Row → ℕ
times_numbered n rows = count_by (λ row. row.number == n) rows

-- a number that two rows have
abbrev pub IsNumberTwice : List Row → Type 0
IsNumberTwice rows = (n : ℕ) × (2 ≤ times_numbered n rows)

-- a row whose number isn't above that of the row before it
abbrev pub IsFall : List Row → ℕ → Type 0
IsFall rows i = (i + 1 < length rows) × ((d : Row) → (slice_index_or rows (i + 1) d).number ≤ (slice_index_or rows i d).number)

-- ---- tables

-- What was read of table t: the definition of its page, and by rising number the rows of its Used blocks, by whatever tree its
-- block map is. The pages of these blocks are row pages.
pub record ReadsTable (shape : Shape) (pages : PageList) (t : ℕ) (table : ReadTable) : Type 0 where
  pub defines : DefinesTable pages t table.def
  pub same_rows : (map_tree : Forest) → HasTree pages (map_place table.def) map_tree → IsPermutation (rows_as_they_lie shape pages table.def map_tree) table.rows
  pub row_pages : (map_tree : Forest) (block : ℕ) → HasTree pages (map_place table.def) map_tree → Contains (used_blocks map_tree) block → HasRowPages shape pages table.def block
  pub rising : DoNumbersRise table.rows

-- what was read of a place: no table where its page has zeros alone
abbrev pub ReadsPlace : Shape → PageList → ℕ → Option ReadTable → Type 0
ReadsPlace shape pages t None = table_page_at pages t ≡ zero_page
ReadsPlace shape pages t (Some table) = ReadsTable shape pages t table
