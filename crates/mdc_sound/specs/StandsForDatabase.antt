-- What pages stand for: a plain database. It looks at no block index and no record index.
use Rattle.std.specs.Prelude.{◌≡◌, ◌<◌, ◌==◌, if◌then◌else◌, ℕ, [], filter, map, not, Option, Some, None, IsPermutation, AllPairs}
use Rattle.std.specs.List.{AllZip, range_with_len}
use Rattle.mdc_ast.specs.declared.definition.IndexDef.{IndexDef}
use Rattle.mdc_ast.specs.declared.definition.TableDef.{TableDef}
use Rattle.mdc_ast.specs.declared.row.Row.{Row}
use Rattle.mdc_ast.specs.Database.{Database, PlainTable}
use Rattle.store_api.specs.StoreState.{zero_page}
use Rattle.store_api.specs.declared.shape.Shape.{Shape}
use Rattle.entry_tree.specs.Forest.{Forest}
use Rattle.mdc_sound.specs.TablePages.{DefinesTable, table_page_at}
use Rattle.mdc_sound.specs.TableRows.{rows_in_table}
use Rattle.table_trees.specs.TableTrees.{map_place}
use Rattle.table_trees.specs.ToldPages.{HasTree, PageList}

-- a record index without its root
abbrev pub rootless_index : IndexDef → IndexDef
rootless_index index = record index { root = 0 }

-- a definition without roots, as the plain database has it
abbrev pub rootless : TableDef → TableDef
rootless def = record def { roots = record { map = 0; composite = 0; dims = [] }; indexes = map rootless_index def.indexes }

-- Table t of these pages is this plain table: its page defines it, and its rows are those in the filled slots of its Used
-- blocks, by rising row number.
pub record HoldsTable (shape : Shape) (pages : PageList) (t : ℕ) (table : PlainTable) : Type 0 where
  pub def : TableDef
  pub map_tree : Forest
  pub defines : DefinesTable pages t def
  pub has_map : HasTree pages (map_place def) map_tree
  pub def_is : table.def ≡ rootless def
  pub same_rows : IsPermutation (map (λ placed. placed.row) (rows_in_table shape pages def map_tree)) table.rows
  pub rising : AllPairs (λ a b. a.number < b.number) table.rows

-- table page t has what stands in this place: zeros alone for no table
abbrev pub HoldsPlace : Shape → PageList → ℕ → Option PlainTable → Type 0
HoldsPlace shape pages t None = table_page_at pages t ≡ zero_page
HoldsPlace shape pages t (Some table) = HoldsTable shape pages t table

-- the pages stand for this database, whose 16 places are their table pages
abbrev pub PagesStandFor : Shape → PageList → Database → Type 0
PagesStandFor shape pages db = AllZip (HoldsPlace shape pages) (range_with_len 0 16) db

-- ---- one row more, less, or another, in the words of plain tables

-- the table without the row of this number
abbrev pub without_row : ℕ → PlainTable → PlainTable
without_row number table = record table { rows = filter (λ row. not (row.number == number)) table.rows }

-- the table with this row in the place of the one that has its number
abbrev pub with_row : Row → PlainTable → PlainTable
with_row other table = record table { rows = map (λ row. if row.number == other.number then other else row) table.rows }
