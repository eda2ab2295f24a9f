-- A table with one record index more or less: its definition, its trees, and the plain table.
use Rattle.std.specs.Prelude.{◌<◌, ℕ, [], ◌∷◌, ◌++◌, length, remove, slice_index_or}
use Rattle.mdc_ast.specs.Definitions.{with_index, without_index}
use Rattle.mdc_ast.specs.declared.definition.IndexDef.{IndexDef}
use Rattle.mdc_ast.specs.declared.definition.TableDef.{TableDef}
use Rattle.mdc_ast.specs.Database.{PlainTable}
use Rattle.mdc_ast.specs.TableLimits.{IsGoodIndex}
use Rattle.entry_tree.specs.Forest.{Forest}
use Rattle.entry_tree.specs.Forest.Forest.{Nil}
use Rattle.mdc_sound.specs.StandsForDatabase.{rootless_index}
use Rattle.mdc_sound.specs.TableViews.{TableView}

-- ---- definitions

-- the table may have this record index besides: it has fewer than 8, and the index is one that statements can make
pub record TakesIndex (def : TableDef) (index : IndexDef) : Type 0 where
  pub few : length def.indexes < 8
  pub good : IsGoodIndex def.columns index

-- a record index with its root
abbrev pub rooted_index : IndexDef → ℕ → IndexDef
rooted_index index root = record index { root = root }

-- ---- trees

-- the table with a record index and its tree more, behind its others
abbrev pub view_with_index : TableView → IndexDef → Forest → TableView
view_with_index table index tree = record table { def = with_index table.def index; indexes = table.indexes ++ tree ∷ [] }

-- the tree of a record index of the table, by its place among them
abbrev pub index_tree : TableView → ℕ → Forest
index_tree table place = slice_index_or table.indexes place Nil

-- the table without a record index and its tree
abbrev pub view_without_index : TableView → ℕ → TableView
view_without_index table place = record table { def = without_index table.def place; indexes = remove table.indexes place }

-- ---- plain tables

-- the plain table with a record index more, which has no root there, and the rows that it had
abbrev pub plain_with_index : IndexDef → PlainTable → PlainTable
plain_with_index index table = record table { def = with_index table.def (rootless_index index) }

-- the plain table without a record index, and the rows that it had
abbrev pub plain_without_index : ℕ → PlainTable → PlainTable
plain_without_index place table = record table { def = without_index table.def place }
