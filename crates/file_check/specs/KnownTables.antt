-- What is known of a table with this block map when the rules on what lies in it are judged.
use Rattle.std.specs.Prelude.{Contains, ℕ}
use Rattle.std.specs.List.{AllByRecursion}
use Rattle.mdc_ast.specs.declared.definition.TableDef.{TableDef}
use Rattle.store_api.specs.declared.shape.Shape.{Shape}
use Rattle.entry_tree.specs.Forest.{Forest}
use Rattle.block_map.specs.MapLines.{map_lines, used_blocks}
use Rattle.table_trees.specs.ToldPages.{HasTree, PageList}
use Rattle.mdc_sound.specs.BlockRules.{AreBlockRowsSound, IsOfOneCell}
use Rattle.file_check.specs.BlocksJudged.{IsLineCounted}
use Rattle.file_check.specs.Known.{HasBlockMap}
use Rattle.file_check.specs.TableIndexes.{PlacedIndex, indexes_of_kind}
use Rattle.file_check.specs.declared.table_index.IndexKind.{IndexKind}

-- its indexes of a kind stand
abbrev pub StandIndexes : IndexKind → PageList → TableDef → Type 0
StandIndexes kind pages def = (index : PlacedIndex) → Contains (indexes_of_kind kind def) index → (tree : Forest) × HasTree pages index.place tree

-- its block map and its indexes stand
pub record TableHasTrees (shape : Shape) (pages : PageList) (def : TableDef) (map_tree : Forest) : Type 0 where
  pub map : HasBlockMap shape pages def map_tree
  pub indexes : (kind : IndexKind) → StandIndexes kind pages def

-- and the pages of its Used blocks are row pages whose rows fit
pub record TableHasRows (shape : Shape) (pages : PageList) (def : TableDef) (map_tree : Forest) : Type 0 where
  pub trees : TableHasTrees shape pages def map_tree
  pub rows : (block : ℕ) → Contains (used_blocks map_tree) block → AreBlockRowsSound shape pages def block

-- and its rows are counted right, and those of a block are of one cell
pub record TableHasCells (shape : Shape) (pages : PageList) (def : TableDef) (map_tree : Forest) : Type 0 where
  pub rows : TableHasRows shape pages def map_tree
  pub counts : AllByRecursion (IsLineCounted shape pages def) (map_lines map_tree)
  pub cells : AllByRecursion (IsOfOneCell shape pages def) (used_blocks map_tree)

-- pages tell a table's block map, its trees, and its rows too
abbrev pub TellsMap : Shape → TableDef → PageList → Type 0
TellsMap shape def pages = (map_tree : Forest) × HasBlockMap shape pages def map_tree

abbrev pub TellsTrees : Shape → TableDef → PageList → Type 0
TellsTrees shape def pages = (map_tree : Forest) × TableHasTrees shape pages def map_tree

abbrev pub TellsTable : Shape → TableDef → PageList → Type 0
TellsTable shape def pages = (map_tree : Forest) × TableHasRows shape pages def map_tree
