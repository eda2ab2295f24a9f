-- An instance: a database of two tables in 16 extents of 2 pages, with three cells and two nulls, worked out by hand.
use Rattle.std.specs.Prelude.{ℕ, pos, true, false, List, [], ◌∷◌, ◌++◌, replicate, Some, None}
use Rattle.mdc_values.specs.declared.value.ColType.TheVariants.{Integer}
use Rattle.mdc_values.specs.declared.value.Value.TheVariants.{Null, Int}
use Rattle.mdc_words.specs.ByteOrder.{Entry}
use Rattle.mdc_ast.specs.declared.definition.ColumnDef.{ColumnDef}
use Rattle.mdc_ast.specs.declared.definition.TableDef.{TableDef}
use Rattle.mdc_ast.specs.declared.row.Row.{Row}
use Rattle.mdc_ast.specs.Database.{Database}
use Rattle.store_api.specs.StoreState.{zero_page}
use Rattle.extent_map.specs.Map.{map_page}
use Rattle.extent_map.specs.declared.kind.Kind.{Kind}
use Rattle.extent_map.specs.declared.kind.Kind.TheVariants.{Free, Block, Index}
use Rattle.node_page.specs.Node.{filled_page, node_bytes}
use Rattle.node_page.specs.Node.Node.{LeafNode}
use Rattle.entry_tree.specs.Forest.Forest.{Leaf, Nil}
use Rattle.table_page.specs.TablePage.{table_page}
use Rattle.table_trees.specs.ToldPages.{PageList}
use Rattle.mdc_sound.specs.SpaceRules.{DatabaseView, stated_root}
use Rattle.mdc_sound.specs.StandsForDatabase.{rootless}
use Rattle.mdc_sound.specs.TableViews.{TableView}

-- ---- the tables

-- an INTEGER column whose name is one letter
abbrev pub integer_column : ℕ → ColumnDef
integer_column letter = record { name = record { 0 = letter ∷ [] }; ty = Integer; not_null = false; made = None }

-- table T of A and B, by A, with a UNIQUE index I on B
abbrev pub def_t : TableDef
def_t = record {
  number = 0;
  name = record { 0 = 84 ∷ [] };
  columns = integer_column 65 ∷ integer_column 66 ∷ [];
  dims = (0 ∷ []) ∷ [];
  indexes = record { name = record { 0 = 73 ∷ [] }; unique = true; parts = record { column = 1; descending = false } ∷ []; root = 21 } ∷ [];
  next = 4;
  roots = record { map = 18; composite = 19; dims = 20 ∷ [] };
}

-- table U of C, by C
abbrev pub def_u : TableDef
def_u = record {
  number = 1;
  name = record { 0 = 85 ∷ [] };
  columns = integer_column 67 ∷ [];
  dims = (0 ∷ []) ∷ [];
  indexes = [];
  next = 2;
  roots = record { map = 22; composite = 23; dims = 24 ∷ [] };
}

-- row 1 of T, (1, 10), in the first slot of block 4
abbrev pub row_ten : Row
row_ten = record { number = 1; values = Int (pos 1) ∷ Int (pos 10) ∷ [] }

-- row 3 of T, (1, null), in the second slot of block 4
abbrev pub row_without : Row
row_without = record { number = 3; values = Int (pos 1) ∷ Null ∷ [] }

-- row 2 of T, (null, 7), in block 5: its number lies between those in block 4
abbrev pub row_null : Row
row_null = record { number = 2; values = Null ∷ Int (pos 7) ∷ [] }

-- row 1 of U, (5), in block 6
abbrev pub row_five : Row
row_five = record { number = 1; values = Int (pos 5) ∷ [] }

-- ---- the entries of the trees

-- blocks 4 and 5 are Used, with two rows and one
abbrev pub lines_t : List Entry
lines_t = (0 ∷ 0 ∷ 0 ∷ 4 ∷ 1 ∷ 0 ∷ 2 ∷ []) ∷ (0 ∷ 0 ∷ 0 ∷ 5 ∷ 1 ∷ 0 ∷ 1 ∷ []) ∷ []

-- block 4 under 1, and block 5 under null
abbrev pub cells_t : List Entry
cells_t = (0 ∷ 128 ∷ 0 ∷ 0 ∷ 1 ∷ 0 ∷ 0 ∷ 0 ∷ 4 ∷ []) ∷ (1 ∷ 0 ∷ 0 ∷ 0 ∷ 0 ∷ 0 ∷ 0 ∷ 0 ∷ 5 ∷ []) ∷ []

-- the rows under 7, 10 and null
abbrev pub rows_t : List Entry
rows_t = (0 ∷ 128 ∷ 0 ∷ 0 ∷ 7 ∷ 0 ∷ 0 ∷ 0 ∷ 5 ∷ 0 ∷ 0 ∷ []) ∷ (0 ∷ 128 ∷ 0 ∷ 0 ∷ 10 ∷ 0 ∷ 0 ∷ 0 ∷ 4 ∷ 0 ∷ 0 ∷ [])
    ∷ (1 ∷ 0 ∷ 0 ∷ 0 ∷ 0 ∷ 0 ∷ 0 ∷ 0 ∷ 4 ∷ 0 ∷ 1 ∷ []) ∷ []

-- block 6 is Used, with one row
abbrev pub lines_u : List Entry
lines_u = (0 ∷ 0 ∷ 0 ∷ 6 ∷ 1 ∷ 0 ∷ 1 ∷ []) ∷ []

-- block 6 under 5
abbrev pub cells_u : List Entry
cells_u = (0 ∷ 128 ∷ 0 ∷ 0 ∷ 5 ∷ 0 ∷ 0 ∷ 0 ∷ 6 ∷ []) ∷ []

-- ---- the pages

-- three full index extents, one with one page in use, two blocks of T, one of U, and free extents
abbrev pub small_owners : List Kind
small_owners = Index 3 ∷ Index 3 ∷ Index 3 ∷ Index 1 ∷ Block 0 ∷ Block 0 ∷ Block 1 ∷ replicate 9 Free

-- a row page of T, which has 225 slots: how many rows it states, its first byte of slot bits, and the bytes of the first slots
abbrev pub page_of_t : ℕ → ℕ → List ℕ → List ℕ
page_of_t rows bits slots = filled_page ((82 ∷ 80 ∷ 0 ∷ 225 ∷ 0 ∷ rows ∷ []) ++ replicate 10 0 ++ (bits ∷ []) ++ replicate 28 0 ++ slots)

-- the same of U, which has 288 slots
abbrev pub page_of_u : ℕ → ℕ → List ℕ → List ℕ
page_of_u rows bits slots = filled_page ((82 ∷ 80 ∷ 1 ∷ 32 ∷ 0 ∷ rows ∷ []) ++ replicate 10 0 ++ (bits ∷ []) ++ replicate 35 0 ++ slots)

-- a row as bytes: a number below 256, null bits below 256, and what its columns have
abbrev pub slot_of : ℕ → ℕ → List ℕ → List ℕ
slot_of number nulls columns = (0 ∷ 0 ∷ 0 ∷ 0 ∷ 0 ∷ 0 ∷ 0 ∷ number ∷ 0 ∷ nulls ∷ []) ++ columns

-- the root page, 16 table pages, the map, seven leaves that are roots, an unused index page, and two pages a block
abbrev pub small_pages : PageList
small_pages =
    stated_root 32 ∷ table_page def_t ∷ table_page def_u ∷ replicate 14 zero_page
    ++ map_page small_owners 0
    ∷ node_bytes 7 (LeafNode lines_t) ∷ node_bytes 9 (LeafNode cells_t) ∷ node_bytes 9 (LeafNode cells_t) ∷ node_bytes 11 (LeafNode rows_t)
    ∷ node_bytes 7 (LeafNode lines_u) ∷ node_bytes 9 (LeafNode cells_u) ∷ node_bytes 9 (LeafNode cells_u) ∷ zero_page
    ∷ page_of_t 2 192 (slot_of 1 0 (0 ∷ 0 ∷ 0 ∷ 1 ∷ 0 ∷ 0 ∷ 0 ∷ 10 ∷ []) ++ slot_of 3 2 (0 ∷ 0 ∷ 0 ∷ 1 ∷ 0 ∷ 0 ∷ 0 ∷ 0 ∷ [])) ∷ page_of_t 0 0 []
    ∷ page_of_t 1 128 (slot_of 2 1 (0 ∷ 0 ∷ 0 ∷ 0 ∷ 0 ∷ 0 ∷ 0 ∷ 7 ∷ [])) ∷ page_of_t 0 0 []
    ∷ page_of_u 1 128 (slot_of 1 0 (0 ∷ 0 ∷ 0 ∷ 5 ∷ [])) ∷ page_of_u 0 0 [] ∷ []

-- ---- what they show, and stand for

-- table T, each of its four trees a single leaf
abbrev pub view_t : TableView
view_t = record {
  def = def_t;
  map = Leaf 18 lines_t Nil;
  composite = Leaf 19 cells_t Nil;
  dims = Leaf 20 cells_t Nil ∷ [];
  indexes = Leaf 21 rows_t Nil ∷ [];
}

-- table U, each of its three trees a single leaf
abbrev pub view_u : TableView
view_u = record {
  def = def_u;
  map = Leaf 22 lines_u Nil;
  composite = Leaf 23 cells_u Nil;
  dims = Leaf 24 cells_u Nil ∷ [];
  indexes = [];
}

-- the owners, T in place 0 and U in place 1, and no table in the other places
abbrev pub small_view : DatabaseView
small_view = record { owners = small_owners; places = Some view_t ∷ Some view_u ∷ replicate 14 None }

-- the rows of T by rising number and not by block, and the row of U
abbrev pub small_database : Database
small_database =
    Some (record { def = rootless def_t; rows = row_ten ∷ row_null ∷ row_without ∷ [] })
    ∷ Some (record { def = rootless def_u; rows = row_five ∷ [] }) ∷ replicate 14 None
