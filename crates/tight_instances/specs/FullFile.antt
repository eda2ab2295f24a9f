-- An instance: a file of four extents that table T of the small database fills, worked out by hand, and what may be put there.
use Rattle.std.specs.Prelude.{pos, true, false, List, [], ◌∷◌, ◌++◌, replicate, Some, None, refl}
use Rattle.mdc_words.specs.ByteOrder.{Entry}
use Rattle.mdc_ast.specs.Database.{Database}
use Rattle.mdc_ast.specs.declared.definition.IndexDef.{IndexDef}
use Rattle.mdc_ast.specs.declared.definition.TableDef.{TableDef}
use Rattle.mdc_values.specs.declared.value.Value.{Value}
use Rattle.mdc_values.specs.declared.value.Value.TheVariants.{Int}
use Rattle.store_api.specs.StoreState.{zero_page}
use Rattle.store_api.specs.declared.shape.Shape.{Shape}
use Rattle.extent_map.specs.Map.{map_page}
use Rattle.extent_map.specs.declared.kind.Kind.{Kind}
use Rattle.extent_map.specs.declared.kind.Kind.TheVariants.{Block, Index}
use Rattle.node_page.specs.Node.{node_bytes}
use Rattle.node_page.specs.Node.Node.{LeafNode}
use Rattle.entry_tree.specs.Forest.Forest.{Leaf, Nil}
use Rattle.table_page.specs.TablePage.{table_page}
use Rattle.table_trees.specs.ToldPages.{PageList}
use Rattle.mdc_sound.specs.SmallDatabase.{def_t, integer_column, page_of_t, row_null, row_ten, row_without, slot_of}
use Rattle.mdc_sound.specs.SpaceRules.{DatabaseView, stated_root}
use Rattle.mdc_sound.specs.StandsForDatabase.{rootless}
use Rattle.mdc_sound.specs.TableViews.{TableView}

-- ---- the file

-- 4 extents of 2 pages, the fewest that a database may have
abbrev pub four_extents : Shape
four_extents = record { extents = 4; extent_pages = 2; within = refl }

-- blocks 2 and 3 are Used, with two rows and one
abbrev pub full_lines : List Entry
full_lines = (0 ∷ 0 ∷ 0 ∷ 2 ∷ 1 ∷ 0 ∷ 2 ∷ []) ∷ (0 ∷ 0 ∷ 0 ∷ 3 ∷ 1 ∷ 0 ∷ 1 ∷ []) ∷ []

-- block 2 under 1, and block 3 under null
abbrev pub full_cells : List Entry
full_cells = (0 ∷ 128 ∷ 0 ∷ 0 ∷ 1 ∷ 0 ∷ 0 ∷ 0 ∷ 2 ∷ []) ∷ (1 ∷ 0 ∷ 0 ∷ 0 ∷ 0 ∷ 0 ∷ 0 ∷ 0 ∷ 3 ∷ []) ∷ []

-- the rows under 7, 10 and null
abbrev pub full_rows : List Entry
full_rows = (0 ∷ 128 ∷ 0 ∷ 0 ∷ 7 ∷ 0 ∷ 0 ∷ 0 ∷ 3 ∷ 0 ∷ 0 ∷ []) ∷ (0 ∷ 128 ∷ 0 ∷ 0 ∷ 10 ∷ 0 ∷ 0 ∷ 0 ∷ 2 ∷ 0 ∷ 0 ∷ [])
    ∷ (1 ∷ 0 ∷ 0 ∷ 0 ∷ 0 ∷ 0 ∷ 0 ∷ 0 ∷ 2 ∷ 0 ∷ 1 ∷ []) ∷ []

-- two index extents whose pages are all in use, and two blocks of T: no extent is free
abbrev pub full_owners : List Kind
full_owners = Index 3 ∷ Index 3 ∷ Block 0 ∷ Block 0 ∷ []

-- the root page, 16 table pages, the map, four leaves that are roots, and two pages a block
abbrev pub full_pages : PageList
full_pages =
    stated_root 26 ∷ table_page def_t ∷ replicate 15 zero_page
    ++ map_page full_owners 0
    ∷ node_bytes 7 (LeafNode full_lines) ∷ node_bytes 9 (LeafNode full_cells) ∷ node_bytes 9 (LeafNode full_cells) ∷ node_bytes 11 (LeafNode full_rows)
    ∷ page_of_t 2 192 (slot_of 1 0 (0 ∷ 0 ∷ 0 ∷ 1 ∷ 0 ∷ 0 ∷ 0 ∷ 10 ∷ []) ++ slot_of 3 2 (0 ∷ 0 ∷ 0 ∷ 1 ∷ 0 ∷ 0 ∷ 0 ∷ 0 ∷ [])) ∷ page_of_t 0 0 []
    ∷ page_of_t 1 128 (slot_of 2 1 (0 ∷ 0 ∷ 0 ∷ 0 ∷ 0 ∷ 0 ∷ 0 ∷ 7 ∷ [])) ∷ page_of_t 0 0 [] ∷ []

-- ---- what it shows, and stands for

-- table T, each of its four trees a single leaf
abbrev pub full_table : TableView
full_table = record {
  def = def_t;
  map = Leaf 18 full_lines Nil;
  composite = Leaf 19 full_cells Nil;
  dims = Leaf 20 full_cells Nil ∷ [];
  indexes = Leaf 21 full_rows Nil ∷ [];
}

-- the owners, and T in place 0
abbrev pub full_view : DatabaseView
full_view = record { owners = full_owners; places = Some full_table ∷ replicate 15 None }

-- the rows of T by rising number
abbrev pub full_database : Database
full_database = Some (record { def = rootless def_t; rows = row_ten ∷ row_null ∷ row_without ∷ [] }) ∷ replicate 15 None

-- ---- what may be put

-- (2, 20), of a cell that has no block
abbrev pub row_of_new_cell : List (List Value)
row_of_new_cell = (Int (pos 2) ∷ Int (pos 20) ∷ []) ∷ []

-- (1, 20), of the cell of block 2
abbrev pub row_of_old_cell : List (List Value)
row_of_old_cell = (Int (pos 1) ∷ Int (pos 20) ∷ []) ∷ []

-- an index J on A, downwards
abbrev pub one_more_index : IndexDef
one_more_index = record { name = record { 0 = 74 ∷ [] }; unique = false; parts = record { column = 0; descending = true } ∷ []; root = 0 }

-- table V of D, by D
abbrev pub one_more_table : TableDef
one_more_table = record {
  number = 0;
  name = record { 0 = 86 ∷ [] };
  columns = integer_column 68 ∷ [];
  dims = (0 ∷ []) ∷ [];
  indexes = [];
  next = 1;
  roots = record { map = 0; composite = 0; dims = [] };
}
