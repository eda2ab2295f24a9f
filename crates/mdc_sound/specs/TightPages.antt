-- When pages are tight, and how many extents a database needs at least (docs/FORMAT.md, "Running full").
use Rattle.std.specs.Prelude.{◌≡◌, ◌≤◌, ◌<◌, ℕ, ◌+◌, ◌-◌, ◌*◌, ◌/◌, max, not, List, [], ◌∷◌, length, filter, count_by, sum_by, Some, None, slice_index_or}
use Rattle.std.specs.Int.{div_ceil}
use Rattle.std.specs.List.{AllZip}
use Rattle.std.specs.Str.{bytes_eq}
use Rattle.mdc_words.specs.ByteOrder.{Entry}
use Rattle.mdc_ast.specs.declared.definition.TableDef.{TableDef}
use Rattle.mdc_ast.specs.declared.row.Row.{Row}
use Rattle.mdc_ast.specs.Database.{Database, PlainTable}
use Rattle.store_api.specs.Format.{first_format}
use Rattle.store_api.specs.declared.shape.Shape.{Shape}
use Rattle.key_codec.specs.Keys.{key_bytes, width_of_parts}
use Rattle.node_page.specs.Node.{Node, leaf_room}
use Rattle.node_page.specs.Node.Node.{LeafNode, InnerNode, NoNode}
use Rattle.block_map.specs.MapLines.{free_blocks, pending_blocks}
use Rattle.entry_tree.specs.Forest.{EachNode, Forest}
use Rattle.entry_tree.specs.Forest.Forest.{Nil, Leaf, Fork}
use Rattle.mdc_sound.specs.Placing.{HasRoomFor, Spot, block_slot_count, table_spots}
use Rattle.mdc_sound.specs.Placing.Spot.{OtherBlock}
use Rattle.mdc_sound.specs.SpaceRules.{DatabaseView, EachTable}
use Rattle.mdc_sound.specs.TableViews.{TableView, trees_of_table}
use Rattle.table_trees.specs.SpaceChanges.{unused_index_pages}
use Rattle.table_trees.specs.TableTrees.{cell_parts, rising_parts, tree_places}
use Rattle.table_trees.specs.ToldPages.{PageList}

-- ---- tight

-- a leaf has at least half of the entries that fit
abbrev pub IsHalfFullNode : ℕ → ℕ → Node → Type 0
IsHalfFullNode width page (LeafNode items) = leaf_room width / 2 ≤ length items
IsHalfFullNode width page (InnerNode separators children) = Unit {0}
IsHalfFullNode width page NoNode = Unit {0}

-- so has each leaf of a tree but a root
abbrev pub IsHalfFullTree : ℕ → Forest → Type 0
IsHalfFullTree width Nil = Unit {0}
IsHalfFullTree width (Leaf page items next) = Unit {0}
IsHalfFullTree width (Fork page separators kids next) = EachNode (IsHalfFullNode width) kids

-- no row has two blocks with room for it, so each cell has at most one Used block that isn't full
abbrev pub HaveRoomOnce : TableDef → List Spot → Type 0
HaveRoomOnce def spots =
    (row : Row) (e f : ℕ) → HasRoomFor def row (slice_index_or spots e OtherBlock) → HasRoomFor def row (slice_index_or spots f OtherBlock) → e ≡ f

-- a table is tight: its blocks, of which none is Free or Pending, and its trees
pub record IsTightTable (shape : Shape) (pages : PageList) (view : DatabaseView) (table : TableView) : Type 0 where
  pub room : HaveRoomOnce table.def (table_spots shape pages table.def view.owners table.map)
  pub none_free : free_blocks table.map ≡ []
  pub none_pending : pending_blocks table.map ≡ []
  pub trees : AllZip (λ place tree. IsHalfFullTree place.width tree) (tree_places table.def) (trees_of_table table)

-- the pages that show this are tight: each table is, and fewer index pages are unused than an extent has
pub record AreTightPages (shape : Shape) (pages : PageList) (view : DatabaseView) : Type 0 where
  pub tables : EachTable view (IsTightTable shape pages view)
  pub few_unused : unused_index_pages shape view.owners < shape.extent_pages

-- ---- need

-- the key of a row's cell
abbrev pub key_of_cell : TableDef → Row → Entry
key_of_cell def row = key_bytes def.columns (cell_parts def) row.values

-- the keys of the cells of rows, each once
abbrev pub cells_of_rows : TableDef → List Row → List Entry
cells_of_rows def [] = []
cells_of_rows def (row ∷ rows) = key_of_cell def row ∷ filter (λ key. not (bytes_eq key (key_of_cell def row))) (cells_of_rows def rows)

-- how many of the rows are of a cell
abbrev pub rows_of_cell : TableDef → Entry → List Row → ℕ
rows_of_cell def key rows = count_by (λ row. bytes_eq (key_of_cell def row) key) rows

-- how many blocks of n slots the rows of a table need: for each cell its rows divided by the slots, rounded up
abbrev pub blocks_needed : ℕ → PlainTable → ℕ
blocks_needed n table = sum_by (λ key. div_ceil (rows_of_cell table.def key table.rows) n) (cells_of_rows table.def table.rows)

-- how many pages a tree of n entries of a width counts: two for each leaf, which are half full, less one
abbrev pub pages_needed : ℕ → ℕ → ℕ
pages_needed width n = 2 * max 1 (n / (leaf_room width / 2)) - 1

-- the pages of a table's trees, where its rows need so many blocks
abbrev pub index_pages_needed : ℕ → PlainTable → ℕ
index_pages_needed blocks table =
    pages_needed first_format.map_width blocks + pages_needed (width_of_parts table.def.columns (cell_parts table.def) + 4) blocks
    + sum_by (λ dim. pages_needed (width_of_parts table.def.columns (rising_parts dim) + 4) blocks) table.def.dims
    + sum_by (λ index. pages_needed (width_of_parts table.def.columns index.parts + 6) (length table.rows)) table.def.indexes

-- a number of each table that is there, summed
abbrev pub sum_of_tables : (PlainTable → ℕ) → Database → ℕ
sum_of_tables f [] = 0
sum_of_tables f (None ∷ db) = sum_of_tables f db
sum_of_tables f (Some table ∷ db) = f table + sum_of_tables f db

-- the blocks that a table needs
abbrev pub table_blocks : Shape → PlainTable → ℕ
table_blocks shape table = blocks_needed (block_slot_count shape table.def) table

-- how many extents a database needs: its blocks, and its index pages divided by the pages of an extent, rounded up
abbrev pub need : Shape → Database → ℕ
need shape db =
    sum_of_tables (table_blocks shape) db
    + div_ceil (sum_of_tables (λ table. index_pages_needed (table_blocks shape table) table) db) shape.extent_pages
