-- An instance: a database of a table with Used, Free and Pending blocks, two record indexes and generated columns, and of a table
-- without rows, worked out by hand. What its pages show, and stand for.
use Rattle.std.specs.Prelude.{[], ◌∷◌, map, replicate, Contains, Some, None}
use Rattle.mdc_words.specs.ByteOrder.{Entry}
use Rattle.mdc_ast.specs.declared.definition.IndexDef.{IndexDef}
use Rattle.mdc_ast.specs.Database.{Database}
use Rattle.store_api.specs.declared.shape.Shape.{Shape}
use Rattle.entry_tree.specs.Forest.{Forest, leaf_entries}
use Rattle.entry_tree.specs.Forest.Forest.{Leaf, Fork, Nil}
use Rattle.table_trees.specs.ToldPages.{PageList}
use Rattle.mdc_sound.specs.BlockRules.{entry_of_row}
use Rattle.mdc_sound.specs.SpaceRules.{DatabaseView}
use Rattle.mdc_sound.specs.StandsForDatabase.{rootless}
use Rattle.mdc_sound.specs.TableRows.{rows_in_table}
use Rattle.mdc_sound.specs.TableViews.{TableView}
use Rattle.sound_instances.specs.WorkedEntries.{entry_separator, high_prices, low_prices, middle_prices, price_separator, sales_cells, sales_cities, sales_days, sales_lines, sales_months}
use Rattle.sound_instances.specs.WorkedPages.{worked_owners}
use Rattle.sound_instances.specs.WorkedTables.{def_news, def_sales, row_eight, row_four, row_one, row_seven, row_two}

-- the index by PRICE, whose branches are of uneven depth
abbrev pub price_tree : Forest
price_tree =
    Fork 33 (price_separator ∷ []) (Leaf 22 low_prices (Fork 42 (entry_separator ∷ []) (Leaf 40 middle_prices (Leaf 43 high_prices Nil)) Nil)) Nil

-- table SALES; its index by PRICE has a leaf and an inner node below its root, and each other tree is a single leaf
abbrev pub view_sales : TableView
view_sales = record {
  def = def_sales;
  map = Leaf 18 sales_lines Nil;
  composite = Leaf 27 sales_cells Nil;
  dims = Leaf 23 sales_cities Nil ∷ Leaf 19 sales_months Nil ∷ [];
  indexes = price_tree ∷ Leaf 36 sales_days Nil ∷ [];
}

-- table NEWS, each of its three trees an empty leaf
abbrev pub view_news : TableView
view_news = record { def = def_news; map = Leaf 32 [] Nil; composite = Leaf 41 [] Nil; dims = Leaf 37 [] Nil ∷ []; indexes = [] }

-- the owners, SALES in place 2 and NEWS in place 5, and no table in the other places
abbrev pub worked_view : DatabaseView
worked_view = record {
  owners = worked_owners;
  places = None ∷ None ∷ Some view_sales ∷ None ∷ None ∷ Some view_news ∷ replicate 10 None;
}

-- the rows of SALES by rising number and not by block, and NEWS without rows
abbrev pub worked_database : Database
worked_database =
    None ∷ None ∷ Some (record { def = rootless def_sales; rows = row_one ∷ row_two ∷ row_four ∷ row_seven ∷ row_eight ∷ [] })
    ∷ None ∷ None ∷ Some (record { def = rootless def_news; rows = [] }) ∷ replicate 10 None

-- ---- what it has

-- an entry of a record index that no row of the table has
pub record IsLeftBehind (shape : Shape) (pages : PageList) (table : TableView) (index : IndexDef) (tree : Forest) (entry : Entry) : Type 0 where
  pub there : Contains (leaf_entries tree) entry
  pub of_no_row : Contains (map (entry_of_row table.def index) (rows_in_table shape pages table.def table.map)) entry → ⊥

-- there is one
abbrev pub HasLeftBehind : Shape → PageList → TableView → IndexDef → Forest → Type 0
HasLeftBehind shape pages table index tree = (entry : Entry) × IsLeftBehind shape pages table index tree entry
