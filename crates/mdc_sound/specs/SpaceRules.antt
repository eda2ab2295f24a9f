-- The rules on space: the root page, the extent map, the table pages, the trees and the block maps (docs/FORMAT.md, "Rules").
use Rattle.std.specs.Prelude.{◌≡◌, ◌≢◌, ◌≤◌, ◌<◌, ◌/◌, ℕ, List, [], ◌∷◌, ◌++◌, length, map, flat_map, sum_by, Option, Some, None, AllPairs, Contains}
use Rattle.std.specs.List.{AllByRecursion, AllZip, range_with_len}
use Rattle.byteorder.specs.Endian.{big_bytes}
use Rattle.mdc_ast.specs.declared.definition.IndexDef.{IndexDef}
use Rattle.mdc_ast.specs.declared.definition.TableDef.{TableDef}
use Rattle.store_api.specs.Extents.{map_pages}
use Rattle.store_api.specs.Format.{Format, first_format}
use Rattle.store_api.specs.StoreState.{page_at, zero_page}
use Rattle.store_api.specs.declared.shape.Shape.{Shape}
use Rattle.extent_map.specs.Map.{HoldsMapPage, IsWholeCount}
use Rattle.extent_map.specs.Owners.{IsExtentPage, IsUsedPage, extent_of, owner_of}
use Rattle.extent_map.specs.declared.kind.Kind.{Kind}
use Rattle.extent_map.specs.declared.kind.Kind.TheVariants.{Free, Block, Index}
use Rattle.node_page.specs.Node.{filled_page}
use Rattle.entry_tree.specs.Forest.{Forest, times}
use Rattle.mdc_sound.specs.TablePages.{DefinesTable, IsTableThere, table_page_at}
use Rattle.block_map.specs.MapLines.{AreMapEntries, MapLine, map_lines, mapped_blocks}
use Rattle.table_trees.specs.TableTrees.{tree_places}
use Rattle.table_trees.specs.ToldPages.{HasTree, PageList, told_pages}
use Rattle.mdc_sound.specs.TableViews.{TableView, trees_of_table}

-- What the pages of a database show: who owns each extent, and the table with its trees in each of the 16 places.
pub record DatabaseView : Type 0 where
  pub owners : List Kind
  pub places : List (Option TableView)

-- the tables that are there
abbrev pub tables_there : List (Option TableView) → List TableView
tables_there [] = []
tables_there (None ∷ places) = tables_there places
tables_there (Some table ∷ places) = table ∷ tables_there places

-- P holds of each table
abbrev pub EachTable : DatabaseView → (TableView → Type 0) → Type 0
EachTable view P = AllByRecursion P (tables_there view.places)

-- ---- 1: the root page

-- the root page in a format: `ROOT`, the version and the page count
abbrev pub stated_root_in : Format → ℕ → List ℕ
stated_root_in format count = filled_page ((82 ∷ 79 ∷ 79 ∷ 84 ∷ []) ++ big_bytes 4 format.version ++ big_bytes 4 count)

-- the root page in the format of the file
abbrev pub stated_root : ℕ → List ℕ
stated_root count = stated_root_in first_format count

-- The root page states how many pages there are, which some number of whole extents make.
pub record IsRootSound (shape : Shape) (pages : PageList) : Type 0 where
  pub count : IsWholeCount told_pages shape pages
  pub root : page_at pages 0 ≡ stated_root (length pages)

-- ---- 2: the extent map

-- a block is one of a table that is there
abbrev pub IsOwnerThere : PageList → Kind → Type 0
IsOwnerThere pages Free = Unit {0}
IsOwnerThere pages (Block t) = IsTableThere pages t
IsOwnerThere pages (Index used) = Unit {0}

-- Page i of the extent map has an entry of its form for each extent; a block is one of a table that is there, and an extent
-- in use lies within the count.
pub record IsMapPageSound (shape : Shape) (pages : PageList) (owners : List Kind) (i : ℕ) : Type 0 where
  pub held : HoldsMapPage told_pages shape pages owners i
  pub owned : (e : ℕ) → e / 512 ≡ i → IsOwnerThere pages (owner_of owners e)

-- each extent is of the kind that the extent map says
pub record IsMapSound (shape : Shape) (pages : PageList) (owners : List Kind) : Type 0 where
  pub count : length owners ≡ shape.extents
  pub each : (i : ℕ) → i < map_pages shape.extents → IsMapPageSound shape pages owners i

-- ---- 3: the table pages

-- the extent has pages of trees
abbrev pub IsIndexKind : Kind → Type 0
IsIndexKind Free = ⊥
IsIndexKind (Block t) = ⊥
IsIndexKind (Index used) = Unit {0}

-- a page of an index extent
pub record IsIndexPage (shape : Shape) (owners : List Kind) (p : ℕ) : Type 0 where
  pub page : IsExtentPage shape p
  pub index : IsIndexKind (owner_of owners (extent_of shape p))

-- each root of a definition is a page of an index extent
abbrev pub AreRootsInIndexes : Shape → List Kind → TableDef → Type 0
AreRootsInIndexes shape owners def = AllByRecursion (λ place. IsIndexPage shape owners place.root) (tree_places def)

-- table page t has zeros alone, or is that of a definition whose roots are pages of index extents
abbrev pub IsTablePlaceSound : Shape → PageList → List Kind → ℕ → Option TableView → Type 0
IsTablePlaceSound shape pages owners t None = table_page_at pages t ≡ zero_page
IsTablePlaceSound shape pages owners t (Some table) = DefinesTable pages t table.def × AreRootsInIndexes shape owners table.def

-- the definitions of the tables
abbrev pub definitions_in : DatabaseView → List TableDef
definitions_in view = map (λ table. table.def) (tables_there view.places)

-- all record indexes
abbrev pub indexes_in : DatabaseView → List IndexDef
indexes_in view = flat_map (λ def. def.indexes) (definitions_in view)

-- each table page is sound, and no two tables and no two indexes have one name
pub record AreTablePagesSound (shape : Shape) (pages : PageList) (view : DatabaseView) : Type 0 where
  pub each : AllZip (IsTablePlaceSound shape pages view.owners) (range_with_len 0 16) view.places
  pub tables_differ : AllPairs (λ a b. a.name ≢ b.name) (definitions_in view)
  pub indexes_differ : AllPairs (λ a b. a.name ≢ b.name) (indexes_in view)

-- ---- 4: the trees

-- at each root of a table stands a tree, and each leaf of it but an empty root holds an entry
abbrev pub AreTreesSound : PageList → DatabaseView → Type 0
AreTreesSound pages view = EachTable view (λ table. AllZip (HasTree pages) (tree_places table.def) (trees_of_table table))

-- ---- 5: the pages of trees

-- how often a page stands in the trees of all tables
abbrev pub times_in_trees : ℕ → DatabaseView → ℕ
times_in_trees p view = sum_by (λ table. sum_by (times p) (trees_of_table table)) (tables_there view.places)

-- a used index page is in one tree, once, and any other page in none
pub record IsTreePageSound (shape : Shape) (view : DatabaseView) (p : ℕ) : Type 0 where
  pub used : IsUsedPage shape view.owners p → times_in_trees p view ≡ 1
  pub others : (IsUsedPage shape view.owners p → ⊥) → times_in_trees p view ≡ 0

-- each page is so
abbrev pub AreTreePagesSound : Shape → DatabaseView → Type 0
AreTreePagesSound shape view = (p : ℕ) → IsTreePageSound shape view p

-- ---- 6: the block maps

-- an entry of a block map has a state, and names an extent that is a block of the table
pub record IsMapLineSound (shape : Shape) (owners : List Kind) (def : TableDef) (line : MapLine) : Type 0 where
  pub state : line.state ≤ 2
  pub within : line.block < shape.extents
  pub owned : owner_of owners line.block ≡ Block def.number

-- The block map names each block of the table, once, and nothing else. Its entries are bytes, as those of any page are.
pub record IsBlockMapSound (shape : Shape) (owners : List Kind) (def : TableDef) (map_tree : Forest) : Type 0 where
  pub entries : AreMapEntries map_tree
  pub lines : AllByRecursion (IsMapLineSound shape owners def) (map_lines map_tree)
  pub once_each : AllPairs (λ a b. a ≢ b) (mapped_blocks map_tree)
  pub all_named : (e : ℕ) → e < shape.extents → owner_of owners e ≡ Block def.number → Contains (mapped_blocks map_tree) e

-- each block map is so
abbrev pub AreBlockMapsSound : Shape → DatabaseView → Type 0
AreBlockMapsSound shape view = EachTable view (λ table. IsBlockMapSound shape view.owners table.def table.map)
