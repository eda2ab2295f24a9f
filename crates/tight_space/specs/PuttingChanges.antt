-- Changes of space as those of statements that only put: which trees they add to and make, and what is asked of blocks besides.
use Rattle.std.specs.Prelude.{◌≡◌, ◌≤◌, ℕ, IsTrue, List, [], ◌∷◌, Contains, Some, slice_get}
use Rattle.std.specs.List.{AllByRecursion}
use Rattle.mdc_ast.specs.Database.{fits_all}
use Rattle.mdc_ast.specs.declared.definition.TableDef.{TableDef}
use Rattle.mdc_ast.specs.declared.row.Row.{Row}
use Rattle.store_api.specs.declared.shape.Shape.{Shape}
use Rattle.node_page.specs.Node.{inner_room, leaf_room}
use Rattle.block_map.specs.MapLines.{free_blocks, pending_blocks}
use Rattle.table_trees.specs.SpaceChanges.{SpaceChange}
use Rattle.table_trees.specs.SpaceChanges.SpaceChange.{AddEntry, AmendEntry, ClaimBlock, MakeTree}
use Rattle.table_trees.specs.TableTrees.{TreePlace, tree_places}
use Rattle.table_trees.specs.ToldPages.{PageList}
use Rattle.mdc_sound.specs.Placing.{table_spots}
use Rattle.mdc_sound.specs.SpaceRules.{DatabaseView}
use Rattle.mdc_sound.specs.TableViews.{TableView}
use Rattle.mdc_sound.specs.TightPages.{HaveRoomOnce}

-- ---- changes

-- entries of so few bytes that a full node has enough for two
pub record IsShortWidth (width : ℕ) : Type 0 where
  pub leaf : 2 ≤ leaf_room width
  pub inner : 2 ≤ inner_room width

-- the places of trees, with one that is made
abbrev pub places_after : SpaceChange → List TreePlace → List TreePlace
places_after (MakeTree place) places = place ∷ places
places_after change places = places

-- and with all that are
abbrev pub places_after_all : List SpaceChange → List TreePlace → List TreePlace
places_after_all [] places = places
places_after_all (change ∷ changes) places = places_after_all changes (places_after change places)

-- a block is claimed, a tree is made, or an entry is added to a tree that is there, or changed in place
abbrev pub IsPutting : List TreePlace → SpaceChange → Type 0
IsPutting places (ClaimBlock t block) = Unit {0}
IsPutting places (AddEntry place entry) = Contains places place
IsPutting places (AmendEntry place was is) = Contains places place
IsPutting places (MakeTree place) = IsShortWidth place.width
IsPutting places change = ⊥

-- so is each of these changes, one after the other
abbrev pub ArePutting : List TreePlace → List SpaceChange → Type 0
ArePutting places [] = Unit {0}
ArePutting places (change ∷ changes) = IsPutting places change × ArePutting (places_after change places) changes

-- these places have all trees of a database
abbrev pub HaveAllTrees : DatabaseView → List TreePlace → Type 0
HaveAllTrees view places = (t : ℕ) (table : TableView) → slice_get view.places t ≡ Some (Some table) → (place : TreePlace) → Contains (tree_places table.def) place → Contains places place

-- changes that put, and add to no tree but those of the database and those that they make
abbrev pub AddsToTrees : DatabaseView → List SpaceChange → Type 0
AddsToTrees view changes = (places : List TreePlace) → HaveAllTrees view places → ArePutting places changes

-- a place of a tree that there was or that was made
abbrev pub IsTreeAfter : DatabaseView → List SpaceChange → TreePlace → Type 0
IsTreeAfter view changes place = (places : List TreePlace) → HaveAllTrees view places → Contains (places_after_all changes places) place

-- ---- blocks and rows

-- a table is tight but for its trees: no row has two blocks with room for it, and no block is Free or Pending
pub record HasTightBlocks (shape : Shape) (pages : PageList) (view : DatabaseView) (table : TableView) : Type 0 where
  pub room : HaveRoomOnce table.def (table_spots shape pages table.def view.owners table.map)
  pub none_free : free_blocks table.map ≡ []
  pub none_pending : pending_blocks table.map ≡ []

-- rows fit the columns of a table
abbrev pub AllFit : TableDef → List Row → Type 0
AllFit def rows = AllByRecursion (λ row. IsTrue (fits_all def.columns row.values)) rows
