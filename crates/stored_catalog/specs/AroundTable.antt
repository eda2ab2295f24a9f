-- A database but for one of its 16 places: all that the rules say of every other table, with some trees of that place beside
-- them. So it is while a table is made or dropped.
use Rattle.std.specs.Prelude.{◌≡◌, ◌≢◌, ◌<◌, ◌⊎◌, ℕ, ◌+◌, List, length, sum_by, Option, Some, None, AllPairs, slice_get, slice_set}
use Rattle.std.specs.List.{AllZip}
use Rattle.store_api.specs.declared.shape.Shape.{Shape}
use Rattle.extent_map.specs.Map.{HoldsMap}
use Rattle.extent_map.specs.Owners.{IsUsedPage, owner_of}
use Rattle.extent_map.specs.declared.kind.Kind.{Kind}
use Rattle.extent_map.specs.declared.kind.Kind.TheVariants.{Block}
use Rattle.entry_tree.specs.Forest.{Forest, times}
use Rattle.table_trees.specs.TableTrees.{TreePlace}
use Rattle.table_trees.specs.ToldPages.{HasTree, PageList, told_pages}
use Rattle.mdc_sound.specs.BlockRules.{AreBlockIndexesSound, AreCellsSound, AreRowPagesSound, AreSoundIndexes}
use Rattle.mdc_sound.specs.SoundDatabase.{AreCountsSound, AreKeysSound}
use Rattle.mdc_sound.specs.SpaceRules.{AreBlockMapsSound, AreTreesSound, DatabaseView, IsRootSound, IsTablePlaceSound, definitions_in, indexes_in, times_in_trees}
use Rattle.mdc_sound.specs.TablePages.{IsTableThere}
use Rattle.mdc_sound.specs.TableViews.{TableView}

-- the view with other owners
abbrev pub with_owners : DatabaseView → List Kind → DatabaseView
with_owners view owners = record { owners = owners; places = view.places }

-- and with this in place t
abbrev pub view_with : DatabaseView → List Kind → ℕ → Option TableView → DatabaseView
view_with view owners t table = record { owners = owners; places = slice_set view.places t table }

-- no extent is a block of table t
abbrev pub HasNoBlocks : List Kind → ℕ → Type 0
HasNoBlocks owners t = (e : ℕ) → owner_of owners e ≡ Block t → ⊥

-- The rules hold of every table but t, which the view doesn't have; at these places stand these trees of t beside them, and each
-- used index page is in one tree of all, once. Blocks may be those of t. Nothing is said of table page t.
pub record StandsBut (shape : Shape) (pages : PageList) (view : DatabaseView) (t : ℕ) (places : List TreePlace) (trees : List Forest) : Type 0 where
  pub within : t < 16
  pub count : length view.places ≡ 16
  pub absent : slice_get view.places t ≡ Some None
  pub root : IsRootSound shape pages
  pub extents : HoldsMap told_pages shape pages view.owners
  pub owned : (e u : ℕ) → owner_of view.owners e ≡ Block u → (u ≡ t) ⊎ IsTableThere pages u
  pub each : (u : ℕ) (place : Option TableView) → u ≢ t → slice_get view.places u ≡ Some place → IsTablePlaceSound shape pages view.owners u place
  pub tables_differ : AllPairs (λ a b. a.name ≢ b.name) (definitions_in view)
  pub indexes_differ : AllPairs (λ a b. a.name ≢ b.name) (indexes_in view)
  pub trees_stand : AreTreesSound pages view
  pub held : AllZip (HasTree pages) places trees
  pub used : (p : ℕ) → IsUsedPage shape view.owners p → times_in_trees p view + sum_by (times p) trees ≡ 1
  pub unused : (p : ℕ) → (IsUsedPage shape view.owners p → ⊥) → times_in_trees p view + sum_by (times p) trees ≡ 0
  pub block_maps : AreBlockMapsSound shape view
  pub rows : AreRowPagesSound shape pages view
  pub counts : AreCountsSound shape pages view
  pub cells : AreCellsSound shape pages view
  pub block_indexes : AreBlockIndexesSound shape pages view
  pub record_indexes : AreSoundIndexes shape pages view
  pub keys : AreKeysSound shape pages view
