-- Which places of rows are live: those in Used blocks.
use Rattle.std.specs.Prelude.{◌==◌, ℕ, Bool, List, filter}
use Rattle.std.specs.List.{list_any}
use Rattle.mdc_values.specs.declared.rid.Rid.{Rid}
use Rattle.store_api.specs.declared.fault.Damage.{Damage}
use Rattle.store_api.specs.declared.pages.Pages.{Ghosts}
use Rattle.entry_tree.specs.Forest.{Forest}
use Rattle.block_map.specs.BlockMaps.{AnyMap, BreaksMapTree, IsMapForm}
use Rattle.block_map.specs.MapLines.{AreMapEntries, used_blocks}
use Rattle.table_trees.specs.TableTrees.{TreePlace}
use Rattle.record_index.specs.OneIndex.{OfTreeAt}

-- a block map has the form of one, and each entry is written as what it says
pub record HasMapForm (map_tree : Forest) : Type 0 where
  pub form : IsMapForm map_tree
  pub entries : AreMapEntries map_tree

-- the block is a Used one of a block map
abbrev pub is_used_block : Forest → ℕ → Bool
is_used_block map_tree block = list_any (λ used. used == block) (used_blocks map_tree)

-- those of some places that lie in Used blocks, in their order
abbrev pub live_rids : Forest → List Rid → List Rid
live_rids map_tree rids = filter (λ rid. is_used_block map_tree rid.block) rids

-- what a look into the block map at a place may name: its root, by the rules on trees and on block maps, and never where it is
-- told to have the form of one
abbrev pub BreaksMapAt : {S : Type 0} → Ghosts S → S → TreePlace → Damage → Type 0
BreaksMapAt g s place damage = OfTreeAt place (λ tree. BreaksMapTree g s tree AnyMap damage)
