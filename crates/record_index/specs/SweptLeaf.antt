-- What a step of a sweep makes of a record index.
use Rattle.std.specs.Prelude.{◌≡◌, ◌≤◌, ℕ, ◌+◌, List, length}
use Rattle.store_api.specs.declared.shape.Shape.{Shape}
use Rattle.extent_map.specs.Map.{HoldsMap}
use Rattle.extent_map.specs.declared.kind.Kind.{Kind}
use Rattle.mdc_words.specs.ByteOrder.{Entry}
use Rattle.entry_tree.specs.EntryBounds.{Bound}
use Rattle.entry_tree.specs.Forest.{Forest, leaf_entries, times}
use Rattle.entry_tree.specs.Sweeping.{IsFirstLeaf, unswept}
use Rattle.table_trees.specs.SpaceChanges.{free_extents, used_index_pages}
use Rattle.table_trees.specs.ToldPages.{PageList, told_pages}

-- Of the first leaf that holds an entry from a bound on, exactly those entries left that lie from the bound on and whose four
-- bytes behind the key name one of the blocks. So many they were, the rest begins at the next bound, and no page came to the tree.
pub record SweepsOneLeaf (bound : Entry) (key_width : ℕ) (blocks : List ℕ) (removed : ℕ) (next : Bound) (was is : Forest) : Type 0 where
  pub first : IsFirstLeaf was bound next
  pub leaves : leaf_entries is ≡ unswept bound next key_width blocks (leaf_entries was)
  pub fewer : length (leaf_entries is) + removed ≡ length (leaf_entries was)
  pub pages : (p : ℕ) → times p is ≤ times p was

-- no fewer extents are free, and no more index pages are used
pub record TakesNoSpace (shape : Shape) (old new : PageList) : Type 0 where
  pub old_owners : List Kind
  pub new_owners : List Kind
  pub old_map : HoldsMap told_pages shape old old_owners
  pub new_map : HoldsMap told_pages shape new new_owners
  pub few_extents : free_extents old_owners ≤ free_extents new_owners
  pub few_pages : used_index_pages shape new_owners ≤ used_index_pages shape old_owners
