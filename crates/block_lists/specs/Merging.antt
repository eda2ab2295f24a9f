-- The parts that a merge of a tree gives.
use Rattle.std.specs.Prelude.{◌≡◌, ℕ, List}
use Rattle.block_lists.specs.Lists.{AreLists, touches}
use Rattle.block_lists.specs.Parts.{StandForRows, blocks_of, parts_of}
use Rattle.block_lists.specs.Places.{has_number}
use Rattle.block_lists.specs.Trees.{IsListsOf, tree_holds}
use Rattle.block_lists.specs.declared.lists.Lists.{Lists}
use Rattle.block_lists.specs.declared.part.Part.{Part}
use Rattle.block_lists.specs.declared.tree.ListTree.{ListTree}

-- The parts of a tree's lists: exactly the blocks that these touch, by rising number, with exactly the tree's rows. Of such lists there are only one, by the law `same_rows_same_lists`.
pub record ArePartsOf (tree : ListTree) (parts : List Part) : Type 0 where
  pub lists : Lists
  pub rise_apart : AreLists lists.blocks lists.rids
  pub of_tree : IsListsOf tree lists
  pub of_lists : parts ≡ parts_of lists.blocks lists.rids
  pub stand : StandForRows parts (tree_holds tree)
  pub blocks : (block : ℕ) → has_number (blocks_of parts) block ≡ touches lists block
