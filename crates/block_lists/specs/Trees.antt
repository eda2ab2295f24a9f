-- What a tree of lists stands for.
use Rattle.std.specs.Prelude.{◌≡◌, ◌&&◌, ℕ, List, [], ◌∷◌, map, Bool, true, false}
use Rattle.std.specs.List.{list_all, list_any}
use Rattle.mdc_values.specs.declared.rid.Rid.{Rid}
use Rattle.block_lists.specs.declared.lists.Lists.{Lists}
use Rattle.block_lists.specs.Lists.{holds, lists_block}
use Rattle.block_lists.specs.declared.tree.ListTree.{ListTree}
use Rattle.block_lists.specs.declared.tree.ListTree.TheFolds.{fold-ListTree}
use Rattle.block_lists.specs.declared.tree.ListTree.TheOpen.{ListTree-F}
use Rattle.block_lists.specs.declared.tree.ListTree.TheOpen as layer

-- one layer of a tree, with what is said of each member in its place
abbrev pub layer_says : (Lists → Bool) → ListTree-F Bool → Bool
layer_says says (layer.Leaf lists) = says lists
layer_says says (layer.All members) = list_all (λ b. b) members
layer_says says (layer.Any members) = list_any (λ b. b) members

-- what is said of a tree by what is said of its leaves: of All what is said of each member, of Any what is said of one
abbrev pub tree_says : (Lists → Bool) → ListTree → Bool
tree_says says = fold-ListTree Bool (layer_says says)

-- the tree stands for the row in a place
abbrev pub tree_holds : ListTree → Rid → Bool
tree_holds tree rid = tree_says (λ lists. holds lists rid) tree

-- the tree names a block whole
abbrev pub tree_lists_block : ListTree → ℕ → Bool
tree_lists_block tree block = tree_says (λ lists. lists_block lists block) tree

-- The lists of what a tree stands for: its leaves, with each All as the intersection of its members and each Any as their union.
pub record IsListsOf (tree : ListTree) (lists : Lists) : Type 0 where
  pub rows : (rid : Rid) → holds lists rid ≡ tree_holds tree rid
  pub blocks : (block : ℕ) → lists_block lists block ≡ tree_lists_block tree block

-- the list isn't empty
abbrev pub has_some : List Bool → Bool
has_some [] = false
has_some (b ∷ bs) = true

-- one layer of a tree has a member where it needs one, and of each member that is said
abbrev pub layer_has_members : ListTree-F Bool → Bool
layer_has_members (layer.Leaf lists) = true
layer_has_members (layer.All members) = has_some members && list_all (λ b. b) members
layer_has_members (layer.Any members) = has_some members && list_all (λ b. b) members

-- each All and each Any has a member
abbrev pub each_has_members : ListTree → Bool
each_has_members = fold-ListTree Bool layer_has_members

-- there is a tree, and in each of the trees each All and each Any has a member
abbrev pub can_be_members : List ListTree → Bool
can_be_members trees = has_some (map each_has_members trees) && list_all (λ b. b) (map each_has_members trees)
