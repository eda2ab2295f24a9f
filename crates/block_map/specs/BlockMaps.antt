-- What a tree has to be so that it is a block map, what is found in it, and which damage a call on it may name.
use Rattle.std.specs.Prelude.{◌≡◌, ◌≢◌, ◌≤◌, ◌⊎◌, ℕ, ⊤, Option, Some, None, AllPairs, Contains}
use Rattle.std.specs.List.{AllByRecursion}
use Rattle.store_api.specs.declared.fault.Damage.{Damage}
use Rattle.store_api.specs.declared.pages.Pages.{Ghosts}
use Rattle.entry_tree.specs.EntryBounds.{IsEntryOf}
use Rattle.entry_tree.specs.Forest.{Forest, leaf_entries}
use Rattle.entry_tree.specs.HeldTrees.{HoldsTree, BreaksTree}
use Rattle.entry_tree.specs.declared.tree.Tree.{Tree}
use Rattle.block_map.specs.MapLines.{AreMapEntries, free_blocks, map_lines, mapped_blocks}
use Rattle.block_map.specs.MapRows.{row_entry}
use Rattle.block_map.specs.declared.row.BlockRow.{BlockRow}

-- each state is one of the three, and no block is named twice
pub record IsMapForm (map_tree : Forest) : Type 0 where
  pub states : AllByRecursion (λ line. line.state ≤ 2) (map_lines map_tree)
  pub once_each : AllPairs (λ a b. a ≢ b) (mapped_blocks map_tree)

-- a block map whose entries are written as what they say names a block
abbrev pub NamesBlock : ℕ → Forest → Type 0
NamesBlock block map_tree = AreMapEntries map_tree × Contains (mapped_blocks map_tree) block

-- the row is one of a block map
abbrev pub HasRow : BlockRow → Forest → Type 0
HasRow row map_tree = IsEntryOf (row_entry row) (leaf_entries map_tree)

-- what was found of a block: a row of the map that names it, or nothing, where the map doesn't name it
abbrev pub FindsBlock : Forest → ℕ → Option BlockRow → Type 0
FindsBlock map_tree block None = NamesBlock block map_tree → ⊥
FindsBlock map_tree block (Some row) = (row.block ≡ block) × HasRow row map_tree

-- a Free block from a number on, the lowest
pub record IsLowestFreeBlock (map_tree : Forest) (from block : ℕ) : Type 0 where
  pub free : Contains (free_blocks map_tree) block
  pub reached : from ≤ block
  pub lowest : (other : ℕ) → Contains (free_blocks map_tree) other → from ≤ other → block ≤ other

-- the same, or that there is none
abbrev pub FindsFree : Forest → ℕ → Option ℕ → Type 0
FindsFree map_tree from None = (other : ℕ) → Contains (free_blocks map_tree) other → from ≤ other → ⊥
FindsFree map_tree from (Some block) = IsLowestFreeBlock map_tree from block

-- The damage of a block map names its root and rule 6: never where the tree is told to have the form of a block map and what
-- the call expects of it.
pub record BreaksBlockMap {S : Type 0} (g : Ghosts S) (s : S) (tree : Tree) (Expected : Forest → Type 0) (damage : Damage) : Type 0 where
  pub page : damage.page ≡ tree.root
  pub rule : damage.rule ≡ 6
  pub broken : (t : Forest) → HoldsTree g s tree t → IsMapForm t → Expected t → ⊥

-- the damage of a block map, or of its tree
abbrev pub BreaksMapTree : {S : Type 0} → Ghosts S → S → Tree → (Forest → Type 0) → Damage → Type 0
BreaksMapTree g s tree Expected damage = BreaksTree g s tree damage ⊎ BreaksBlockMap g s tree Expected damage

-- nothing more is expected than the form
abbrev pub AnyMap : Forest → Type 0
AnyMap map_tree = ⊤
