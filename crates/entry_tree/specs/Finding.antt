-- An entry that was found in a tree, and where it stands there.
use Rattle.std.specs.Prelude.{◌≡◌, ◌<◌, ◌+◌, ℕ, Bool, true, IsTrue, List, length, Option, Some, None}
use Rattle.mdc_words.specs.ByteOrder.{Entry}
use Rattle.node_page.specs.Node.{Node}
use Rattle.node_page.specs.Node.Node.{LeafNode}
use Rattle.store_api.specs.declared.pages.Pages.{Ghosts}
use Rattle.entry_tree.specs.Forest.{Forest}
use Rattle.entry_tree.specs.HeldTrees.{HoldsTree, nodes_in}
use Rattle.entry_tree.specs.Spots.{IsSpot}
use Rattle.entry_tree.specs.declared.finding.FoundEntry.{FoundEntry}
use Rattle.entry_tree.specs.declared.spot.Fence.{Fence}
use Rattle.entry_tree.specs.declared.tree.Tree.{Tree}

-- the entry of what was found, if anything was
abbrev pub found_entry : Option FoundEntry → Option Entry
found_entry None = None
found_entry (Some found) = Some found.entry

-- the leaf of an entry, where the entry belongs in it, and whether it is there, between some nearest separators
pub record IsEntryPlace (nodes : ℕ → Node) (t : Forest) (x : Entry) (page at : ℕ) (there : Bool) : Type 0 where
  pub low : Option Fence
  pub high : Option Fence
  pub spot : IsSpot nodes t x page at there low high

-- the entry stands at its place in a tree, and between others of its leaf where this is said
pub record StandsThere (nodes : ℕ → Node) (t : Forest) (found : FoundEntry) : Type 0 where
  pub leaf : IsEntryPlace nodes t found.entry found.page found.at true
  pub between : (items : List Entry) → nodes found.page ≡ LeafNode items → IsTrue found.inside → (0 < found.at) × (found.at + 1 < length items)

-- The entry stands at its place in each tree that the pages are told to hold. It says so as long as the pages are the same.
pub record IsFoundEntry {S : Type 0} (g : Ghosts S) (s : S) (tree : Tree) (found : FoundEntry) : Type 0 where
  pub width : length found.entry ≡ tree.width
  pub stands : (t : Forest) → HoldsTree g s tree t → StandsThere (nodes_in tree.width (g.state s)) t found
