-- A node as a look at its head and at what is asked for shows it. Spare bytes and the order of the entries aren't judged.
use Rattle.std.specs.Prelude.{◌==◌, ◌≡◌, ℕ, ◌+◌, Bool, true, false, if◌then◌else◌, List, [], Option, Some, None}
use Rattle.mdc_words.specs.ByteOrder.{Entry}
use Rattle.node_page.specs.Node.{Node, number_within, stated_node, node_of}
use Rattle.node_page.specs.Node.Node.{LeafNode, InnerNode, NoNode}
use Rattle.node_page.specs.Entries.{EntriesRise}

-- the bytes of a separator and the child behind it
abbrev pub fork_width : ℕ → ℕ
fork_width width = width + 4

-- the entries of a leaf, and the separators of an inner node
abbrev pub entries_in : Node → List Entry
entries_in (LeafNode entries) = entries
entries_in (InnerNode separators children) = separators
entries_in NoNode = []

-- the children of an inner node; nothing else has any
abbrev pub children_in : Node → List ℕ
children_in (LeafNode entries) = []
children_in (InnerNode separators children) = children
children_in NoNode = []

-- a leaf, with or without entries; a page that is no node isn't one
abbrev pub is_leaf_node : Node → Bool
is_leaf_node (LeafNode entries) = true
is_leaf_node (InnerNode separators children) = false
is_leaf_node NoNode = false

-- how many bytes each entry of a node takes, with the child behind it
abbrev pub item_width : ℕ → Node → ℕ
item_width width (LeafNode entries) = width
item_width width (InnerNode separators children) = fork_width width
item_width width NoNode = 0

-- a node with the width of its entries
pub record SeenNode : Type 0 where
  pub width : ℕ
  pub node : Node

-- this node, whose entries have this width
abbrev pub seen_node : ℕ → Node → SeenNode
seen_node width node = record { width = width; node = node }

-- the same of a leaf or an inner node, and nothing where the page is no node
abbrev pub seen_if : ℕ → Node → Option SeenNode
seen_if width (LeafNode entries) = Some (seen_node width (LeafNode entries))
seen_if width (InnerNode separators children) = Some (seen_node width (InnerNode separators children))
seen_if width NoNode = None

-- what a look shows: what the fields say, where the page names this width and states no more entries than fit
abbrev pub looked : ℕ → List ℕ → Option SeenNode
looked width page = if number_within 2 2 page == width then seen_if width (stated_node width page) else None

-- the page is this node of this width, and its entries rise
pub record IsNode (width : ℕ) (page : List ℕ) (node : Node) : Type 0 where
  pub form : node_of width page ≡ node
  pub written : node ≡ NoNode → ⊥
  pub rising : EntriesRise (entries_in node)
