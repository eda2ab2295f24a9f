-- What a search for an entry sees on one page.
use Rattle.std.specs.Prelude.{◌≡◌, ℕ, ⊤, ◌↔◌, IsTrue, None, slice_index_or as get_or}
use Rattle.mdc_words.specs.ByteOrder.{Entry}
use Rattle.node_page.specs.Node.{Node, is_full}
use Rattle.node_page.specs.Node.Node.{LeafNode, InnerNode, NoNode}
use Rattle.entry_tree.specs.EntryBounds.{Rises, IsEntryOf, IsLeafPlace}
use Rattle.entry_tree.specs.TreePlaces.{IsChildPlace}
use Rattle.entry_tree.specs.declared.sight.Sight.{Sight}
use Rattle.entry_tree.specs.declared.sight.Sight.TheVariants.{Nothing, AtLeaf, AtInner}

-- What a search for x sees on a page that is this node of this width: where x belongs, whether it is there, the child to go
-- on with, and whether the node is full. Where the page is no node, or its entries don't rise, nothing is said.
abbrev pub Sees : ℕ → Node → Entry → Sight → Type 0
Sees width (LeafNode items) x Nothing = ⊥
Sees width (LeafNode items) x (AtLeaf at there full) =
    (full ≡ is_full width (LeafNode items)) × (Rises None None items → IsLeafPlace items x at × (IsTrue there ↔ IsEntryOf x items))
Sees width (LeafNode items) x (AtInner at child full) = ⊥
Sees width (InnerNode seps children) x Nothing = ⊥
Sees width (InnerNode seps children) x (AtLeaf at there full) = ⊥
Sees width (InnerNode seps children) x (AtInner at child full) =
    (full ≡ is_full width (InnerNode seps children)) × (Rises None None seps → IsChildPlace seps x at × (child ≡ get_or children at 0))
Sees width NoNode x sight = ⊤
