-- A tree of three levels, one branch of which ends earlier than the other.
use Rattle.std.specs.Prelude.{ℕ, zero, suc, [], ◌∷◌}
use Rattle.node_page.specs.Node.{Node}
use Rattle.node_page.specs.Node.Node.{LeafNode, InnerNode, NoNode}
use Rattle.entry_tree.specs.Forest.{Forest}
use Rattle.entry_tree.specs.Forest.Forest.{Nil, Leaf, Fork}

-- what each page is
abbrev pub worked_nodes : ℕ → Node
worked_nodes zero = InnerNode ((5 ∷ []) ∷ []) (1 ∷ 2 ∷ [])
worked_nodes (suc zero) = LeafNode ((3 ∷ []) ∷ [])
worked_nodes (suc (suc zero)) = InnerNode ((7 ∷ []) ∷ []) (3 ∷ 4 ∷ [])
worked_nodes (suc (suc (suc zero))) = LeafNode ((5 ∷ []) ∷ (6 ∷ []) ∷ [])
worked_nodes (suc (suc (suc (suc zero)))) = LeafNode ((7 ∷ []) ∷ [])
worked_nodes _ = NoNode

-- the tree that they are
abbrev pub worked_tree : Forest
worked_tree =
    Fork 0 ((5 ∷ []) ∷ []) (Leaf 1 ((3 ∷ []) ∷ []) (Fork 2 ((7 ∷ []) ∷ []) (Leaf 3 ((5 ∷ []) ∷ (6 ∷ []) ∷ []) (Leaf 4 ((7 ∷ []) ∷ []) Nil)) Nil)) Nil
