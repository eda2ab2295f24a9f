-- An inner node has one child more than separators.
use Rattle.std.proofs.Common.{◌≡◌, ◌+◌, ◌*◌, ℕ, List, length, arith, subst}
use Rattle.std.specs.Prelude.{Bool, true, false, if◌then◌else◌, ⊤, ◌==◌, ◌&&◌, nat_le, nat_lt}
use Rattle.std.specs.Str.{bytes_eq}
use Rattle.mdc_words.specs.ByteOrder.{Entry}
use Rattle.mdc_words.proofs.ListedLemmas.{length-listed}
use Rattle.node_page.specs.Node.{Node, bytes_in, node_bytes, node_of, number_within, stated_entries, stated_inner, stated_leaf, stated_node}
use Rattle.node_page.specs.Node.Node.{InnerNode, LeafNode, NoNode}

-- a node has one child more than separators, where it has any
abbrev IsMatched : Node → Type 0
IsMatched (LeafNode items) = ⊤
IsMatched (InnerNode seps children) = length children ≡ length seps + 1
IsMatched NoNode = ⊤

of_two : (c : Bool) (a b : Node) → IsMatched a → IsMatched b → IsMatched (if c then a else b)
of_two true a b h k = h
of_two false a b h k = k

stated_matched : (width : ℕ) (page : List ℕ) → IsMatched (stated_node width page)
stated_matched width page =
    of_two ((number_within 0 1 page == 76) && nat_le (stated_entries page * width) 4080) (stated_leaf width (stated_entries page) page)
    (if (number_within 0 1 page == 73) && nat_lt 0 (stated_entries page) && nat_le (stated_entries page * (width + 4)) 4080 then stated_inner width (stated_entries page) page else NoNode) tt
    (of_two ((number_within 0 1 page == 73) && nat_lt 0 (stated_entries page) && nat_le (stated_entries page * (width + 4)) 4080) (stated_inner width (stated_entries page) page) NoNode
    (inner (stated_entries page)) tt)
  where
    inner : (n : ℕ) → IsMatched (stated_inner width n page)
    inner n =
        let a = length-listed n (λ i. number_within (16 + i * (width + 4) + width) 4 page) in
        let b = length-listed n (λ i. bytes_in (16 + i * (width + 4)) width page) in
        omega (arith, a, b)

node_matched : (width : ℕ) (page : List ℕ) → IsMatched (node_of width page)
unfolding node_of
node_matched width page = of_two (bytes_eq page (node_bytes width (stated_node width page))) (stated_node width page) NoNode (stated_matched width page) tt

pub node-children : (width : ℕ) (page : List ℕ) (seps : List Entry) (children : List ℕ) → node_of width page ≡ InnerNode seps children → length children ≡ length seps + 1
node-children width page seps children is = subst IsMatched is (node_matched width page)
