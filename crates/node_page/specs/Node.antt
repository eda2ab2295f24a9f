-- A page as a node of a tree (docs/FORMAT.md, "Nodes"). All entries of a tree have one width.
use Rattle.std.specs.Prelude.{◌==◌, ◌&&◌, nat_lt, nat_le, ℕ, ◌+◌, ◌*◌, ◌/◌, Bool, false, if◌then◌else◌, List, [], ◌∷◌, ◌++◌, length, flat_map, take, drop}
use Rattle.std.specs.Str.{bytes_eq}
use Rattle.byteorder.specs.Endian.{big_bytes, big_number}
use Rattle.mdc_words.specs.ByteOrder.{Entry}
use Rattle.mdc_words.specs.Listed.{listed}
use Rattle.store_api.specs.StoreState.{zero_page}

-- What a page is: a leaf with its entries, an inner node with its separators and one child more, or no node.
pub data Node : Type 0 where
  LeafNode : (entries : List Entry) → Node
  InnerNode : (separators : List Entry) (children : List ℕ) → Node
  NoNode : Node

-- these bytes and then zeros, a page in all
abbrev pub filled_page : List ℕ → List ℕ
filled_page bytes = bytes ++ drop (length bytes) zero_page

-- the head of 16 bytes: the mark, the width, the number of entries and the first child
abbrev pub node_head : ℕ → ℕ → ℕ → ℕ → List ℕ
node_head mark width n child = (mark ∷ 0 ∷ []) ++ big_bytes 2 width ++ big_bytes 2 n ++ (0 ∷ 0 ∷ []) ++ big_bytes 4 child ++ big_bytes 4 0

-- separators, each with the child behind it
abbrev pub fork_items : List Entry → List ℕ → List ℕ
fork_items [] children = []
fork_items (s ∷ separators) [] = []
fork_items (s ∷ separators) (c ∷ children) = s ++ big_bytes 4 c ++ fork_items separators children

-- the first child, where there is one
abbrev pub first_child : List ℕ → ℕ
first_child [] = 0
first_child (c ∷ children) = c

-- the page that a node is written as
abbrev pub node_bytes : ℕ → Node → List ℕ
node_bytes width (LeafNode entries) = filled_page (node_head 76 width (length entries) 0 ++ flat_map (λ entry. entry) entries)
node_bytes width (InnerNode separators children) =
    filled_page (node_head 73 width (length separators) (first_child children) ++ fork_items separators (drop 1 children))
node_bytes width NoNode = []

-- how many entries fit into a leaf, behind the head
abbrev pub leaf_room : ℕ → ℕ
leaf_room width = 4080 / width

-- how many separators fit into an inner node, each with a child of four bytes
abbrev pub inner_room : ℕ → ℕ
inner_room width = 4080 / (width + 4)

-- the number in n bytes from a place on, the highest byte first
abbrev pub number_within : ℕ → ℕ → List ℕ → ℕ
number_within at n page = big_number n (drop at page)

-- n bytes from a place on
abbrev pub bytes_in : ℕ → ℕ → List ℕ → List ℕ
bytes_in at n page = take n (drop at page)

-- how many entries a page states
abbrev pub stated_entries : List ℕ → ℕ
stated_entries page = number_within 4 2 page

-- a leaf of n entries, one behind the other from byte 16 on
abbrev pub stated_leaf : ℕ → ℕ → List ℕ → Node
stated_leaf width n page = LeafNode (listed n (λ i. bytes_in (16 + i * width) width page))

-- an inner node of n separators from byte 16 on, each with the child behind it, and the first child from byte 8 on
abbrev pub stated_inner : ℕ → ℕ → List ℕ → Node
stated_inner width n page =
    InnerNode (listed n (λ i. bytes_in (16 + i * (width + 4)) width page))
    (number_within 8 4 page ∷ listed n (λ i. number_within (16 + i * (width + 4) + width) 4 page))

-- what the mark and the number of entries say that a page is, where so many entries fit
abbrev pub stated_node : ℕ → List ℕ → Node
stated_node width page =
    if (number_within 0 1 page == 76) && nat_le (stated_entries page * width) 4080 then stated_leaf width (stated_entries page) page
    else (if (number_within 0 1 page == 73) && nat_lt 0 (stated_entries page) && nat_le (stated_entries page * (width + 4)) 4080
    then stated_inner width (stated_entries page) page else NoNode)

-- The node that a page is: the one that its fields say, where that is written as this very page. So no byte that isn't named
-- is anything but zero. The order of the entries isn't judged here.
unfoldable pub node_of : ℕ → List ℕ → Node
node_of width page = if bytes_eq page (node_bytes width (stated_node width page)) then stated_node width page else NoNode

-- a node that has as many entries as fit
abbrev pub is_full : ℕ → Node → Bool
is_full width (LeafNode entries) = nat_le (leaf_room width) (length entries)
is_full width (InnerNode separators children) = nat_le (inner_room width) (length separators)
is_full width NoNode = false
