-- What holds of every view of a node.
use Rattle.std.specs.Prelude.{◌≡◌, ◌<◌, ◌≤◌, ℕ, ◌+◌, ◌*◌, Bool, if◌then◌else◌, List, ◌++◌, take, drop}
use Rattle.store_api.specs.StoreState.{zero_page}
use Rattle.node_page.specs.Node.{Node, node_head, number_within, stated_leaf, stated_inner}
use Rattle.node_page.specs.Looked.{fork_width}

-- how far entries stand apart in a leaf or an inner node
abbrev pub step_of : Bool → ℕ → ℕ
step_of leaf width = if leaf then width else fork_width width

-- the node that a look at the head of a page shows
abbrev pub node_seen : Bool → ℕ → ℕ → List ℕ → Node
node_seen leaf width count page = if leaf then stated_leaf width count page else stated_inner width count page

-- the entries fit, and stand as far apart as in a leaf or an inner node
pub record ViewFits (width step count : ℕ) (leaf : Bool) : Type 0 where
  pub fits : count * step ≤ 4080
  pub apart : step ≡ step_of leaf width
  pub wide : width < 65536
  pub few : count < 65536

-- the head that a page's fields say
abbrev pub stated_head : ℕ → Bool → ℕ → List ℕ → List ℕ
stated_head width leaf count page = if leaf then node_head 76 width count 0 else node_head 73 width count (number_within 8 4 page)

-- the page has the head that its fields say, and behind its entries zeros
abbrev pub IsWritten : ℕ → Bool → ℕ → List ℕ → Type 0
IsWritten width leaf count page =
    page ≡ stated_head width leaf count page ++ (take (count * step_of leaf width) (drop 16 page) ++ drop (16 + count * step_of leaf width) zero_page)
