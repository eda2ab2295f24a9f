-- A tree that is judged page by page, from the left. What is left of it is a row of branches, each with its page and the bound
-- below which its entries lie; they lie from the bound of the branch before it on.
use Rattle.std.specs.Prelude.{◌≡◌, ◌≢◌, ◌+◌, ℕ, List, [], ◌∷◌, ◌++◌, length, reverse, Some}
use Rattle.mdc_words.specs.ByteOrder.{Entry}
use Rattle.node_page.specs.Entries.{EntriesRise}
use Rattle.node_page.specs.Node.{Node}
use Rattle.node_page.specs.Node.Node.{InnerNode, LeafNode, NoNode}
use Rattle.entry_tree.specs.EntryBounds.{Bound, Rises, Room}
use Rattle.entry_tree.specs.Forest.{EachNode, Fits, Forest, HoldsEntry, HoldsForest, heads}
use Rattle.entry_tree.specs.Forest.Forest.{Fork, Leaf, Nil}
use Rattle.file_check.specs.declared.branches.Branch.{Branch}

-- the branches of a node with these separators and children, the last of which lies below a bound
abbrev pub branches_of : List Entry → List ℕ → Bound → List Branch
branches_of seps [] high = []
branches_of [] (child ∷ children) high = record { page = child; high = high } ∷ []
branches_of (s ∷ seps) (child ∷ children) high = record { page = child; high = Some s } ∷ branches_of seps children high

-- a node at a page that isn't the root holds an entry
abbrev pub IsTrimAt : ℕ → ℕ → Node → Type 0
IsTrimAt root page node = page ≢ root → HoldsEntry page node

-- At these branches stands a row of trees, the first of which lies from a bound on. The pages are its nodes, and no leaf but the
-- root is empty.
abbrev pub StandsAtBranches : (ℕ → Node) → ℕ → Bound → List Branch → Forest → Type 0
StandsAtBranches nodes root low [] row = row ≡ Nil
StandsAtBranches nodes root low (b ∷ bs) Nil = ⊥
StandsAtBranches nodes root low (b ∷ bs) (Leaf page items next) =
    (page ≡ b.page) × Room low b.high × Rises low b.high items × (nodes page ≡ LeafNode items) × IsTrimAt root page (LeafNode items) × StandsAtBranches nodes root b.high bs next
StandsAtBranches nodes root low (b ∷ bs) (Fork page seps kids next) =
    (page ≡ b.page) × Room low b.high × Fits low b.high seps kids × (nodes page ≡ InnerNode seps (heads kids)) × HoldsForest nodes kids × EachNode (IsTrimAt root) kids
    × StandsAtBranches nodes root b.high bs next

-- a node may stand at a branch, as far as its own entries tell
abbrev pub IsFitNode : ℕ → Bound → Branch → Node → Type 0
IsFitNode root low b (LeafNode items) = Room low b.high × Rises low b.high items × IsTrimAt root b.page (LeafNode items)
IsFitNode root low b (InnerNode seps children) = Room low b.high × EntriesRise seps
IsFitNode root low b NoNode = ⊥

-- What is left behind a branch that is this node: from which bound on, and which branches, of which the first comes last.
abbrev pub GoesOnBehind : Branch → Node → Bound → List Branch → Bound → List Branch → Type 0
GoesOnBehind b (LeafNode items) low left low_now left_now = (low_now ≡ b.high) × (left_now ≡ left)
GoesOnBehind b (InnerNode seps children) low left low_now left_now =
    (low_now ≡ low) × (length children ≡ length seps + 1 → reverse left_now ≡ branches_of seps children b.high ++ reverse left)
GoesOnBehind b NoNode low left low_now left_now = ⊥
