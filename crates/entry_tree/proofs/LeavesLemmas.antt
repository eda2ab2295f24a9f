-- Leaves of a tree and of what it becomes: each holds an entry, and is half full where it was.
use Rattle.std.proofs.Common.{◌≡◌, ◌<◌, ◌≤◌, ℕ, suc, List, [], ◌∷◌, ◌++◌, refl, ap, arith, sym, subst, length, inr}
use Rattle.std.specs.Prelude.{Bool, true, false, if◌then◌else◌, ⊤}
use Rattle.mdc_words.specs.ByteOrder.{Entry, below}
use Rattle.node_page.specs.Node.{Node}
use Rattle.node_page.specs.Node.Node.{LeafNode}
use Rattle.entry_tree.specs.EntryBounds.{with_entry}
use Rattle.entry_tree.specs.Forest.{Forest, ◌&◌, heads, times, EachNode, HoldsForest, HoldsEntry, IsTrimTree, IsTree}
use Rattle.entry_tree.specs.Forest.Forest.{Nil, Leaf, Fork}
use Rattle.entry_tree.specs.TreePlaces.{Frame, plug}
use Rattle.entry_tree.specs.TreeChanges.{KeepsLeaf}
use Rattle.entry_tree.proofs.ForestLemmas.{EachNode-and, EachNode-from_and, once_same}
use Rattle.entry_tree.proofs.TreePlacesLemmas.{EachNode-from_plug}

-- what holds of each page beside a place
abbrev pub EachBeside : (ℕ → Node → Type 0) → List Frame → Type 0
EachBeside P [] = ⊤
EachBeside P (f ∷ fs) = EachNode P f.left × EachNode P f.right × EachBeside P fs

pub EachBeside-from_plug : (P : ℕ → Node → Type 0) (fs : List Frame) (t : Forest) → EachNode P (plug fs t) → EachBeside P fs
EachBeside-from_plug P [] t h = tt
EachBeside-from_plug P (f ∷ fs) t h =
    let r = EachNode-from_plug P fs (Fork f.page (f.lows ++ f.highs) (f.left & (t & f.right)) Nil) h in
    let l = EachNode-from_and P f.left (t & f.right) r.1 in
    (l.0, (EachNode-from_and P t f.right l.1).1, EachBeside-from_plug P fs (Fork f.page (f.lows ++ f.highs) (f.left & (t & f.right)) Nil) h)

-- entries in each leaf, of a tree of more than one node
pub trim_fork : (fs : List Frame) (page : ℕ) (seps : List Entry) (kids : Forest) → IsTrimTree (plug fs (Fork page seps kids Nil)) → EachNode HoldsEntry (plug fs (Fork page seps kids Nil))
trim_fork [] page seps kids h = (tt, h, tt)
trim_fork (f ∷ fs) page seps kids h = trim_fork fs f.page (f.lows ++ f.highs) (f.left & (Fork page seps kids Nil & f.right)) h

pub fork_trim : (t : Forest) (root : ℕ) → heads t ≡ root ∷ [] → EachNode HoldsEntry t → IsTrimTree t
fork_trim Nil root e h = cc
fork_trim (Leaf page items next) root e h = tt
fork_trim (Fork page seps kids next) root e h = h.1

-- each leaf was one
keeps_each : (width : ℕ) (old : ℕ → Node) (t u : Forest) → ((n : ℕ) → times n u ≤ times n t) → HoldsForest old u → EachNode HoldsEntry u → EachNode (KeepsLeaf width old t) u
keeps_each width old t Nil i h k = tt
keeps_each width old t (Leaf page items next) i h k =
    let one : 0 < times page t = omega (arith, i page, once_same page) in
    ((k.0, inr (items, one, h.0, omega arith)), keeps_each width old t next (λ n. omega (arith, i n)) h.1 k.1)
keeps_each width old t (Fork page seps kids next) i h k =
    (tt, keeps_each width old t kids (λ n. omega (arith, i n)) h.1 k.1, keeps_each width old t next (λ n. omega (arith, i n)) h.2 k.2)

-- the leaves beside a place
abbrev pub KeepsBeside : ℕ → (ℕ → Node) → Forest → Type 0
KeepsBeside width old t = (above : List Frame) (here : Forest) → t ≡ plug above here → EachBeside (KeepsLeaf width old t) above

pub keeps_beside : (width : ℕ) (old : ℕ → Node) (root : ℕ) (t : Forest) → IsTree old root t → IsTrimTree t → KeepsBeside width old t
keeps_beside width old root t w trim [] here e = tt
keeps_beside width old root t w trim (f ∷ fs) here e =
    let filled : EachNode HoldsEntry t =
    subst (EachNode HoldsEntry) (sym e)
    (trim_fork fs f.page (f.lows ++ f.highs) (f.left & (here & f.right)) (subst IsTrimTree e trim)) in
    EachBeside-from_plug (KeepsLeaf width old t) (f ∷ fs) here (subst (EachNode (KeepsLeaf width old t)) e (keeps_each width old t t (λ n. omega arith) w.holds filled))

-- the leaves of the whole, by those beside a place and there
pub keeps_plug : (width : ℕ) (old : ℕ → Node) (t : Forest) (fs : List Frame) (u : Forest) → EachBeside (KeepsLeaf width old t) fs → EachNode (KeepsLeaf width old t) u
    → EachNode (KeepsLeaf width old t) (plug fs u)
keeps_plug width old t [] u b k = k
keeps_plug width old t (f ∷ fs) u b k =
    keeps_plug width old t fs (Fork f.page (f.lows ++ f.highs) (f.left & (u & f.right)) Nil) b.2
    (tt, EachNode-and (KeepsLeaf width old t) f.left (u & f.right) b.0 (EachNode-and (KeepsLeaf width old t) u f.right k b.1), tt)

-- a list with an entry more isn't empty, and no shorter
pub holds_with_entry : (page : ℕ) (x : Entry) (xs : List Entry) → HoldsEntry page (LeafNode (with_entry x xs))
holds_with_entry page x [] = tt
holds_with_entry page x (y ∷ ys) = go (below y x)
  where
    go : (b : Bool) → HoldsEntry page (LeafNode (if b then y ∷ with_entry x ys else x ∷ y ∷ ys))
    go true = tt
    go false = tt

pub length-with_entry : (x : Entry) (xs : List Entry) → length (with_entry x xs) ≡ suc (length xs)
length-with_entry x [] = refl
length-with_entry x (y ∷ ys) = go (below y x) (length-with_entry x ys)
  where
    go : (b : Bool) → length (with_entry x ys) ≡ suc (length ys) → length (if b then y ∷ with_entry x ys else x ∷ y ∷ ys) ≡ suc (suc (length ys))
    go true e = ap suc e
    go false e = refl

-- whether a leaf holds an entry isn't a matter of its page
pub HoldsEntry-moved : (p q : ℕ) (items : List Entry) → HoldsEntry p (LeafNode items) → HoldsEntry q (LeafNode items)
HoldsEntry-moved p q [] h = h
HoldsEntry-moved p q (x ∷ xs) h = tt
