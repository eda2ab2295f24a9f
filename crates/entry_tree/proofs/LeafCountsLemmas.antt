-- Lemmas on trees with the same nodes, and as many entries in each leaf.
use Rattle.std.proofs.Common.{List, [], ◌∷◌, ◌++◌, refl}
use Rattle.entry_tree.specs.Forest.{Forest, ◌&◌}
use Rattle.entry_tree.specs.Forest.Forest.{Fork, Leaf, Nil}
use Rattle.entry_tree.specs.TreeChanges.{KeepsLeafCounts}
use Rattle.entry_tree.specs.TreePlaces.{Frame, plug}

-- each forest keeps its own counts
pub KeepsLeafCounts-same : (t : Forest) → KeepsLeafCounts t t
KeepsLeafCounts-same Nil = tt
KeepsLeafCounts-same (Leaf page items next) = (refl, refl, KeepsLeafCounts-same next)
KeepsLeafCounts-same (Fork page seps kids next) = (refl, KeepsLeafCounts-same kids, KeepsLeafCounts-same next)

-- two rows that keep their counts, one behind the other
pub KeepsLeafCounts-and : (t u v w : Forest) → KeepsLeafCounts t u → KeepsLeafCounts v w → KeepsLeafCounts (t & v) (u & w)
KeepsLeafCounts-and Nil Nil v w h k = k
KeepsLeafCounts-and Nil (Leaf page items next) v w h k = absurd h
KeepsLeafCounts-and Nil (Fork page seps kids next) v w h k = absurd h
KeepsLeafCounts-and (Leaf page items next) Nil v w h k = absurd h
KeepsLeafCounts-and (Leaf page items next) (Leaf other others behind) v w h k = (h.0, h.1, KeepsLeafCounts-and next behind v w h.2 k)
KeepsLeafCounts-and (Leaf page items next) (Fork other bounds children behind) v w h k = absurd h
KeepsLeafCounts-and (Fork page seps kids next) Nil v w h k = absurd h
KeepsLeafCounts-and (Fork page seps kids next) (Leaf other others behind) v w h k = absurd h
KeepsLeafCounts-and (Fork page seps kids next) (Fork other bounds children behind) v w h k = (h.0, h.1, KeepsLeafCounts-and next behind v w h.2 k)

-- a row around a tree that keeps its counts
pub KeepsLeafCounts-around : (f : Frame) (t u : Forest) → KeepsLeafCounts t u → KeepsLeafCounts (f.left & (t & f.right)) (f.left & (u & f.right))
KeepsLeafCounts-around f t u k =
    KeepsLeafCounts-and f.left f.left (t & f.right) (u & f.right) (KeepsLeafCounts-same f.left) (KeepsLeafCounts-and t u f.right f.right k (KeepsLeafCounts-same f.right))

-- the whole keeps its counts where the tree at a place does
pub KeepsLeafCounts-plug : (fs : List Frame) (t u : Forest) → KeepsLeafCounts t u → KeepsLeafCounts (plug fs t) (plug fs u)
KeepsLeafCounts-plug [] t u k = k
KeepsLeafCounts-plug (f ∷ fs) t u k =
    KeepsLeafCounts-plug fs (Fork f.page (f.lows ++ f.highs) (f.left & (t & f.right)) Nil) (Fork f.page (f.lows ++ f.highs) (f.left & (u & f.right)) Nil)
    (refl, KeepsLeafCounts-around f t u k, tt)
