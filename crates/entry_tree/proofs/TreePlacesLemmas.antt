-- Lemmas on a tree with a place in it.
use Rattle.std.proofs.Common.{◌≡◌, ◌<◌, ◌+◌, ℕ, List, [], ◌∷◌, ◌++◌, refl, ap, arith, sym, ◌∙◌, subst, append_assoc, append-nil, length}
use Rattle.std.specs.Prelude.{Some}
use Rattle.entry_tree.proofs.ForestLemmas.{EachNode-agree, EachNode-and, EachNode-from_and, Fits-and, and_nil, filled_leaves-and, leaf_entries-and, heads-and, once_same, times-and}
use Rattle.entry_tree.specs.EntryBounds.{Bound}
use Rattle.entry_tree.specs.Forest.{EachNode, Fits, Forest, filled_leaves, leaf_entries, heads, times, ◌&◌}
use Rattle.entry_tree.specs.Forest.Forest.{Fork, Leaf, Nil}
use Rattle.entry_tree.specs.TreePlaces.{AreMatched, Frame, entries_before, entries_behind, leaves_before, leaves_behind, first_or, high_of, last_or, low_of, plug, times_beside}
use Rattle.mdc_words.specs.ByteOrder.{Entry}
use Rattle.node_page.specs.Node.{Node}
use Rattle.node_page.specs.Node.Node.{InnerNode}

pub leaf_entries-plug : (fs : List Frame) (t : Forest) → leaf_entries (plug fs t) ≡ entries_before fs ++ (leaf_entries t ++ entries_behind fs)
leaf_entries-plug [] t = simp append-nil
leaf_entries-plug (f ∷ fs) t =
    leaf_entries-plug fs (Fork f.page (f.lows ++ f.highs) (f.left & (t & f.right)) Nil)
    ∙ simp (leaf_entries-and, append_assoc, append-nil)

pub filled_leaves-plug : (fs : List Frame) (t : Forest) → filled_leaves (plug fs t) ≡ leaves_before fs ++ (filled_leaves t ++ leaves_behind fs)
filled_leaves-plug [] t = simp append-nil
filled_leaves-plug (f ∷ fs) t =
    filled_leaves-plug fs (Fork f.page (f.lows ++ f.highs) (f.left & (t & f.right)) Nil)
    ∙ simp (filled_leaves-and, append_assoc, append-nil)

pub times-plug : (n : ℕ) (fs : List Frame) (t : Forest) → times n (plug fs t) ≡ times_beside n fs + times n t
times-plug n [] t = omega arith
times-plug n (f ∷ fs) t =
    omega (arith, times-plug n fs (Fork f.page (f.lows ++ f.highs) (f.left & (t & f.right)) Nil), times-and n f.left (t & f.right), times-and n t f.right)

-- what holds of each page holds of those below the place
pub EachNode-from_plug : (P : ℕ → Node → Type 0) (fs : List Frame) (t : Forest) → EachNode P (plug fs t) → EachNode P t
EachNode-from_plug P [] t h = h
EachNode-from_plug P (f ∷ fs) t h =
    let r = EachNode-from_plug P fs (Fork f.page (f.lows ++ f.highs) (f.left & (t & f.right)) Nil) h in
    (EachNode-from_and P t f.right (EachNode-from_and P f.left (t & f.right) r.1).1).0

-- another tree of the same page at the place
pub EachNode-plug : (P Q : ℕ → Node → Type 0) (fs : List Frame) (t u : Forest) → ((n : ℕ) (node : Node) → 0 < times_beside n fs → P n node → Q n node)
    → heads u ≡ heads t → EachNode P (plug fs t) → EachNode Q u → EachNode Q (plug fs u)
EachNode-plug P Q [] t u a e h k = k
EachNode-plug P Q (f ∷ fs) t u a e h k =
    let r = EachNode-from_plug P fs (Fork f.page (f.lows ++ f.highs) (f.left & (t & f.right)) Nil) h in
    let l = EachNode-from_and P f.left (t & f.right) r.1 in
    let m = EachNode-from_and P t f.right l.1 in
    let same : heads (f.left & (u & f.right)) ≡ heads (f.left & (t & f.right)) = simp (heads-and, e) in
    EachNode-plug P Q fs (Fork f.page (f.lows ++ f.highs) (f.left & (t & f.right)) Nil) (Fork f.page (f.lows ++ f.highs) (f.left & (u & f.right)) Nil)
    (λ n node l. a n node (omega arith)) refl h (
      subst (λ (hs : List ℕ). Q f.page (InnerNode (f.lows ++ f.highs) hs)) (sym same) (a f.page _ (omega (arith, once_same f.page)) r.0),
      EachNode-and Q f.left (u & f.right) (EachNode-agree P Q f.left (λ n node l. a n node (omega arith)) l.0)
          (EachNode-and Q u f.right k (EachNode-agree P Q f.right (λ n node l. a n node (omega arith)) m.1)),
      tt,
    )

-- a row that fits around one tree: that tree fits its place, and so does whatever fits the place
pub Fits-frame : (low high : Bound) (lows highs : List Entry) (left t right : Forest) (page : ℕ)
    → length (heads left) ≡ length lows → heads t ≡ page ∷ [] → Fits low high (lows ++ highs) (left & (t & right))
    → Fits (last_or low lows) (first_or highs high) [] t
    × ((seps : List Entry) (u : Forest) → Fits (last_or low lows) (first_or highs high) seps u → Fits low high (lows ++ (seps ++ highs)) (left & (u & right)))
Fits-frame low high [] [] Nil (Leaf p items Nil) right page c e h =
    ((h.0, h.1, refl), λ seps u k. rw (h.2, and_nil u, append-nil) k)
Fits-frame low high [] (s ∷ highs) Nil (Leaf p items Nil) right page c e h =
    ((h.0, h.1, refl), λ seps u k. Fits-and low high seps s highs u right k h.2)
Fits-frame low high [] [] Nil (Fork p ss kids Nil) right page c e h =
    ((h.0, h.1, refl), λ seps u k. rw (h.2, and_nil u, append-nil) k)
Fits-frame low high [] (s ∷ highs) Nil (Fork p ss kids Nil) right page c e h =
    ((h.0, h.1, refl), λ seps u k. Fits-and low high seps s highs u right k h.2)
Fits-frame low high (l ∷ lows) highs (Leaf p items next) t right page c e h =
    let r = Fits-frame (Some l) high lows highs next t right page (omega arith) e h.2 in
    (r.0, λ seps u k. (h.0, h.1, r.1 seps u k))
Fits-frame low high (l ∷ lows) highs (Fork p ss kids next) t right page c e h =
    let r = Fits-frame (Some l) high lows highs next t right page (omega arith) e h.2 in
    (r.0, λ seps u k. (h.0, h.1, r.1 seps u k))
Fits-frame low high lows highs left t right page c e h = absurd (omega (arith, c, ap length e))

-- the same of a place deep below
pub Fits-plug : (low high : Bound) (fs : List Frame) (t : Forest) (page : ℕ) → AreMatched fs → heads t ≡ page ∷ [] → Fits low high [] (plug fs t)
    → Fits (low_of low fs) (high_of high fs) [] t
    × ((u : Forest) → Fits (low_of low fs) (high_of high fs) [] u → Fits low high [] (plug fs u))
Fits-plug low high [] t page m e h = (h, λ u k. k)
Fits-plug low high (f ∷ fs) t page m e h =
    let r = Fits-plug low high fs (Fork f.page (f.lows ++ f.highs) (f.left & (t & f.right)) Nil) f.page m.1 refl h in
    let q = Fits-frame (low_of low fs) (high_of high fs) f.lows f.highs f.left t f.right page m.0 e r.0.1 in
    (q.0, λ u k. r.1 (Fork f.page (f.lows ++ f.highs) (f.left & (u & f.right)) Nil) (r.0.0, q.1 [] u k, refl))
