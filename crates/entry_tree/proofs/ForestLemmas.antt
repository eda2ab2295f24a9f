-- Lemmas on forests.
use Rattle.std.proofs.Common.{◌≡◌, ◌<◌, ◌≤◌, ◌+◌, ℕ, List, [], ◌∷◌, ◌++◌, refl, ap, arith, sym, ◌∙◌, subst, append_assoc, eq-eqb, ◌≢◌}
use Rattle.std.proofs.Common.{ne_eqb, length}
use Rattle.std.specs.Prelude.{Some}
use Rattle.entry_tree.specs.EntryBounds.{Bound}
use Rattle.entry_tree.specs.Forest.{EachNode, Fits, Forest, HasNode, HoldsForest, filled_leaves, leaf_entries, heads, once, times, ◌&◌}
use Rattle.entry_tree.specs.Forest.Forest.{Fork, Leaf, Nil}
use Rattle.mdc_words.specs.ByteOrder.{Entry}
use Rattle.node_page.specs.Node.{Node}

pub and_nil : (t : Forest) → t & Nil ≡ t
and_nil Nil = refl
and_nil (Leaf page items next) = ap (Leaf page items) (and_nil next)
and_nil (Fork page seps kids next) = ap (Fork page seps kids) (and_nil next)

pub and_assoc : (t u v : Forest) → (t & u) & v ≡ t & (u & v)
and_assoc Nil u v = refl
and_assoc (Leaf page items next) u v = ap (Leaf page items) (and_assoc next u v)
and_assoc (Fork page seps kids next) u v = ap (Fork page seps kids) (and_assoc next u v)

pub heads-and : (t u : Forest) → heads (t & u) ≡ heads t ++ heads u
heads-and Nil u = refl
heads-and (Leaf page items next) u = ap (λ (l : List ℕ). page ∷ l) (heads-and next u)
heads-and (Fork page seps kids next) u = ap (λ (l : List ℕ). page ∷ l) (heads-and next u)

pub leaf_entries-and : (t u : Forest) → leaf_entries (t & u) ≡ leaf_entries t ++ leaf_entries u
leaf_entries-and Nil u = refl
leaf_entries-and (Leaf page items next) u = rw (leaf_entries-and next u, append_assoc)
leaf_entries-and (Fork page seps kids next) u = rw (leaf_entries-and next u, append_assoc)

pub filled_leaves-and : (t u : Forest) → filled_leaves (t & u) ≡ filled_leaves t ++ filled_leaves u
filled_leaves-and Nil u = refl
filled_leaves-and (Leaf page items next) u = rw (filled_leaves-and next u, append_assoc)
filled_leaves-and (Fork page seps kids next) u = rw (filled_leaves-and next u, append_assoc)

pub times-and : (n : ℕ) (t u : Forest) → times n (t & u) ≡ times n t + times n u
times-and n Nil u = omega arith
times-and n (Leaf page items next) u = omega (arith, times-and n next u)
times-and n (Fork page seps kids next) u = omega (arith, times-and n next u)

pub EachNode-and : (P : ℕ → Node → Type 0) (t u : Forest) → EachNode P t → EachNode P u → EachNode P (t & u)
EachNode-and P Nil u h k = k
EachNode-and P (Leaf page items next) u h k = (h.0, EachNode-and P next u h.1 k)
EachNode-and P (Fork page seps kids next) u h k = (h.0, h.1, EachNode-and P next u h.2 k)

pub EachNode-from_and : (P : ℕ → Node → Type 0) (t u : Forest) → EachNode P (t & u) → EachNode P t × EachNode P u
EachNode-from_and P Nil u h = (tt, h)
EachNode-from_and P (Leaf page items next) u h = let r = EachNode-from_and P next u h.1 in ((h.0, r.0), r.1)
EachNode-from_and P (Fork page seps kids next) u h = let r = EachNode-from_and P next u h.2 in ((h.0, h.1, r.0), r.1)

-- 1. pages and heads determine a forest
pub same_forest : (nodes : ℕ → Node) (t u : Forest) → HoldsForest nodes t → HoldsForest nodes u → heads t ≡ heads u → t ≡ u
same_forest nodes Nil Nil h k e = refl
same_forest nodes Nil (Leaf page items next) h k e = cc
same_forest nodes Nil (Fork page seps kids next) h k e = cc
same_forest nodes (Leaf page items next) Nil h k e = cc
same_forest nodes (Fork page seps kids next) Nil h k e = cc
same_forest nodes (Leaf page items next) (Leaf page2 items2 next2) h k e =
    let r = same_forest nodes next next2 h.1 k.1 cc in cc
same_forest nodes (Leaf page items next) (Fork page2 seps2 kids2 next2) h k e = cc
same_forest nodes (Fork page seps kids next) (Leaf page2 items2 next2) h k e = cc
same_forest nodes (Fork page seps kids next) (Fork page2 seps2 kids2 next2) h k e =
    let r = same_forest nodes next next2 h.2 k.2 cc in
    let q = same_forest nodes kids kids2 h.1 k.1 cc in
    cc

pub once_same : (n : ℕ) → once n n ≡ 1
once_same n = rw (eq-eqb n n refl)

pub once_least : (n page : ℕ) → once n page ≤ 1
once_least n page = grind arith

pub once_other : (n page : ℕ) → n ≢ page → once n page ≡ 0
once_other n page h = rw (ne_eqb n page h)

pub EachNode-agree : (P Q : ℕ → Node → Type 0) (t : Forest) → ((n : ℕ) (node : Node) → 0 < times n t → P n node → Q n node) → EachNode P t → EachNode Q t
EachNode-agree P Q Nil a h = tt
EachNode-agree P Q (Leaf page items next) a h =
    (a page _ (omega (arith, once_same page)) h.0, EachNode-agree P Q next (λ n node l. a n node (omega arith)) h.1)
EachNode-agree P Q (Fork page seps kids next) a h = (
  a page _ (omega (arith, once_same page)) h.0,
  EachNode-agree P Q kids (λ n node l. a n node (omega arith)) h.1,
  EachNode-agree P Q next (λ n node l. a n node (omega arith)) h.2,
)

-- 2. pages that agree where the forest lies hold it too
pub HoldsForest-agree : (old new : ℕ → Node) (t : Forest) → ((n : ℕ) → 0 < times n t → new n ≡ old n) → HoldsForest old t → HoldsForest new t
HoldsForest-agree old new t a h = EachNode-agree (HasNode old) (HasNode new) t (λ n node l e. a n l ∙ e) h

-- the parts of a row that fits: `left`, with the separators `lows`, ends where a separator s stands
pub Fits-and : (low high : Bound) (lows : List Entry) (s : Entry) (highs : List Entry) (t u : Forest)
    → Fits low (Some s) lows t → Fits (Some s) high highs u → Fits low high (lows ++ s ∷ highs) (t & u)
Fits-and low high lows s highs Nil u h k = absurd h
Fits-and low high [] s highs (Leaf page items next) u h k =
    (h.0, h.1, subst (λ (v : Forest). Fits (Some s) high highs (v & u)) (sym h.2) k)
Fits-and low high (l ∷ lows) s highs (Leaf page items next) u h k = (h.0, h.1, Fits-and (Some l) high lows s highs next u h.2 k)
Fits-and low high [] s highs (Fork page seps kids next) u h k =
    (h.0, h.1, subst (λ (v : Forest). Fits (Some s) high highs (v & u)) (sym h.2) k)
Fits-and low high (l ∷ lows) s highs (Fork page seps kids next) u h k = (h.0, h.1, Fits-and (Some l) high lows s highs next u h.2 k)

-- the number of trees in a row
pub Fits-count : (low high : Bound) (seps : List Entry) (t : Forest) → Fits low high seps t → length (heads t) ≡ length seps + 1
Fits-count low high seps Nil h = absurd h
Fits-count low high [] (Leaf page items next) h = rw h.2 (omega arith)
Fits-count low high (l ∷ seps) (Leaf page items next) h = omega (arith, Fits-count (Some l) high seps next h.2)
Fits-count low high [] (Fork page inner kids next) h = rw h.2 (omega arith)
Fits-count low high (l ∷ seps) (Fork page inner kids next) h = omega (arith, Fits-count (Some l) high seps next h.2)

pub Fits-from_and : (low high : Bound) (lows : List Entry) (s : Entry) (highs : List Entry) (t u : Forest)
    → length (heads t) ≡ length lows + 1 → Fits low high (lows ++ s ∷ highs) (t & u) → Fits low (Some s) lows t × Fits (Some s) high highs u
Fits-from_and low high lows s highs Nil u e h = absurd (omega arith)
Fits-from_and low high [] s highs (Leaf page items Nil) u e h = ((h.0, h.1, refl), h.2)
Fits-from_and low high [] s highs (Leaf page items (Leaf p i n)) u e h = absurd (omega arith)
Fits-from_and low high [] s highs (Leaf page items (Fork p i k n)) u e h = absurd (omega arith)
Fits-from_and low high (l ∷ lows) s highs (Leaf page items next) u e h =
    let r = Fits-from_and (Some l) high lows s highs next u (omega arith) h.2 in ((h.0, h.1, r.0), r.1)
Fits-from_and low high [] s highs (Fork page seps kids Nil) u e h = ((h.0, h.1, refl), h.2)
Fits-from_and low high [] s highs (Fork page seps kids (Leaf p i n)) u e h = absurd (omega arith)
Fits-from_and low high [] s highs (Fork page seps kids (Fork p i k n)) u e h = absurd (omega arith)
Fits-from_and low high (l ∷ lows) s highs (Fork page seps kids next) u e h =
    let r = Fits-from_and (Some l) high lows s highs next u (omega arith) h.2 in ((h.0, h.1, r.0), r.1)
