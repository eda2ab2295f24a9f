-- The changes of a tree.
use Rattle.std.proofs.Common.{◌≡◌, ◌≢◌, ◌<◌, ◌≤◌, ◌+◌, ℕ, zero, suc, List, [], ◌∷◌, ◌++◌, refl, arith, sym, ◌∙◌, subst, length, inl, inr}
use Rattle.std.proofs.lemmas.Bool.{cases_eq}
use Rattle.std.specs.Prelude.{None}
use Rattle.entry_tree.proofs.FitsLemmas.{Fits-room, fork_halves, leaf_halves}
use Rattle.entry_tree.proofs.ForestLemmas.{EachNode-and, EachNode-from_and, HoldsForest-agree, leaf_entries-and, once_least, once_other, once_same, times-and}
use Rattle.entry_tree.proofs.TreePlacesLemmas.{EachNode-from_plug, EachNode-plug, Fits-frame, Fits-plug, leaf_entries-plug, times-plug}
use Rattle.entry_tree.specs.EntryBounds.{Bound, Rises, Room}
use Rattle.entry_tree.specs.Forest.{Fits, Forest, HasNode, HoldsForest, IsTree, NoPageTwice, leaf_entries, heads, once, times, ◌&◌}
use Rattle.entry_tree.specs.Forest.Forest.{Fork, Leaf, Nil}
use Rattle.entry_tree.specs.TreeChanges.{IsTreeChange}
use Rattle.entry_tree.specs.TreePlaces.{AreMatched, Frame, first_or, high_of, last_or, low_of, plug, times_beside}
use Rattle.mdc_words.specs.ByteOrder.{Entry}
use Rattle.node_page.specs.Node.{Node}
use Rattle.node_page.specs.Node.Node.{InnerNode, LeafNode}

-- a page beside the place isn't in what stands there, before or after
pub untouched : (old new : ℕ → Node) (low high : Bound) (fs : List Frame) (t u : Forest) → NoPageTwice (plug fs t) → IsTreeChange old new low high (plug fs t) t u
    → (n : ℕ) → 0 < times_beside n fs → new n ≡ old n
untouched old new low high fs t u d c n l =
    let one : times_beside n fs + times n t ≤ 1 = omega (arith, d n, times-plug n fs t) in
    let out : times n t ≡ 0 = omega arith in
    c.wrote n out (go (times n u) refl out)
  where
    go : (k : ℕ) → times n u ≡ k → times n t ≡ 0 → times n u ≡ 0
    go zero e o = e
    go (suc k) e o = let f = c.fresh n (omega arith) o in absurd (omega (arith, f, times-plug n fs t))

-- a change at a place makes a tree of the whole
pub changed : (old new : ℕ → Node) (root : ℕ) (fs : List Frame) (t u : Forest) (page : ℕ) → AreMatched fs → heads t ≡ page ∷ []
    → IsTree old root (plug fs t) → IsTreeChange old new (low_of None fs) (high_of None fs) (plug fs t) t u → IsTree new root (plug fs u)
changed old new root fs t u page m e w c =
    record {
      head = heads-plug fs t u c.head ∙ w.head;
      holds = EachNode-plug (HasNode old) (HasNode new) fs t u (λ n node l h. untouched old new _ _ fs t u w.distinct c n l ∙ h) c.head w.holds c.holds;
      fits = (Fits-plug None None fs t page m e w.fits).1 u c.fits;
      distinct = λ n. alone n (times n t) refl;
    }
  where
    heads-plug : (fs : List Frame) (t u : Forest) → heads u ≡ heads t → heads (plug fs u) ≡ heads (plug fs t)
    heads-plug [] t u e = e
    heads-plug (f ∷ fs) t u e = heads-plug fs _ _ refl

    alone : (n k : ℕ) → times n t ≡ k → times n (plug fs u) ≤ 1
    alone n (suc k) o = omega (arith, times-plug n fs t, times-plug n fs u, w.distinct n, c.distinct n)
    alone n zero o = new_page (times n u) refl
      where
        new_page : (k : ℕ) → times n u ≡ k → times n (plug fs u) ≤ 1
        new_page zero p = omega (arith, times-plug n fs t, times-plug n fs u, w.distinct n)
        new_page (suc k) p = let f = c.fresh n (omega arith) o in omega (arith, f, times-plug n fs t, times-plug n fs u, c.distinct n)

-- 3. other leaf_entries in a leaf
pub leaf_change : (old new : ℕ → Node) (low high : Bound) (whole : Forest) (page : ℕ) (items more : List Entry)
    → Room low high → Rises low high more → new page ≡ LeafNode more → ((n : ℕ) → n ≢ page → new n ≡ old n)
    → IsTreeChange old new low high whole (Leaf page items Nil) (Leaf page more Nil)
leaf_change old new low high whole page items more r h e w =
    record {
      head = refl;
      holds = (e, tt);
      fits = (r, h, refl);
      distinct = λ n. at_most n page;
      fresh = λ n l o. absurd (omega arith);
      wrote = λ n o p. w n (λ (q : n ≡ page). let s = once_same page in subst (λ (k : ℕ). once k page + 0 ≡ 0 → ⊥) (sym q) (λ z. omega arith) o);
    }
  where
    at_most : (n p : ℕ) → once n p + 0 ≤ 1
    at_most n p = grind arith

-- 4, 6. A node's child becomes a row: itself changed, two halves, or none. `fits` is by Fits-frame, or by drop_first or drop_later.
pub row_change : (old new : ℕ → Node) (low high : Bound) (whole : Forest) (page : ℕ) (seps more : List Entry) (left child row right : Forest)
    → Fits low high more (left & (row & right)) → HoldsForest old (Fork page seps (left & (child & right)) Nil)
    → NoPageTwice whole → ((n : ℕ) → times n (Fork page seps (left & (child & right)) Nil) ≤ times n whole)
    → HoldsForest new row → NoPageTwice row → ((n : ℕ) → 0 < times n row → times n child ≡ 0 → times n whole ≡ 0)
    → new page ≡ InnerNode more (heads (left & (row & right)))
    → ((n : ℕ) → n ≢ page → times n child ≡ 0 → times n row ≡ 0 → new n ≡ old n)
    → IsTreeChange old new low high whole (Fork page seps (left & (child & right)) Nil) (Fork page more (left & (row & right)) Nil)
row_change old new low high whole page seps more left child row right f h d i k e n w m =
    record {
      head = refl;
      holds = (w, EachNode-and (HasNode new) left (row & right) (keeps left (λ j. omega (arith, counts j)) l.0) (EachNode-and (HasNode new) row right k (keeps right (λ j. omega (arith, counts j)) r.1)), tt);
      fits = (Fits-room low high more (left & (row & right)) f, f, refl);
      distinct = λ j. alone j (times j child) refl;
      fresh = λ j p o. n j (omega (arith, counts j, counts_after j)) (omega (arith, counts j));
      wrote = λ j o p. m j (λ (q : j ≡ page). apart j q o) (omega (arith, counts j)) (omega (arith, counts_after j));
    }
  where
    l : HoldsForest old left × HoldsForest old (child & right)
    l = EachNode-from_and (HasNode old) left (child & right) h.1

    r : HoldsForest old child × HoldsForest old right
    r = EachNode-from_and (HasNode old) child right l.1

    counts : (j : ℕ) → times j (left & (child & right)) ≡ times j left + (times j child + times j right)
    counts j = omega (arith, times-and j left (child & right), times-and j child right)

    counts_after : (j : ℕ) → times j (left & (row & right)) ≡ times j left + (times j row + times j right)
    counts_after j = omega (arith, times-and j left (row & right), times-and j row right)

    apart : (j : ℕ) → j ≡ page → once j page + (times j (left & (child & right)) + 0) ≡ 0 → ⊥
    apart j q o = let s : once j page ≡ 1 = subst (λ (v : ℕ). once v page ≡ 1) (sym q) (once_same page) in omega arith

    none : (j : ℕ) → times j child ≡ 0 → 0 < times j whole → times j row ≡ 0
    none j o p = go (times j row) refl
      where
        go : (v : ℕ) → times j row ≡ v → v ≡ 0
        go zero z = refl
        go (suc v) z = let q = n j (omega arith) o in absurd (omega (arith, q))

    keeps : (t : Forest) → ((j : ℕ) → times j t + times j child ≤ times j (left & (child & right))) → HoldsForest old t → HoldsForest new t
    keeps t b g =
        HoldsForest-agree old new t
        (λ j p.
        let one : once j page + (times j (left & (child & right)) + 0) ≤ 1 = omega (arith, d j, i j) in
        let out : times j child ≡ 0 = omega (arith, b j) in
        let some : 0 < times j whole = omega (arith, b j, i j) in
        let off : once j page ≡ 0 = omega (arith, b j) in
        m j (λ (q : j ≡ page). let s : once j page ≡ 1 = subst (λ (v : ℕ). once v page ≡ 1) (sym q) (once_same page) in omega arith) out (none j out some))
        g

    alone : (j v : ℕ) → times j child ≡ v → times j (Fork page more (left & (row & right)) Nil) ≤ 1
    alone j (suc v) o = omega (arith, counts j, counts_after j, d j, i j, e j)
    alone j zero o = new_page (times j row) refl
      where
        new_page : (v : ℕ) → times j row ≡ v → times j (Fork page more (left & (row & right)) Nil) ≤ 1
        new_page zero p = omega (arith, counts j, counts_after j, d j, i j)
        new_page (suc v) p = let q = n j (omega arith) o in omega (arith, q, counts j, counts_after j, e j, i j)

pub two_pages : (a b n : ℕ) → a ≢ b → once n a + once n b ≤ 1
two_pages a b n h =
    elim (cases_eq n a) [
      | inl e ↦ subst (λ (v : ℕ). once v a + once v b ≤ 1) (sym e) (omega (arith, once_same a, once_other a b h))
      | inr d ↦ let z = once_other n a d in omega (arith, once_least n b)
    ]

-- one new page more than before
pub grown : (whole child row : Forest) (fresh : ℕ) → NoPageTwice whole → ((n : ℕ) → times n child ≤ times n whole) → times fresh whole ≡ 0
    → ((n : ℕ) → times n row ≡ times n child + once n fresh)
    → NoPageTwice row × ((n : ℕ) → 0 < times n row → times n child ≡ 0 → times n whole ≡ 0)
grown whole child row fresh d i z g = (
  (λ n. elim (cases_eq n fresh) [
    | inl e ↦ omega (arith, g n, i n, once_least n fresh, here n e)
    | inr o ↦ omega (arith, g n, i n, d n, once_other n fresh o)
  ]),
  (λ n l o. elim (cases_eq n fresh) [
    | inl e ↦ here n e
    | inr f ↦ absurd (omega (arith, g n, once_other n fresh f))
  ]),
)
  where
    here : (n : ℕ) → n ≡ fresh → times n whole ≡ 0
    here n e = subst (λ (v : ℕ). times v whole ≡ 0) (sym e) z

pub within_plug : (fs : List Frame) (page : ℕ) (seps : List Entry) (left child right : Forest) (n : ℕ)
    → (times n (Fork page seps (left & (child & right)) Nil) ≤ times n (plug fs (Fork page seps (left & (child & right)) Nil)))
    × (times n child ≤ times n (plug fs (Fork page seps (left & (child & right)) Nil)))
within_plug fs page seps left child right n =
    let p = times-plug n fs (Fork page seps (left & (child & right)) Nil) in
    (omega (arith, p), omega (arith, p, times-and n left (child & right), times-and n child right))

-- 4. A child of a node is split in two, one of them on a new page. `halves` is by leaf_halves or fork_halves.
pub child_split : (old new : ℕ → Node) (root : ℕ) (fs : List Frame) (page : ℕ) (lows : List Entry) (s : Entry) (highs : List Entry) (left child row right : Forest) (q fresh : ℕ)
    → AreMatched fs → length (heads left) ≡ length lows → heads child ≡ q ∷ []
    → IsTree old root (plug fs (Fork page (lows ++ highs) (left & (child & right)) Nil))
    → Fits (last_or (low_of None fs) lows) (first_or highs (high_of None fs)) (s ∷ []) row
    → HoldsForest new row → ((n : ℕ) → times n row ≡ times n child + once n fresh)
    → times fresh (plug fs (Fork page (lows ++ highs) (left & (child & right)) Nil)) ≡ 0
    → new page ≡ InnerNode (lows ++ s ∷ highs) (heads (left & (row & right)))
    → ((n : ℕ) → n ≢ page → times n child ≡ 0 → n ≢ fresh → new n ≡ old n)
    → IsTree new root (plug fs (Fork page (lows ++ s ∷ highs) (left & (row & right)) Nil))
child_split old new root fs page lows s highs left child row right q fresh m c e w halves k g z p o =
    let fit = Fits-plug None None fs (Fork page (lows ++ highs) (left & (child & right)) Nil) page m refl w.fits in
    let more = Fits-frame (low_of None fs) (high_of None fs) lows highs left child right q c e fit.0.1 in
    let r = grown _ child row fresh w.distinct (λ n. (within_plug fs page (lows ++ highs) left child right n).1) z g in
    changed old new root fs (Fork page (lows ++ highs) (left & (child & right)) Nil) (Fork page (lows ++ s ∷ highs) (left & (row & right)) Nil) page m refl w
    (row_change old new _ _ _ page (lows ++ highs) (lows ++ s ∷ highs) left child row right
    (more.1 (s ∷ []) row halves) (EachNode-from_plug (HasNode old) fs (Fork page (lows ++ highs) (left & (child & right)) Nil) w.holds) w.distinct
    (λ n. (within_plug fs page (lows ++ highs) left child right n).0) k r.0 r.1 p
    (λ n a b f. o n a b (λ (x : n ≡ fresh). let y : once n fresh ≡ 1 = subst (λ (v : ℕ). once v fresh ≡ 1) (sym x) (once_same fresh) in omega (arith, g n, y))))

pub split_entries : (fs : List Frame) (page : ℕ) (seps more : List Entry) (left child row right : Forest) → leaf_entries row ≡ leaf_entries child
    → leaf_entries (plug fs (Fork page more (left & (row & right)) Nil)) ≡ leaf_entries (plug fs (Fork page seps (left & (child & right)) Nil))
split_entries fs page seps more left child row right e = simp (leaf_entries-plug, leaf_entries-and, e)

-- 5. A root becomes an inner node over two new pages, that take what it had.
pub root_split : (new : ℕ → Node) (root : ℕ) (seps : List Entry) (row : Forest)
    → Fits None None seps row → HoldsForest new row → NoPageTwice row → times root row ≡ 0 → new root ≡ InnerNode seps (heads row)
    → IsTree new root (Fork root seps row Nil)
root_split new root seps row f h d z e =
    record {
      head = refl;
      holds = (e, h, tt);
      fits = (tt, f, refl);
      distinct = λ n. elim (cases_eq n root) [
        | inl q ↦ subst (λ (v : ℕ). once v root + (times v row + 0) ≤ 1) (sym q) (omega (arith, once_same root))
        | inr o ↦ omega (arith, once_other n root o, d n)
      ];
    }

pub root_leaf_split : (new : ℕ → Node) (root a b : ℕ) (x : Entry) (xs : List Entry) (y : Entry) (ys : List Entry)
    → Rises None None ((x ∷ xs) ++ y ∷ ys) → a ≢ b → root ≢ a → root ≢ b
    → new root ≡ InnerNode (y ∷ []) (a ∷ b ∷ []) → new a ≡ LeafNode (x ∷ xs) → new b ≡ LeafNode (y ∷ ys)
    → IsTree new root (Fork root (y ∷ []) (Leaf a (x ∷ xs) (Leaf b (y ∷ ys) Nil)) Nil)
root_leaf_split new root a b x xs y ys f ab ra rb e k m =
    root_split new root (y ∷ []) (Leaf a (x ∷ xs) (Leaf b (y ∷ ys) Nil)) (leaf_halves None None x xs y ys a b f) (k, (m, tt))
    (λ n. omega (arith, two_pages a b n ab)) (omega (arith, once_other root a ra, once_other root b rb)) e

pub root_fork_split : (old new : ℕ → Node) (root a b : ℕ) (lows : List Entry) (s : Entry) (highs : List Entry) (left right : Forest)
    → IsTree old root (Fork root (lows ++ s ∷ highs) (left & right) Nil) → length (heads left) ≡ length lows + 1
    → times a (Fork root (lows ++ s ∷ highs) (left & right) Nil) ≡ 0 → times b (Fork root (lows ++ s ∷ highs) (left & right) Nil) ≡ 0 → a ≢ b
    → new root ≡ InnerNode (s ∷ []) (a ∷ b ∷ []) → new a ≡ InnerNode lows (heads left) → new b ≡ InnerNode highs (heads right)
    → ((n : ℕ) → n ≢ root → n ≢ a → n ≢ b → new n ≡ old n)
    → IsTree new root (Fork root (s ∷ []) (Fork a lows left (Fork b highs right Nil)) Nil)
root_fork_split old new root a b lows s highs left right w c za zb ab e k m o =
    root_split new root (s ∷ []) (Fork a lows left (Fork b highs right Nil)) (fork_halves None None lows s highs left right a b c w.fits.1)
    (k, keeps left (λ n. omega (arith, times-and n left right)) l.0, (m, keeps right (λ n. omega (arith, times-and n left right)) l.1, tt))
    (λ n. elim (cases_eq n a) [
      | inl q ↦ subst (λ (v : ℕ). times v (Fork a lows left (Fork b highs right Nil)) ≤ 1) (sym q)
          (omega (arith, times-and a left right, once_same a, once_other a b ab))
      | inr p ↦ elim (cases_eq n b) [
        | inl q ↦ subst (λ (v : ℕ). times v (Fork a lows left (Fork b highs right Nil)) ≤ 1) (sym q)
            (omega (arith, times-and b left right, once_same b, once_other b a (λ (g : b ≡ a). ab (sym g))))
        | inr r ↦ omega (arith, times-and n left right, once_other n a p, once_other n b r, w.distinct n)
      ]
    ])
    (omega (arith, w.distinct root, times-and root left right, once_same root, off a za, off b zb)) e
  where
    l : HoldsForest old left × HoldsForest old right
    l = EachNode-from_and (HasNode old) left right w.holds.1

    off : (p : ℕ) → times p (Fork root (lows ++ s ∷ highs) (left & right) Nil) ≡ 0 → once root p ≡ 0
    off p z = once_other root p (λ (q : root ≡ p). let y : once p root ≡ 1 = subst (λ (v : ℕ). once v root ≡ 1) q (once_same root) in omega (arith, y))

    away : (p n : ℕ) → times p (Fork root (lows ++ s ∷ highs) (left & right) Nil) ≡ 0 → 0 < times n (left & right) → n ≢ p
    away p n z i q = let y : times n (left & right) ≡ 0 = subst (λ (v : ℕ). times v (left & right) ≡ 0) (sym q) (omega arith) in omega arith

    keeps : (t : Forest) → ((n : ℕ) → times n t ≤ times n (left & right)) → HoldsForest old t → HoldsForest new t
    keeps t i h =
        HoldsForest-agree old new t
        (λ n p. o n
        (λ (q : n ≡ root). let y : once n root ≡ 1 = subst (λ (v : ℕ). once v root ≡ 1) (sym q) (once_same root) in omega (arith, y, i n, w.distinct n))
        (away a n za (omega (arith, i n))) (away b n zb (omega (arith, i n))))
        h
