-- A leaf keeps some of its entries, or leaves its tree with what it had.
use Rattle.std.proofs.Common.{◌≡◌, ◌≢◌, ◌<◌, ◌+◌, ◌-◌, ℕ, zero, suc, List, [], ◌∷◌, ◌++◌, refl, ap, arith, sym, ◌∙◌, subst, append_assoc, append-nil, length, get_or, length-append, eq-eqb, ne_eqb}
use Rattle.std.specs.Prelude.{None, if◌then◌else◌, ◌==◌}
use Rattle.std.specs.List.{remove}
use Rattle.mdc_words.specs.ByteOrder.{Entry}
use Rattle.node_page.specs.Node.{Node}
use Rattle.node_page.specs.Node.Node.{InnerNode, LeafNode}
use Rattle.entry_tree.specs.EntryBounds.{Bound, Rises}
use Rattle.entry_tree.specs.Forest.{EachNode, Fits, Forest, HasNode, HoldsEntry, HoldsForest, IsTree, IsTrimTree, filled_leaves, leaf_entries, heads, once, times, ◌&◌}
use Rattle.entry_tree.specs.Forest.Forest.{Fork, Leaf, Nil}
use Rattle.entry_tree.specs.Pruning.{IsPruned}
use Rattle.entry_tree.specs.TreePlaces.{AreMatched, Frame, entries_before, entries_behind, leaves_before, leaves_behind, high_of, low_of, plug}
use Rattle.entry_tree.proofs.DropLemmas.{child_dropped, collapsed, moved, node_of as node_at}
use Rattle.entry_tree.proofs.FitsLemmas.{drop_first, drop_later}
use Rattle.entry_tree.proofs.ForestLemmas.{EachNode-and, EachNode-from_and, Fits-count, filled_leaves-and, leaf_entries-and, heads-and, once_same, times-and}
use Rattle.entry_tree.proofs.LeavesLemmas.{HoldsEntry-moved}
use Rattle.entry_tree.proofs.TreeChangesLemmas.{changed, leaf_change}
use Rattle.entry_tree.proofs.TreePlacesLemmas.{EachNode-from_plug, Fits-plug, filled_leaves-plug, leaf_entries-plug, times-plug}

-- a tree stays trim where what stands at a place of it does
pub IsTrimTree-plug : (fs : List Frame) (t u : Forest) → (EachNode HoldsEntry t → EachNode HoldsEntry u) → (IsTrimTree t → IsTrimTree u) → IsTrimTree (plug fs t) → IsTrimTree (plug fs u)
IsTrimTree-plug [] t u filled trim h = trim h
IsTrimTree-plug (f ∷ fs) t u filled trim h =
    IsTrimTree-plug fs (Fork f.page (f.lows ++ f.highs) (f.left & (t & f.right)) Nil) (Fork f.page (f.lows ++ f.highs) (f.left & (u & f.right)) Nil)
    (λ k. (tt, around k.1, tt)) around h
  where
    around : EachNode HoldsEntry (f.left & (t & f.right)) → EachNode HoldsEntry (f.left & (u & f.right))
    around k =
        let l = EachNode-from_and HoldsEntry f.left (t & f.right) k in
        let r = EachNode-from_and HoldsEntry t f.right l.1 in
        EachNode-and HoldsEntry f.left (u & f.right) l.0 (EachNode-and HoldsEntry u f.right (filled r.0) r.1)

-- the leaf keeps these entries
pub pruned_leaf : (old new : ℕ → Node) (root page : ℕ) (items kept : List Entry) (above : List Frame)
    → AreMatched above → IsTree old root (plug above (Leaf page items Nil)) → IsTrimTree (plug above (Leaf page items Nil))
    → Rises (low_of None above) (high_of None above) kept → (kept ≡ [] → above ≡ [])
    → new page ≡ LeafNode kept → ((n : ℕ) → n ≢ page → new n ≡ old n)
    → IsPruned new root (plug above (Leaf page items Nil)) above kept []
pruned_leaf old new root page items kept above m w trim rises some there others =
    let f = Fits-plug None None above (Leaf page items Nil) page m refl w.fits in
    record {
      after = plug above (Leaf page kept Nil);
      tree = changed old new root above (Leaf page items Nil) (Leaf page kept Nil) page m refl w
          (leaf_change old new _ _ (plug above (Leaf page items Nil)) page items kept f.0.0 rises there others);
      trim = trimmed above some trim;
      entries = leaf_entries-plug above (Leaf page kept Nil) ∙ simp append-nil;
      leaves = filled_leaves-plug above (Leaf page kept Nil) ∙ simp append-nil;
      counts = λ n. omega (arith, times-plug n above (Leaf page items Nil), times-plug n above (Leaf page kept Nil));
    }
  where
    filled : (kept : List Entry) → (kept ≡ [] → ⊥) → EachNode HoldsEntry (Leaf page items Nil) → EachNode HoldsEntry (Leaf page kept Nil)
    filled [] some h = absurd (some refl)
    filled (x ∷ kept) some h = (tt, tt)

    trimmed : (above : List Frame) → (kept ≡ [] → above ≡ []) → IsTrimTree (plug above (Leaf page items Nil)) → IsTrimTree (plug above (Leaf page kept Nil))
    trimmed [] some h = tt
    trimmed (f ∷ fs) some h = IsTrimTree-plug (f ∷ fs) (Leaf page items Nil) (Leaf page kept Nil) (filled kept (λ e. let none = some e in cc)) (λ k. tt) h

-- a list with its last element apart
record Ended (xs : List Entry) : Type 0 where
  front : List Entry
  last : Entry
  whole : xs ≡ front ++ last ∷ []

ended : (x : Entry) (xs : List Entry) → Ended (x ∷ xs)
ended x [] = record { front = []; last = x; whole = refl }
ended x (y ∷ ys) = let r = ended y ys in record { front = x ∷ r.front; last = r.last; whole = ap (λ (l : List Entry). x ∷ l) r.whole }

remove-middle : {A : Type 0} (xs : List A) (y : A) (ys : List A) → remove (xs ++ y ∷ ys) (length xs) ≡ xs ++ ys
remove-middle [] y ys = refl
remove-middle (x ∷ xs) y ys = ap (λ l. x ∷ l) (remove-middle xs y ys)

-- the children without the one that stands behind `left`
heads-remove : (left right : Forest) (page : ℕ) (items : List Entry) → remove (heads (left & Leaf page items right)) (length (heads left)) ≡ heads (left & right)
heads-remove left right page items =
    ap (λ (l : List ℕ). remove l (length (heads left))) (heads-and left (Leaf page items right))
    ∙ (remove-middle (heads left) page (heads right) ∙ sym (heads-and left right))

-- the bounds of the children that are left, with the separators that are left
fits_without : (low high : Bound) (lows highs : List Entry) (left right : Forest) (page : ℕ) (items : List Entry)
    → length (heads left) ≡ length lows → 0 < length (lows ++ highs) → Fits low high (lows ++ highs) (left & Leaf page items right)
    → Fits low high (remove (lows ++ highs) (length lows - 1)) (left & right)
fits_without low high [] [] left right page items c some f = absurd (omega arith)
fits_without low high [] (s ∷ highs) Nil right page items c some f = drop_first low high s highs (Leaf page items Nil) right page refl f
fits_without low high [] (s ∷ highs) (Leaf p i n) right page items c some f = absurd (omega (arith, c))
fits_without low high [] (s ∷ highs) (Fork p i k n) right page items c some f = absurd (omega (arith, c))
fits_without low high (l ∷ lows) highs left right page items c some f =
    let e = ended l lows in
    let whole : (l ∷ lows) ++ highs ≡ e.front ++ e.last ∷ highs = ap (λ (k : List Entry). k ++ highs) e.whole ∙ append_assoc e.front (e.last ∷ []) highs in
    let many : length lows ≡ length e.front = omega (arith, ap length e.whole, length-append e.front (e.last ∷ [])) in
    let place : length (l ∷ lows) - 1 ≡ length e.front = omega arith in
    let is : remove ((l ∷ lows) ++ highs) (length (l ∷ lows) - 1) ≡ e.front ++ highs = rw (whole, place) (remove-middle e.front e.last highs) in
    subst (λ (k : List Entry). Fits low high k (left & right)) (sym is)
    (drop_later low high e.front e.last highs left (Leaf page items Nil) right page (omega (arith, c)) refl
    (subst (λ (k : List Entry). Fits low high k (left & Leaf page items right)) whole f))

-- the entries without the leaf
entries_without : (fs : List Frame) (page : ℕ) (more : List Entry) (left right : Forest)
    → leaf_entries (plug fs (Fork page more (left & right) Nil)) ≡ (entries_before fs ++ leaf_entries left) ++ (leaf_entries right ++ entries_behind fs)
entries_without fs page more left right = leaf_entries-plug fs (Fork page more (left & right) Nil) ∙ simp (leaf_entries-and, append-nil, append_assoc)

-- and the leaves
leaves_without : (fs : List Frame) (page : ℕ) (more : List Entry) (left right : Forest)
    → filled_leaves (plug fs (Fork page more (left & right) Nil)) ≡ (leaves_before fs ++ filled_leaves left) ++ (filled_leaves right ++ leaves_behind fs)
leaves_without fs page more left right = filled_leaves-plug fs (Fork page more (left & right) Nil) ∙ simp (filled_leaves-and, append-nil, append_assoc)

-- a page that isn't that of a leaf
apart_from : (n page : ℕ) (items : List Entry) → times n (Leaf page items Nil) ≡ 0 → n ≢ page
apart_from n page items z e = let one : once n page ≡ 1 = subst (λ (v : ℕ). once v page ≡ 1) (sym e) (once_same page) in omega arith

-- The leaf keeps none, and leaves a node that has more separators than one. What its page is now isn't said.
pub pruned_fork : (old new : ℕ → Node) (root page : ℕ) (items : List Entry) (f : Frame) (fs : List Frame)
    → AreMatched (f ∷ fs) → IsTree old root (plug (f ∷ fs) (Leaf page items Nil)) → IsTrimTree (plug (f ∷ fs) (Leaf page items Nil))
    → 1 < length (f.lows ++ f.highs)
    → new f.page ≡ InnerNode (remove (f.lows ++ f.highs) (length f.lows - 1)) (remove (heads (f.left & Leaf page items f.right)) (length f.lows))
    → ((n : ℕ) → n ≢ f.page → n ≢ page → new n ≡ old n)
    → IsPruned new root (plug (f ∷ fs) (Leaf page items Nil)) (f ∷ fs) [] (page ∷ [])
pruned_fork old new root page items f fs m w trim some there others =
    let fit = Fits-plug None None fs (Fork f.page (f.lows ++ f.highs) (f.left & Leaf page items f.right) Nil) f.page m.1 refl w.fits in
    let more : List Entry = remove (f.lows ++ f.highs) (length f.lows - 1) in
    let children : remove (heads (f.left & Leaf page items f.right)) (length f.lows) ≡ heads (f.left & f.right) =
    ap (remove (heads (f.left & Leaf page items f.right))) (sym m.0) ∙ heads-remove f.left f.right page items in
    record {
      after = plug fs (Fork f.page more (f.left & f.right) Nil);
      tree = child_dropped old new root fs f.page (f.lows ++ f.highs) more f.left (Leaf page items Nil) f.right m.1 w
          (fits_without _ _ f.lows f.highs f.left f.right page items m.0 (omega arith) fit.0.1)
          (there ∙ ap (InnerNode more) children) (λ n d z. others n d (apart_from n page items z));
      trim = IsTrimTree-plug fs (Fork f.page (f.lows ++ f.highs) (f.left & Leaf page items f.right) Nil) (Fork f.page more (f.left & f.right) Nil)
          (λ k. (tt, less k.1, tt)) less trim;
      entries = entries_without fs f.page more f.left f.right;
      leaves = leaves_without fs f.page more f.left f.right;
      counts = λ n. omega (
        arith,
        times-plug n fs (Fork f.page (f.lows ++ f.highs) (f.left & Leaf page items f.right) Nil),
        times-plug n fs (Fork f.page more (f.left & f.right) Nil),
        times-and n f.left (Leaf page items f.right),
        times-and n f.left f.right,
      );
    }
  where
    less : EachNode HoldsEntry (f.left & Leaf page items f.right) → EachNode HoldsEntry (f.left & f.right)
    less k =
        let l = EachNode-from_and HoldsEntry f.left (Leaf page items f.right) k in
        EachNode-and HoldsEntry f.left f.right l.0 l.1.1

-- a tree on another page has the same entries and leaves, and its pages but for the one that it leaves
leaf_entries-moved : (page : ℕ) (child : Forest) → leaf_entries (moved page child) ≡ leaf_entries child
leaf_entries-moved page Nil = refl
leaf_entries-moved page (Leaf p items next) = refl
leaf_entries-moved page (Fork p seps kids next) = refl

filled_leaves-moved : (page : ℕ) (child : Forest) → filled_leaves (moved page child) ≡ filled_leaves child
filled_leaves-moved page Nil = refl
filled_leaves-moved page (Leaf p items next) = refl
filled_leaves-moved page (Fork p seps kids next) = refl

times-moved : (n page q : ℕ) (child : Forest) → heads child ≡ q ∷ [] → times n (moved page child) + once n q ≡ once n page + times n child
times-moved n page q Nil e = cc
times-moved n page q (Leaf p items next) e = let same : p ≡ q = cc in subst (λ (v : ℕ). once n page + times n next + once n v ≡ once n page + (once n p + times n next)) same (omega arith)
times-moved n page q (Fork p seps kids next) e =
    let same : p ≡ q = cc in
    subst (λ (v : ℕ). once n page + (times n kids + times n next) + once n v ≡ once n page + (once n p + (times n kids + times n next))) same (omega arith)

trim_moved : (page q : ℕ) (child : Forest) → heads child ≡ q ∷ [] → EachNode HoldsEntry child → EachNode HoldsEntry (moved page child) × IsTrimTree (moved page child)
trim_moved page q Nil e h = cc
trim_moved page q (Leaf p items next) e h = ((HoldsEntry-moved p page items h.0, h.1), tt)
trim_moved page q (Fork p seps kids next) e h = (h, h.1)

-- the node of the first tree of a row, where the pages hold it
pub node_there : (nodes : ℕ → Node) (q : ℕ) (child : Forest) → heads child ≡ q ∷ [] → HoldsForest nodes child → nodes q ≡ node_at child
node_there nodes q Nil e h = cc
node_there nodes q (Leaf p items next) e h = let same : p ≡ q = cc in ap nodes (sym same) ∙ h.0
node_there nodes q (Fork p seps kids next) e h = let same : p ≡ q = cc in ap nodes (sym same) ∙ h.0

-- the pages with another node at one
with_node : (ℕ → Node) → ℕ → Node → ℕ → Node
with_node nodes page node n = if n == page then node else nodes n

with_node-there : (nodes : ℕ → Node) (page : ℕ) (node : Node) → with_node nodes page node page ≡ node
unfolding with_node
with_node-there nodes page node = rw (eq-eqb page page refl)

with_node-other : (nodes : ℕ → Node) (page : ℕ) (node : Node) (n : ℕ) → n ≢ page → with_node nodes page node n ≡ nodes n
unfolding with_node
with_node-other nodes page node n d = rw (ne_eqb n page d)

-- a node over a leaf that keeps none and over one other tree takes what that one has
collapsed_over : (old new : ℕ → Node) (root page b : ℕ) (items : List Entry) (f : Frame) (fs : List Frame)
    → AreMatched fs → IsTree old root (plug (f ∷ fs) (Leaf page items Nil)) → IsTrimTree (plug (f ∷ fs) (Leaf page items Nil))
    → Fits (low_of None fs) (high_of None fs) [] (f.left & f.right) → heads (f.left & f.right) ≡ b ∷ []
    → new f.page ≡ old b → ((n : ℕ) → n ≢ f.page → n ≢ page → new n ≡ old n)
    → IsPruned new root (plug (f ∷ fs) (Leaf page items Nil)) (f ∷ fs) [] (b ∷ page ∷ [])
collapsed_over old new root page b items f fs m w trim fit e there others =
    record {
      after = plug fs (moved f.page (f.left & f.right));
      tree = collapsed mid new root fs f.page b (f.left & f.right) m e
          (child_dropped old mid root fs f.page (f.lows ++ f.highs) [] f.left (Leaf page items Nil) f.right m w fit
          (with_node-there new f.page lone) (λ n d z. with_node-other new f.page lone n d ∙ others n d (apart_from n page items z)))
          (there ∙ node_there old b (f.left & f.right) e held) (λ n d z. sym (with_node-other new f.page lone n d));
      trim = IsTrimTree-plug fs (Fork f.page (f.lows ++ f.highs) (f.left & Leaf page items f.right) Nil) (moved f.page (f.left & f.right))
          (λ k. (trim_moved f.page b (f.left & f.right) e (less k.1)).0) (λ k. (trim_moved f.page b (f.left & f.right) e (less k)).1) trim;
      entries = leaf_entries-plug fs (moved f.page (f.left & f.right))
          ∙ rw (leaf_entries-moved f.page (f.left & f.right), leaf_entries-and) (simp append_assoc);
      leaves = filled_leaves-plug fs (moved f.page (f.left & f.right))
          ∙ rw (filled_leaves-moved f.page (f.left & f.right), filled_leaves-and) (simp append_assoc);
      counts = λ n. omega (
        arith,
        times-plug n fs (Fork f.page (f.lows ++ f.highs) (f.left & Leaf page items f.right) Nil),
        times-plug n fs (moved f.page (f.left & f.right)),
        times-moved n f.page b (f.left & f.right) e,
        times-and n f.left (Leaf page items f.right),
        times-and n f.left f.right,
      );
    }
  where
    lone : Node
    lone = InnerNode [] (heads (f.left & f.right))

    mid : ℕ → Node
    mid = with_node new f.page lone

    held : HoldsForest old (f.left & f.right)
    held =
        let around = EachNode-from_plug (HasNode old) fs (Fork f.page (f.lows ++ f.highs) (f.left & Leaf page items f.right) Nil) w.holds in
        let l = EachNode-from_and (HasNode old) f.left (Leaf page items f.right) around.1 in
        EachNode-and (HasNode old) f.left f.right l.0 l.1.1

    less : EachNode HoldsEntry (f.left & Leaf page items f.right) → EachNode HoldsEntry (f.left & f.right)
    less k =
        let l = EachNode-from_and HoldsEntry f.left (Leaf page items f.right) k in
        EachNode-and HoldsEntry f.left f.right l.0 l.1.1

-- the one element beside another
sole_beside : (xs ys : List ℕ) (page : ℕ) → length xs + length ys ≡ 1 → xs ++ ys ≡ get_or (xs ++ page ∷ ys) (1 - length xs) 0 ∷ []
sole_beside [] [] page e = absurd (omega arith)
sole_beside [] (y ∷ []) page e = refl
sole_beside [] (y ∷ z ∷ ys) page e = absurd (omega arith)
sole_beside (x ∷ []) [] page e = refl
sole_beside (x ∷ []) (y ∷ ys) page e = absurd (omega arith)
sole_beside (x ∷ z ∷ xs) ys page e = absurd (omega arith)

-- the one other child of a node with one separator
pub other_heads : (low high : Bound) (root page b : ℕ) (items : List Entry) (f : Frame)
    → length (heads f.left) ≡ length f.lows → Fits low high (f.lows ++ f.highs) (f.left & Leaf page items f.right)
    → length (f.lows ++ f.highs) ≡ 1 → b ≡ get_or (heads (f.left & Leaf page items f.right)) (1 - length f.lows) 0
    → heads (f.left & f.right) ≡ b ∷ []
other_heads low high root page b items f m fit one is =
    let count : length (heads (f.left & Leaf page items f.right)) ≡ 2 = omega (arith, Fits-count _ _ (f.lows ++ f.highs) (f.left & Leaf page items f.right) fit) in
    let around : heads (f.left & Leaf page items f.right) ≡ heads f.left ++ page ∷ heads f.right = heads-and f.left (Leaf page items f.right) in
    let few : length (heads f.left) + length (heads f.right) ≡ 1 = omega (arith, ap length around, length-append (heads f.left) (page ∷ heads f.right)) in
    heads-and f.left f.right ∙ (sole_beside (heads f.left) (heads f.right) page few ∙ ap (λ (v : ℕ). v ∷ []) (rw (← around, m) (sym is)))

-- The same of a node that has one separator: it takes what its other child has.
pub pruned_collapsed : (old new : ℕ → Node) (root page b : ℕ) (items : List Entry) (f : Frame) (fs : List Frame)
    → AreMatched (f ∷ fs) → IsTree old root (plug (f ∷ fs) (Leaf page items Nil)) → IsTrimTree (plug (f ∷ fs) (Leaf page items Nil))
    → length (f.lows ++ f.highs) ≡ 1 → b ≡ get_or (heads (f.left & Leaf page items f.right)) (1 - length f.lows) 0
    → new f.page ≡ old b → ((n : ℕ) → n ≢ f.page → n ≢ page → new n ≡ old n)
    → IsPruned new root (plug (f ∷ fs) (Leaf page items Nil)) (f ∷ fs) [] (b ∷ page ∷ [])
pruned_collapsed old new root page b items f fs m w trim one is there others =
    let fit = Fits-plug None None fs (Fork f.page (f.lows ++ f.highs) (f.left & Leaf page items f.right) Nil) f.page m.1 refl w.fits in
    let fits : Fits (low_of None fs) (high_of None fs) (remove (f.lows ++ f.highs) (length f.lows - 1)) (f.left & f.right) =
    fits_without _ _ f.lows f.highs f.left f.right page items m.0 (omega arith) fit.0.1 in
    let head : heads (f.left & f.right) ≡ b ∷ [] = other_heads _ _ root page b items f m.0 fit.0.1 one is in
    collapsed_over old new root page b items f fs m.1 w trim (none_left _ (few_left (f.lows ++ f.highs) (length f.lows - 1) one (omega (arith, length-append f.lows f.highs))) fits) head there others
  where
    few_left : (seps : List Entry) (at : ℕ) → length seps ≡ 1 → at ≡ 0 → remove seps at ≡ []
    few_left [] zero e z = refl
    few_left [] (suc at) e z = absurd (omega arith)
    few_left (s ∷ []) zero e z = refl
    few_left (s ∷ []) (suc at) e z = absurd (omega arith)
    few_left (s ∷ u ∷ seps) at e z = absurd (omega arith)

    none_left : (seps : List Entry) → seps ≡ [] → Fits (low_of None fs) (high_of None fs) seps (f.left & f.right) → Fits (low_of None fs) (high_of None fs) [] (f.left & f.right)
    none_left seps e h = subst (λ (k : List Entry). Fits (low_of None fs) (high_of None fs) k (f.left & f.right)) e h
