-- What `go_up` needs, over plain variables.
use Rattle.std.proofs.Common.{◌≡◌, ◌<◌, ◌≤◌, ◌+◌, ℕ, zero, suc, List, [], ◌∷◌, ◌++◌, length-append, refl, ap, arith, sym, ◌∙◌, subst, length, get_or, take, drop, reverse, add-one}
use Rattle.std.specs.Prelude.{None, Bool, true, false, if◌then◌else◌}
use Rattle.std.proofs.lemmas.List.{reverse-append}
use Rattle.entry_tree.proofs.AdditionLemmas.{above_kept, raised, up_end, up_step}
use Rattle.entry_tree.proofs.ForestLemmas.{once_same}
use Rattle.entry_tree.proofs.LeavesLemmas.{KeepsBeside}
use Rattle.entry_tree.proofs.TreePlacesLemmas.{EachNode-from_plug}
use Rattle.entry_tree.specs.Forest.{Forest, HasNode, IsTree, heads, once, times, ◌&◌}
use Rattle.entry_tree.specs.Forest.Forest.{Fork, Nil}
use Rattle.entry_tree.specs.TreeChanges.{AreFresh, IsAdded, IsGoingUp, IsHalfway, IsInnerCut, IsPut, IsRaised, IsTreeRow, times_among}
use Rattle.entry_tree.specs.TreePlaces.{Frame, first_or, high_of, last_or, low_of, places, plug, run_up}
use Rattle.mdc_words.specs.ByteOrder.{Entry}
use Rattle.node_page.specs.Node.{Node}
use Rattle.node_page.specs.Node.Node.{InnerNode}

times_among-suc : (n used : ℕ) (fresh : List ℕ) → used < length fresh → times_among n (take (suc used) fresh) ≡ times_among n (take used fresh) + once n (get_or fresh used 0)
times_among-suc n used [] l = absurd (omega arith)
times_among-suc n zero (p ∷ ps) l = omega arith
times_among-suc n (suc used) (p ∷ ps) l = omega (arith, times_among-suc n used ps (omega arith))

times_among-take : (n used : ℕ) (fresh : List ℕ) → used < length fresh → times_among n (take (used + 1) fresh) ≡ times_among n (take used fresh) + once n (get_or fresh used 0)
times_among-take n used fresh l = rw add-one (times_among-suc n used fresh l)

times_among-front : (n used : ℕ) (fresh : List ℕ) → times_among n (take used fresh) ≤ times_among n fresh
times_among-front n zero fresh = omega arith
times_among-front n (suc used) [] = omega arith
times_among-front n (suc used) (p ∷ ps) = omega (arith, times_among-front n used ps)

times_among-all : (n used : ℕ) (fresh : List ℕ) → length fresh ≤ used → times_among n (take used fresh) ≡ times_among n fresh
times_among-all n zero [] l = refl
times_among-all n zero (p ∷ ps) l = absurd (omega arith)
times_among-all n (suc used) [] l = refl
times_among-all n (suc used) (p ∷ ps) l = omega (arith, times_among-all n used ps (omega arith))

pub turned : (items rest : List (ℕ × ℕ)) (q : ℕ × ℕ) → items ≡ rest ++ q ∷ [] → reverse items ≡ q ∷ reverse rest
turned items rest q e = ap reverse e ∙ reverse-append rest (q ∷ [])

pub above_same : (width : ℕ) (old now : ℕ → Node) (t : Forest) (x : Entry) (root p i : ℕ) (stack : List (ℕ × ℕ)) (page : ℕ) (s : Entry) (b : ℕ) (claims : List ℕ)
    → IsTree old root t → IsHalfway width old now t x ((p, i) ∷ stack) page s b claims → now p ≡ old p
above_same width old now t x root p i stack page s b claims w h = go h.above h.whole h.way h.is_row
  where
    first : List (ℕ × ℕ) → ℕ
    first [] = 0
    first (q ∷ qs) = q.0

    second : List (ℕ × ℕ) → ℕ
    second [] = 0
    second (q ∷ qs) = q.1

    go : (above : List Frame) → t ≡ plug above h.spot → places above ≡ (p, i) ∷ stack → IsTreeRow old now (low_of None above) (high_of None above) t h.spot (s ∷ []) h.row → now p ≡ old p
    go [] d y r = cc
    go (f ∷ fs) d y r =
        let was : IsTree old root (plug (f ∷ fs) h.spot) = subst (IsTree old root) d w in
        let r2 : IsTreeRow old now (last_or (low_of None fs) f.lows) (first_or f.highs (high_of None fs)) (plug (f ∷ fs) h.spot) h.spot (s ∷ []) h.row =
        subst (λ (v : Forest). IsTreeRow old now (last_or (low_of None fs) f.lows) (first_or f.highs (high_of None fs)) v h.spot (s ∷ []) h.row) d r in
        let page_is : f.page ≡ p = ap (λ (q : List (ℕ × ℕ)). first q) y in
        ap now (sym page_is) ∙ above_kept old now (low_of None fs) (high_of None fs) fs f h.spot h.row (s ∷ []) was.distinct r2 ∙ ap old page_is

-- the node above is an inner node still
pub above_node : (width : ℕ) (old now : ℕ → Node) (t : Forest) (x : Entry) (root p i : ℕ) (stack : List (ℕ × ℕ)) (page : ℕ) (s : Entry) (b : ℕ) (claims : List ℕ)
    → IsTree old root t → IsHalfway width old now t x ((p, i) ∷ stack) page s b claims → (seps : List Entry) × (children : List ℕ) × (now p ≡ InnerNode seps children) × (i ≤ length seps)
above_node width old now t x root p i stack page s b claims w h = go h.above h.whole h.way h.is_row
  where
    first : List (ℕ × ℕ) → ℕ
    first [] = 0
    first (q ∷ qs) = q.0

    second : List (ℕ × ℕ) → ℕ
    second [] = 0
    second (q ∷ qs) = q.1

    go : (above : List Frame) → t ≡ plug above h.spot → places above ≡ (p, i) ∷ stack → IsTreeRow old now (low_of None above) (high_of None above) t h.spot (s ∷ []) h.row
        → (seps : List Entry) × (children : List ℕ) × (now p ≡ InnerNode seps children) × (i ≤ length seps)
    go [] d y r = cc
    go (f ∷ fs) d y r =
        let was : IsTree old root (plug (f ∷ fs) h.spot) = subst (IsTree old root) d w in
        let held = EachNode-from_plug (HasNode old) fs (Fork f.page (f.lows ++ f.highs) (f.left & (h.spot & f.right)) Nil) was.holds in
        let r2 : IsTreeRow old now (last_or (low_of None fs) f.lows) (first_or f.highs (high_of None fs)) (plug (f ∷ fs) h.spot) h.spot (s ∷ []) h.row =
        subst (λ (v : Forest). IsTreeRow old now (last_or (low_of None fs) f.lows) (first_or f.highs (high_of None fs)) v h.spot (s ∷ []) h.row) d r in
        let page_is : f.page ≡ p = ap (λ (q : List (ℕ × ℕ)). first q) y in (
          f.lows ++ f.highs,
          heads (f.left & (h.spot & f.right)),
          ap now (sym page_is) ∙ above_kept old now (low_of None fs) (high_of None fs) fs f h.spot h.row (s ∷ []) was.distinct r2 ∙ held.0,
          omega (arith, length-append f.lows f.highs, ap (λ (q : List (ℕ × ℕ)). second q) y),
        )

pub among_them : {width : ℕ} {old new : ℕ → Node} {root : ℕ} {t : Forest} {x : Entry} (claims fresh : List ℕ) → ((n : ℕ) → times_among n claims ≡ times_among n fresh)
    → IsAdded width old new root t x claims → IsAdded width old new root t x fresh
among_them claims fresh f a = record { after = a.after; tree = a.tree; adds = a.adds; one_leaf = a.one_leaf; leaves = a.leaves; pages = λ n. omega (arith, a.pages n, f n); kept = λ n z q. a.kept n z (omega (arith, f n, q)) }

-- the node above has room
pub goes_end : (width : ℕ) (old now new : ℕ → Node) (t : Forest) (x : Entry) (root p i : ℕ) (items rest : List (ℕ × ℕ)) (s : Entry) (b : ℕ) (fresh : List ℕ) (used : ℕ)
    → IsTree old root t → used ≡ length fresh → IsGoingUp width old now t x (reverse items) s b fresh used → items ≡ rest ++ (p, i) ∷ []
    → ((seps : List Entry) (children : List ℕ) → now p ≡ InnerNode seps children → IsPut now new p (InnerNode (take i seps ++ s ∷ drop i seps) (take (i + 1) children ++ b ∷ drop (i + 1) children)))
    → KeepsBeside width old t → IsAdded width old new root t x fresh
goes_end width old now new t x root p i items rest s b fresh used w all u e k kb =
    let h : IsHalfway width old now t x ((p, i) ∷ reverse rest) u.page s b u.claims =
    subst (λ (v : List (ℕ × ℕ)). IsHalfway width old now t x v u.page s b u.claims) (turned items rest (p, i) e) u.half in
    let n = above_node width old now t x root p i (reverse rest) u.page s b u.claims w h in
    let q = k n.0 n.1 n.2 in
    among_them u.claims fresh (λ j. u.counts j ∙ times_among-all j used fresh (omega (arith, all))) (up_end width old now new t x root p i (reverse rest) u.page s b n.0 n.1 u.claims w h n.2 q.there q.others kb)

-- the node above is full too
pub goes_on : (width : ℕ) (old now new : ℕ → Node) (t : Forest) (x : Entry) (root p i : ℕ) (items rest : List (ℕ × ℕ)) (s : Entry) (b : ℕ) (fresh : List ℕ) (used : ℕ) (m : Entry)
    → IsTree old root t → AreFresh t fresh → used < length fresh → IsGoingUp width old now t x (reverse items) s b fresh used → items ≡ rest ++ (p, i) ∷ []
    → ((seps : List Entry) (children : List ℕ) → now p ≡ InnerNode seps children → IsInnerCut now new p i s b seps children (get_or fresh used 0) m)
    → KeepsBeside width old t → IsGoingUp width old new t x (reverse rest) m (get_or fresh used 0) fresh (used + 1)
goes_on width old now new t x root p i items rest s b fresh used m w a l u e k kb =
    let c : ℕ = get_or fresh used 0 in
    let h : IsHalfway width old now t x ((p, i) ∷ reverse rest) u.page s b u.claims =
    subst (λ (v : List (ℕ × ℕ)). IsHalfway width old now t x v u.page s b u.claims) (turned items rest (p, i) e) u.half in
    let n = above_node width old now t x root p i (reverse rest) u.page s b u.claims w h in
    let q = k n.0 n.1 n.2 in
    let more = times_among-take c used fresh l in
    let front = times_among-front c (used + 1) fresh in
    let none : times_among c u.claims ≡ 0 = omega (arith, u.counts c, more, front, a.once c, once_same c) in
    let apart : times c t ≡ 0 = a.apart c (omega (arith, more, front, once_same c)) in
    record {
      page = p;
      claims = c ∷ u.claims;
      half = up_step width old now new t x root p i (reverse rest) u.page s b n.0 n.1 u.claims q.lows m q.highs c w h n.2 q.cut apart none q.first q.second q.others kb;
      counts = λ j. omega (arith, u.counts j, times_among-take j used fresh l);
    }

-- no node is above
pub goes_top : (width : ℕ) (old now new : ℕ → Node) (t : Forest) (x : Entry) (root : ℕ) (items : List (ℕ × ℕ)) (s : Entry) (b : ℕ) (fresh : List ℕ) (used : ℕ)
    → IsTree old root t → AreFresh t fresh → used + 1 ≡ length fresh → IsGoingUp width old now t x (reverse items) s b fresh used → items ≡ []
    → IsRaised now new root s b (get_or fresh used 0) → IsAdded width old new root t x fresh
goes_top width old now new t x root items s b fresh used w a all u e k =
    let l : used < length fresh = omega (arith, all) in
    let c : ℕ = get_or fresh used 0 in
    let h : IsHalfway width old now t x [] u.page s b u.claims =
    subst (λ (v : List (ℕ × ℕ)). IsHalfway width old now t x v u.page s b u.claims) (ap reverse e) u.half in
    let more = times_among-take c used fresh l in
    let front = times_among-front c (used + 1) fresh in
    let none : times_among c u.claims ≡ 0 = omega (arith, u.counts c, more, front, a.once c, once_same c) in
    let apart : times c t ≡ 0 = a.apart c (omega (arith, more, front, once_same c)) in
    let page_is : u.page ≡ root = root_is h.above h.whole h.way in
    among_them (c ∷ u.claims) fresh (λ j. omega (arith, u.counts j, times_among-take j used fresh l, times_among-all j (used + 1) fresh (omega (arith, all))))
    (raised width old now new t x root s b c u.claims w (subst (λ (v : ℕ). IsHalfway width old now t x [] v s b u.claims) page_is h) apart none k.moved k.top k.others)
  where
    root_is : (above : List Frame) → t ≡ plug above u.half.spot → places above ≡ [] → u.page ≡ root
    root_is [] d y = let a = u.half.head in let b = w.head in cc
    root_is (f ∷ fs) d y = cc

pub no_items : (items : List (ℕ × ℕ)) → length items ≡ 0 → items ≡ []
no_items [] e = refl
no_items (q ∷ qs) e = absurd (omega arith)

-- what the nodes above ask for, where the lowest is full, and where there is none
pub asks_on : (width : ℕ) (full : Node → Bool) (old now : ℕ → Node) (t : Forest) (x : Entry) (root p i : ℕ) (items rest : List (ℕ × ℕ)) (s : Entry) (b : ℕ) (fresh : List ℕ) (used : ℕ)
    → IsTree old root t → IsGoingUp width old now t x (reverse items) s b fresh used → items ≡ rest ++ (p, i) ∷ [] → full (now p) ≡ true
    → run_up full old (reverse items) ≡ 1 + run_up full old (reverse rest)
asks_on width full old now t x root p i items rest s b fresh used w u e f =
    let h : IsHalfway width old now t x ((p, i) ∷ reverse rest) u.page s b u.claims =
    subst (λ (v : List (ℕ × ℕ)). IsHalfway width old now t x v u.page s b u.claims) (turned items rest (p, i) e) u.half in
    let same : now p ≡ old p = above_same width old now t x root p i (reverse rest) u.page s b u.claims w h in
    ap (run_up full old) (turned items rest (p, i) e) ∙ go (full (old p)) (ap full (sym same) ∙ f)
  where
    go : (c : Bool) → c ≡ true → (if c then 1 + run_up full old (reverse rest) else 0) ≡ 1 + run_up full old (reverse rest)
    go true e = refl
    go false e = cc

pub asks_one : (full : Node → Bool) (old : ℕ → Node) (items : List (ℕ × ℕ)) → items ≡ [] → run_up full old (reverse items) ≡ 1
asks_one full old items e = ap (λ (l : List (ℕ × ℕ)). run_up full old (reverse l)) e
