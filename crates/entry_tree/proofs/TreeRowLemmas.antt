-- A split that goes up.
use Rattle.std.proofs.Common.{◌≡◌, ◌≢◌, ◌<◌, ◌≤◌, ◌+◌, ℕ, zero, suc, List, [], ◌∷◌, ◌++◌, refl, ap, arith, sym, ◌∙◌, subst, append_assoc, append-nil, length, take, drop, inl, inr}
use Rattle.std.proofs.lemmas.Bool.{cases_eq}
use Rattle.entry_tree.proofs.FitsLemmas.{fork_halves, leaf_halves}
use Rattle.entry_tree.proofs.ForestLemmas.{EachNode-and, EachNode-from_and, HoldsForest-agree, leaf_entries-and, once_least, once_other, once_same, times-and}
use Rattle.entry_tree.proofs.TreeChangesLemmas.{row_change, two_pages}
use Rattle.entry_tree.proofs.TreePlacesLemmas.{Fits-frame}
use Rattle.entry_tree.specs.EntryBounds.{Bound, Rises}
use Rattle.entry_tree.specs.Forest.{Fits, Forest, HasNode, HoldsForest, NoPageTwice, leaf_entries, heads, once, times, ◌&◌}
use Rattle.entry_tree.specs.Forest.Forest.{Fork, Leaf, Nil}
use Rattle.entry_tree.specs.TreeChanges.{IsTreeChange, IsTreeRow}
use Rattle.entry_tree.specs.TreePlaces.{Frame, first_or, last_or}
use Rattle.mdc_words.specs.ByteOrder.{Entry}
use Rattle.node_page.specs.Node.{Node}
use Rattle.node_page.specs.Node.Node.{InnerNode, LeafNode}

-- a row is cut in two behind its first k trees
pub record Halves (t : Forest) (k : ℕ) : Type 0 where
  pub first : Forest
  pub second : Forest
  pub whole : t ≡ first & second
  pub ahead : heads first ≡ take k (heads t)
  pub rest : heads second ≡ drop k (heads t)

pub halves_at : (t : Forest) (k : ℕ) → k ≤ length (heads t) → Halves t k
halves_at t zero h = record { first = Nil; second = t; whole = refl; ahead = refl; rest = refl }
halves_at Nil (suc k) h = absurd (omega arith)
halves_at (Leaf p items next) (suc k) h =
    let r = halves_at next k (omega arith) in
    record { first = Leaf p items r.first; second = r.second; whole = ap (Leaf p items) r.whole; ahead = ap (λ (l : List ℕ). p ∷ l) r.ahead; rest = r.rest }
halves_at (Fork p seps kids next) (suc k) h =
    let r = halves_at next k (omega arith) in
    record { first = Fork p seps kids r.first; second = r.second; whole = ap (Fork p seps kids) r.whole; ahead = ap (λ (l : List ℕ). p ∷ l) r.ahead; rest = r.rest }

-- a full leaf with one entry more becomes two
pub leaf_row : (old new : ℕ → Node) (low high : Bound) (whole : Forest) (p b : ℕ) (items : List Entry) (x : Entry) (xs : List Entry) (y : Entry) (ys : List Entry)
    → Rises low high ((x ∷ xs) ++ y ∷ ys) → times b whole ≡ 0 → p ≢ b
    → new p ≡ LeafNode (x ∷ xs) → new b ≡ LeafNode (y ∷ ys) → ((n : ℕ) → n ≢ p → n ≢ b → new n ≡ old n)
    → IsTreeRow old new low high whole (Leaf p items Nil) (y ∷ []) (Leaf p (x ∷ xs) (Leaf b (y ∷ ys) Nil))
leaf_row old new low high whole p b items x xs y ys r z d k m o =
    record {
      fits = leaf_halves low high x xs y ys p b r;
      holds = (k, (m, tt));
      distinct = λ n. omega (arith, two_pages p b n d);
      fresh = λ n l e. elim (cases_eq n b) [
        | inl q ↦ subst (λ (v : ℕ). times v whole ≡ 0) (sym q) z
        | inr f ↦ absurd (omega (arith, once_other n b f))
      ];
      wrote = λ n e f. o n (is_not n p (omega arith)) (is_not n b (omega arith));
    }
  where
    is_not : (n q : ℕ) → once n q ≡ 0 → n ≢ q
    is_not n q e h = let s : once n q ≡ 1 = subst (λ (v : ℕ). once v q ≡ 1) (sym h) (once_same q) in omega arith

-- a full node over such a row becomes two
pub row_up : (old now new : ℕ → Node) (low high : Bound) (whole : Forest) (f : Frame) (t row first second : Forest) (s m : Entry) (lows highs : List Entry) (q b : ℕ)
    → length (heads f.left) ≡ length f.lows → heads t ≡ q ∷ []
    → Fits low high [] (Fork f.page (f.lows ++ f.highs) (f.left & (t & f.right)) Nil)
    → HoldsForest old (Fork f.page (f.lows ++ f.highs) (f.left & (t & f.right)) Nil)
    → NoPageTwice whole → ((n : ℕ) → times n (Fork f.page (f.lows ++ f.highs) (f.left & (t & f.right)) Nil) ≤ times n whole)
    → IsTreeRow old now (last_or low f.lows) (first_or f.highs high) whole t (s ∷ []) row
    → f.lows ++ s ∷ f.highs ≡ lows ++ m ∷ highs → f.left & (row & f.right) ≡ first & second → length (heads first) ≡ length lows + 1
    → times b whole ≡ 0 → times b row ≡ 0
    → new f.page ≡ InnerNode lows (heads first) → new b ≡ InnerNode highs (heads second) → ((n : ℕ) → n ≢ f.page → n ≢ b → new n ≡ now n)
    → IsTreeRow old new low high whole (Fork f.page (f.lows ++ f.highs) (f.left & (t & f.right)) Nil) (m ∷ []) (Fork f.page lows first (Fork b highs second Nil))
row_up old now new low high whole f t row first second s m lows highs q b c e fit h d i r se ke cf zb zr wp wb o =
    record {
      fits = fork_halves low high lows m highs first second f.page b cf
          (subst (λ (k : Forest). Fits low high (lows ++ m ∷ highs) k) ke
          (subst (λ (l : List Entry). Fits low high l (f.left & (row & f.right))) se
          ((Fits-frame low high f.lows f.highs f.left t f.right q c e fit.1).1 (s ∷ []) row r.fits)));
      holds = (wp, kept.0, (wb, kept.1, tt));
      distinct = λ n. elim (cases_eq n b) [
        | inl x ↦ omega (arith, all n, beside n, i n, d n, once_least n b, at_b n x, row_b n x)
        | inr y ↦ omega (arith, all n, in_row n (times n row) refl, once_other n b y)
      ];
      fresh = λ n l z. elim (cases_eq n b) [
        | inl x ↦ at_b n x
        | inr y ↦ r.fresh n (omega (arith, all n, counts n, once_other n b y)) (omega (arith, counts n))
      ];
      wrote = λ n z y.
          o n (is_not n f.page (omega arith)) (is_not n b (omega arith)) ∙ r.wrote n (omega (arith, counts n)) (omega (arith, all n));
    }
  where
    is_not : (n p : ℕ) → once n p ≡ 0 → n ≢ p
    is_not n p z y = let x : once n p ≡ 1 = subst (λ (v : ℕ). once v p ≡ 1) (sym y) (once_same p) in omega arith

    at_b : (n : ℕ) → n ≡ b → times n whole ≡ 0
    at_b n x = subst (λ (v : ℕ). times v whole ≡ 0) (sym x) zb

    row_b : (n : ℕ) → n ≡ b → times n row ≡ 0
    row_b n x = subst (λ (v : ℕ). times v row ≡ 0) (sym x) zr

    counts : (n : ℕ) → times n (f.left & (t & f.right)) ≡ times n f.left + (times n t + times n f.right)
    counts n = omega (arith, times-and n f.left (t & f.right), times-and n t f.right)

    beside : (n : ℕ) → once n f.page + (times n f.left + (times n t + times n f.right)) ≤ times n whole
    beside n = omega (arith, counts n, i n)

    all : (n : ℕ) → times n first + times n second ≡ times n f.left + (times n row + times n f.right)
    all n = omega (arith, times-and n first second, ap (times n) ke, times-and n f.left (row & f.right), times-and n row f.right)

    -- a page of the row isn't beside it
    in_row : (n k : ℕ) → times n row ≡ k → once n f.page + (times n f.left + (times n row + times n f.right)) ≤ 1
    in_row n zero x = omega (arith, beside n, d n)
    in_row n (suc k) x = was (times n t) refl
      where
        was : (j : ℕ) → times n t ≡ j → once n f.page + (times n f.left + (times n row + times n f.right)) ≤ 1
        was zero y = let z = r.fresh n (omega arith) y in omega (arith, z, beside n, r.distinct n)
        was (suc j) y = omega (arith, beside n, d n, r.distinct n)

    l : HoldsForest old f.left × HoldsForest old (t & f.right)
    l = EachNode-from_and (HasNode old) f.left (t & f.right) h.1

    g : HoldsForest old t × HoldsForest old f.right
    g = EachNode-from_and (HasNode old) t f.right l.1

    -- what lies beside the row is as it was
    same : (u : Forest) → ((n : ℕ) → times n u + times n t ≤ times n (f.left & (t & f.right))) → HoldsForest old u → HoldsForest new u
    same u y x =
        HoldsForest-agree old new u
        (λ n p.
        let one : once n f.page + (times n u + times n t) ≤ 1 = omega (arith, y n, i n, d n) in
        let some : 0 < times n whole = omega (arith, y n, i n) in
        let out : times n t ≡ 0 = omega arith in
        let no_b : n ≢ b = (λ (x : n ≡ b). omega (arith, at_b n x)) in
        o n (is_not n f.page (omega arith)) no_b ∙ r.wrote n out (off n (times n row) refl out some))
        x
      where
        off : (n k : ℕ) → times n row ≡ k → times n t ≡ 0 → 0 < times n whole → times n row ≡ 0
        off n zero x z w = x
        off n (suc k) x z w = let v = r.fresh n (omega arith) z in absurd (omega (arith, v))

    row_now : HoldsForest new row
    row_now =
        HoldsForest-agree now new row
        (λ n p. o n (is_not n f.page (let x = in_row n (times n row) refl in omega (arith, x))) (λ (x : n ≡ b). omega (arith, row_b n x))) r.holds

    kept : HoldsForest new first × HoldsForest new second
    kept =
        EachNode-from_and (HasNode new) first second
        (subst (HoldsForest new) ke
        (EachNode-and (HasNode new) f.left (row & f.right) (same f.left (λ n. omega (arith, counts n)) l.0)
        (EachNode-and (HasNode new) row f.right row_now (same f.right (λ n. omega (arith, counts n)) g.1))))

-- a node with room over such a row takes its second tree
pub row_done : (old now new : ℕ → Node) (low high : Bound) (whole : Forest) (f : Frame) (t row : Forest) (s : Entry) (q : ℕ)
    → length (heads f.left) ≡ length f.lows → heads t ≡ q ∷ []
    → Fits low high [] (Fork f.page (f.lows ++ f.highs) (f.left & (t & f.right)) Nil)
    → HoldsForest old (Fork f.page (f.lows ++ f.highs) (f.left & (t & f.right)) Nil)
    → NoPageTwice whole → ((n : ℕ) → times n (Fork f.page (f.lows ++ f.highs) (f.left & (t & f.right)) Nil) ≤ times n whole)
    → IsTreeRow old now (last_or low f.lows) (first_or f.highs high) whole t (s ∷ []) row
    → new f.page ≡ InnerNode (f.lows ++ s ∷ f.highs) (heads (f.left & (row & f.right))) → ((n : ℕ) → n ≢ f.page → new n ≡ now n)
    → IsTreeChange old new low high whole (Fork f.page (f.lows ++ f.highs) (f.left & (t & f.right)) Nil) (Fork f.page (f.lows ++ s ∷ f.highs) (f.left & (row & f.right)) Nil)
row_done old now new low high whole f t row s q c e fit h d i r wp o =
    row_change old new low high whole f.page (f.lows ++ f.highs) (f.lows ++ s ∷ f.highs) f.left t row f.right
    ((Fits-frame low high f.lows f.highs f.left t f.right q c e fit.1).1 (s ∷ []) row r.fits) h d i
    (HoldsForest-agree now new row (λ n p. o n (apart n p)) r.holds) r.distinct r.fresh wp
    (λ n x y z. o n x ∙ r.wrote n y z)
  where
    apart : (n : ℕ) → 0 < times n row → n ≢ f.page
    apart n p x = was (times n t) refl
      where
        one : once n f.page ≡ 1
        one = subst (λ (v : ℕ). once v f.page ≡ 1) (sym x) (once_same f.page)

        was : (j : ℕ) → times n t ≡ j → ⊥
        was zero y = let z = r.fresh n p y in omega (arith, z, one, i n)
        was (suc j) y = omega (arith, one, i n, d n, times-and n f.left (t & f.right), times-and n t f.right)

-- the leaf_entries, on the way up
pub row_entries : (f : Frame) (t row first second : Forest) (more lows highs : List Entry) (b : ℕ) → f.left & (row & f.right) ≡ first & second
    → leaf_entries (Fork f.page lows first (Fork b highs second Nil)) ≡ leaf_entries (Fork f.page more (f.left & (row & f.right)) Nil)
row_entries f t row first second more lows highs b e = rw (e, leaf_entries-and) (simp (append-nil, append_assoc))
