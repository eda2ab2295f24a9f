-- What stands at the branches that are left of a tree.
use Rattle.std.proofs.Common.{◌≡◌, ◌<◌, ◌+◌, ℕ, zero, suc, List, [], ◌∷◌, ◌++◌, length, drop, get_or, refl, ap, arith, sym, ◌∙◌, subst, reverse}
use Rattle.std.specs.Prelude.{Some, None}
use Rattle.mdc_words.specs.ByteOrder.{Entry}
use Rattle.node_page.specs.Entries.{EntriesRise}
use Rattle.node_page.specs.Node.{Node}
use Rattle.node_page.specs.Node.Node.{InnerNode, LeafNode, NoNode}
use Rattle.entry_tree.specs.EntryBounds.{Bound}
use Rattle.entry_tree.specs.Forest.{EachNode, Fits, Forest, HoldsEntry, HoldsForest, IsTree, IsTrimTree, NoPageTwice, heads, once, times, ◌&◌}
use Rattle.entry_tree.specs.Forest.Forest.{Fork, Leaf, Nil}
use Rattle.entry_tree.proofs.ForestLemmas.{EachNode-agree, Fits-count, once_same, times-and}
use Rattle.file_check.specs.Branches.{GoesOnBehind, IsFitNode, IsTrimAt, StandsAtBranches, branches_of}
use Rattle.file_check.specs.declared.branches.Branch.{Branch}

-- ---- the branches of a node

pub branches_end : (seps : List Entry) (children : List ℕ) (high : Bound) → length children ≡ length seps + 1
    → drop (length seps) (branches_of seps children high) ≡ record { page = get_or children (length seps) 0; high = high } ∷ []
branches_end [] (child ∷ children) high e = refl
branches_end (s ∷ seps) (child ∷ children) high e = branches_end seps children high (omega arith)
branches_end seps [] high e = absurd (omega arith)

pub branches_at : (seps : List Entry) (children : List ℕ) (high : Bound) (i : ℕ) → length children ≡ length seps + 1 → i < length seps
    → drop i (branches_of seps children high) ≡ record { page = get_or children i 0; high = Some (get_or seps i []) } ∷ drop (suc i) (branches_of seps children high)
branches_at [] children high i e low = absurd (omega arith)
branches_at (s ∷ seps) (child ∷ children) high zero e low = refl
branches_at (s ∷ seps) (child ∷ children) high (suc i) e low = branches_at seps children high i (omega arith) (omega arith)
branches_at (s ∷ seps) [] high i e low = absurd (omega arith)

module _ (nodes : ℕ → Node) (root : ℕ) where
  -- the trees of a node, and behind them what stands behind it
  kids_stand : (low high : Bound) (seps : List Entry) (kids : Forest) (bs : List Branch) (next : Forest) → Fits low high seps kids → HoldsForest nodes kids → EachNode (IsTrimAt root) kids
      → StandsAtBranches nodes root high bs next → StandsAtBranches nodes root low (branches_of seps (heads kids) high ++ bs) (kids & next)
  kids_stand low high seps Nil bs next fits holds trim behind = absurd fits
  kids_stand low high [] (Leaf page items Nil) bs next fits holds trim behind = (refl, fits.0, fits.1, holds.0, trim.0, behind)
  kids_stand low high [] (Leaf page items (Leaf p i n)) bs next fits holds trim behind = absurd (let e = fits.2 in cc)
  kids_stand low high [] (Leaf page items (Fork p s k n)) bs next fits holds trim behind = absurd (let e = fits.2 in cc)
  kids_stand low high (s ∷ seps) (Leaf page items kids) bs next fits holds trim behind =
      (refl, fits.0, fits.1, holds.0, trim.0, kids_stand (Some s) high seps kids bs next fits.2 holds.1 trim.1 behind)
  kids_stand low high [] (Fork page inner kids Nil) bs next fits holds trim behind = (refl, fits.0, fits.1, holds.0, holds.1, trim.1, behind)
  kids_stand low high [] (Fork page inner kids (Leaf p i n)) bs next fits holds trim behind = absurd (let e = fits.2 in cc)
  kids_stand low high [] (Fork page inner kids (Fork p s k n)) bs next fits holds trim behind = absurd (let e = fits.2 in cc)
  kids_stand low high (s ∷ seps) (Fork page inner kids more) bs next fits holds trim behind =
      (refl, fits.0, fits.1, holds.0, holds.1, trim.1, kids_stand (Some s) high seps more bs next fits.2 holds.2 trim.2 behind)

  -- a row that stands at the branches of a node, and others behind them, is cut in two
  record Kids (low high : Bound) (seps : List Entry) (children : List ℕ) (bs : List Branch) (row : Forest) : Type 0 where
    kids : Forest
    next : Forest
    whole : row ≡ kids & next
    are_its : heads kids ≡ children
    fits : Fits low high seps kids
    holds : HoldsForest nodes kids
    trim : EachNode (IsTrimAt root) kids
    behind : StandsAtBranches nodes root high bs next

  stand_kids : (low high : Bound) (seps : List Entry) (children : List ℕ) (bs : List Branch) (row : Forest) → length children ≡ length seps + 1
      → StandsAtBranches nodes root low (branches_of seps children high ++ bs) row → Kids low high seps children bs row
  stand_kids low high seps [] bs row e stands = absurd (omega arith)
  stand_kids low high [] (child ∷ []) bs Nil e stands = absurd stands
  stand_kids low high [] (child ∷ []) bs (Leaf page items next) e stands = record {
    kids = Leaf page items Nil;
    next = next;
    whole = refl;
    are_its = ap (λ (p : ℕ). p ∷ []) stands.0;
    fits = (stands.1, stands.2, refl);
    holds = (stands.3, tt);
    trim = (stands.4, tt);
    behind = stands.5;
  }
  stand_kids low high [] (child ∷ []) bs (Fork page inner kids next) e stands = record {
    kids = Fork page inner kids Nil;
    next = next;
    whole = refl;
    are_its = ap (λ (p : ℕ). p ∷ []) stands.0;
    fits = (stands.1, stands.2, refl);
    holds = (stands.3, stands.4, tt);
    trim = (λ d. tt, stands.5, tt);
    behind = stands.6;
  }
  stand_kids low high [] (child ∷ other ∷ children) bs row e stands = absurd (omega arith)
  stand_kids low high (s ∷ seps) (child ∷ children) bs Nil e stands = absurd stands
  stand_kids low high (s ∷ seps) (child ∷ children) bs (Leaf page items row) e stands =
      let k = stand_kids (Some s) high seps children bs row (omega arith) stands.5 in record {
        kids = Leaf page items k.kids;
        next = k.next;
        whole = ap (Leaf page items) k.whole;
        are_its = cc (k.are_its, stands.0);
        fits = (stands.1, stands.2, k.fits);
        holds = (stands.3, k.holds);
        trim = (stands.4, k.trim);
        behind = k.behind;
      }
  stand_kids low high (s ∷ seps) (child ∷ children) bs (Fork page inner kids row) e stands =
      let k = stand_kids (Some s) high seps children bs row (omega arith) stands.6 in record {
        kids = Fork page inner kids k.kids;
        next = k.next;
        whole = ap (Fork page inner kids) k.whole;
        are_its = cc (k.are_its, stands.0);
        fits = (stands.1, stands.2, k.fits);
        holds = (stands.3, stands.4, k.holds);
        trim = (λ d. tt, stands.5, k.trim);
        behind = k.behind;
      }

  -- the separators of a node rise
  seps_rise : (low high : Bound) (seps : List Entry) (t : Forest) → Fits low high seps t → EntriesRise seps
  seps_rise low high [] t fits = tt
  seps_rise low high (s ∷ []) t fits = tt
  seps_rise low high (s ∷ r ∷ seps) Nil fits = absurd fits
  seps_rise low high (s ∷ r ∷ seps) (Leaf p i Nil) fits = absurd fits.2
  seps_rise low high (s ∷ r ∷ seps) (Leaf p i (Leaf q j n)) fits = (fits.2.0, seps_rise (Some s) high (r ∷ seps) (Leaf q j n) fits.2)
  seps_rise low high (s ∷ r ∷ seps) (Leaf p i (Fork q j k n)) fits = (fits.2.0, seps_rise (Some s) high (r ∷ seps) (Fork q j k n) fits.2)
  seps_rise low high (s ∷ r ∷ seps) (Fork p i m Nil) fits = absurd fits.2
  seps_rise low high (s ∷ r ∷ seps) (Fork p i m (Leaf q j n)) fits = (fits.2.0, seps_rise (Some s) high (r ∷ seps) (Leaf q j n) fits.2)
  seps_rise low high (s ∷ r ∷ seps) (Fork p i m (Fork q j k n)) fits = (fits.2.0, seps_rise (Some s) high (r ∷ seps) (Fork q j k n) fits.2)

  -- ---- one step

  -- what stands at branches, the first of which is the page of this node, and what stands at those that are left behind it
  pub record Behind (b : Branch) (row : Forest) (low_now : Bound) (left_now : List Branch) : Type 0 where
    pub behind : Forest
    pub stands : StandsAtBranches nodes root low_now (reverse left_now) behind
    pub counts : (n : ℕ) → times n row ≡ once n b.page + times n behind

  -- the page of the first branch is in it
  pub stands-first : (low : Bound) (b : Branch) (bs : List Branch) (row : Forest) → StandsAtBranches nodes root low (b ∷ bs) row → 0 < times b.page row
  stands-first low b bs Nil stands = absurd stands
  stands-first low b bs (Leaf page items next) stands = omega (arith, ap (once b.page) stands.0, once_same b.page)
  stands-first low b bs (Fork page seps kids next) stands = omega (arith, ap (once b.page) stands.0, once_same b.page)

  -- so its page is a fit node
  pub stands-fit : (low : Bound) (b : Branch) (bs : List Branch) (row : Forest) → StandsAtBranches nodes root low (b ∷ bs) row → IsFitNode root low b (nodes b.page)
  stands-fit low b bs Nil stands = absurd stands
  stands-fit low b bs (Leaf page items next) stands =
      let node : nodes b.page ≡ LeafNode items = ap nodes (sym stands.0) ∙ stands.3 in
      subst (IsFitNode root low b) (sym node) (stands.1, stands.2, subst (λ (p : ℕ). IsTrimAt root p (LeafNode items)) stands.0 stands.4)
  stands-fit low b bs (Fork page seps kids next) stands =
      let node : nodes b.page ≡ InnerNode seps (heads kids) = ap nodes (sym stands.0) ∙ stands.3 in
      subst (IsFitNode root low b) (sym node) (stands.1, seps_rise low b.high seps kids stands.2)

  -- what is left of it stands
  pub stands-behind : (low : Bound) (b : Branch) (left left_now : List Branch) (low_now : Bound) (row : Forest) → StandsAtBranches nodes root low (b ∷ reverse left) row
      → GoesOnBehind b (nodes b.page) low left low_now left_now → Behind b row low_now left_now
  stands-behind low b left left_now low_now Nil stands goes = absurd stands
  stands-behind low b left left_now low_now (Leaf page items next) stands goes =
      let node : nodes b.page ≡ LeafNode items = ap nodes (sym stands.0) ∙ stands.3 in
      let g = subst (λ (v : Node). GoesOnBehind b v low left low_now left_now) node goes in record {
        behind = next;
        stands = rw (g.0, g.1) stands.5;
        counts = λ n. omega (arith, ap (once n) stands.0);
      }
  stands-behind low b left left_now low_now (Fork page seps kids next) stands goes =
      let node : nodes b.page ≡ InnerNode seps (heads kids) = ap nodes (sym stands.0) ∙ stands.3 in
      let g = subst (λ (v : Node). GoesOnBehind b v low left low_now left_now) node goes in
      let e = g.1 (Fits-count low b.high seps kids stands.2) in record {
        behind = kids & next;
        stands = rw (g.0, e) (kids_stand low b.high seps kids (reverse left) next stands.2 stands.4 stands.5 stands.6);
        counts = λ n. omega (arith, ap (once n) stands.0, times-and n kids next);
      }

  -- a row at branches, the first of which is a fit node, from one that stands at those that are left behind it
  pub record Before (low : Bound) (b : Branch) (left : List Branch) (behind : Forest) : Type 0 where
    pub row : Forest
    pub stands : StandsAtBranches nodes root low (b ∷ reverse left) row
    pub counts : (n : ℕ) → times n row ≡ once n b.page + times n behind

  pub stands-before : (low : Bound) (b : Branch) (left left_now : List Branch) (low_now : Bound) (behind : Forest) (node : Node) → nodes b.page ≡ node
      → ((seps : List Entry) (children : List ℕ) → node ≡ InnerNode seps children → length children ≡ length seps + 1)
      → IsFitNode root low b node → GoesOnBehind b node low left low_now left_now → StandsAtBranches nodes root low_now (reverse left_now) behind → Before low b left behind
  stands-before low b left left_now low_now behind (LeafNode items) is many fit goes stands = record {
    row = Leaf b.page items behind;
    stands = (refl, fit.0, fit.1, is, fit.2, subst (λ (l : Bound). StandsAtBranches nodes root l (reverse left) behind) goes.0 (subst (λ (bs : List Branch). StandsAtBranches nodes root low_now (reverse bs) behind) goes.1 stands));
    counts = λ n. refl;
  }
  stands-before low b left left_now low_now behind (InnerNode seps children) is many fit goes stands =
      let e = many seps children refl in
      let k = stand_kids low b.high seps children (reverse left) behind e
      (subst (λ (l : Bound). StandsAtBranches nodes root l (branches_of seps children b.high ++ reverse left) behind) goes.0 (subst (λ (bs : List Branch). StandsAtBranches nodes root low_now bs behind) (goes.1 e) stands)) in
      record {
        row = Fork b.page seps k.kids k.next;
        stands = (refl, fit.0, k.fits, is ∙ ap (InnerNode seps) (sym k.are_its), k.holds, k.trim, k.behind);
        counts = λ n. omega (arith, ap (times n) k.whole, times-and n k.kids k.next);
      }
  stands-before low b left left_now low_now behind NoNode is many fit goes stands = absurd fit

  -- ---- the whole tree

  abbrev at_root : List Branch
  at_root = record { page = root; high = None } ∷ []

  pub tree-stands : (t : Forest) → IsTree nodes root t → IsTrimTree t → StandsAtBranches nodes root None at_root t
  tree-stands Nil is trim = absurd trim
  tree-stands (Leaf page items next) is trim =
      let h = is.head in
      let same : page ≡ root = cc in
      (same, tt, is.fits.1, is.holds.0, (λ d. absurd (d same)), is.fits.2)
  tree-stands (Fork page seps kids next) is trim =
      let h = is.head in
      let same : page ≡ root = cc in
      (same, tt, is.fits.1, is.holds.0, is.holds.1, EachNode-agree HoldsEntry (IsTrimAt root) kids (λ n node l holds d. holds) trim, is.fits.2)

  pub tree-made : (t : Forest) → StandsAtBranches nodes root None at_root t → NoPageTwice t → IsTree nodes root t × IsTrimTree t
  tree-made Nil stands once_each = absurd stands
  tree-made (Leaf page items next) stands once_each = (
    record {
      head = cc (stands.0, ap heads stands.5);
      holds = (stands.3, rw stands.5 tt);
      fits = (tt, stands.2, stands.5);
      distinct = once_each;
    },
    tt,
  )
  tree-made (Fork page seps kids next) stands once_each = (
    record {
      head = cc (stands.0, ap heads stands.6);
      holds = (stands.3, stands.4, rw stands.6 tt);
      fits = (tt, stands.2, stands.6);
      distinct = once_each;
    },
    EachNode-agree (IsTrimAt root) HoldsEntry kids
        (λ n node l trim. trim (λ e. let o = once_each root in
        let p : 0 < times root kids = subst (λ (m : ℕ). 0 < times m kids) e l in
        let q : once root page ≡ 1 = ap (once root) stands.0 ∙ once_same root in
        absurd (omega arith))) stands.5,
  )
