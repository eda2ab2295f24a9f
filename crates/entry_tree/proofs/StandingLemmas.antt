-- Trees among the extents: what stays, and what an addition makes of both.
use Rattle.std.proofs.Common.{◌≡◌, ◌<◌, ◌≤◌, ◌+◌, ◌/◌, ◌⊎◌, ℕ, List, [], ◌∷◌, ◌++◌, length, refl, ap, arith, sym, ◌∙◌, subst, inl, inr, reverse, Bool}
use Rattle.std.proofs.lemmas.Bool.{cases_eq, cases_lt}
use Rattle.std.proofs.lemmas.List.{reverse-append}
use Rattle.mdc_words.specs.ByteOrder.{Entry}
use Rattle.node_page.specs.Node.{Node, leaf_room}
use Rattle.node_page.specs.Node.Node.{LeafNode}
use Rattle.store_api.specs.Frame.{Touches}
use Rattle.store_api.specs.declared.pages.Pages.{Ghosts}
use Rattle.store_api.specs.declared.shape.Shape.{Shape}
use Rattle.extent_map.specs.Map.{BringsZeros, HoldsMap, IsMapPage, IsSpacePage, map_page}
use Rattle.extent_map.specs.Owners.{IsUsedPage, IsExtentPage, with_used_page}
use Rattle.extent_map.specs.declared.kind.Kind.{Kind}
use Rattle.extent_map.specs.declared.space_notes.SpaceNotes.{SpaceNotes}
use Rattle.entry_tree.specs.EntryBounds.{IsEntryOf}
use Rattle.entry_tree.specs.Forest.{Forest, leaf_entries, once, times, EachNode, HoldsEntry, IsPageBelow}
use Rattle.entry_tree.specs.Forest.Forest.{Nil, Leaf, Fork}
use Rattle.entry_tree.specs.TreePlaces.{Frame, places, times_beside, IsAtPlace, run_up, pages_asked}
use Rattle.entry_tree.specs.TreeChanges.{KeepsLeaf, AreFresh, IsAdded, IsLeafFound, times_among}
use Rattle.entry_tree.specs.HeldTrees.{nodes_in, HoldsTree}
use Rattle.entry_tree.specs.Standing.{StandsTree, GrowsWith, with_pages, AreClaims, IsClaimed, ClaimsPages, AsksPages, AddsEntry}
use Rattle.entry_tree.specs.Writing.{IsPathPage}
use Rattle.entry_tree.specs.declared.tree.Tree.{Tree}
use Rattle.entry_tree.proofs.ForestLemmas.{once_same, once_other, HoldsForest-agree}
use Rattle.entry_tree.proofs.TreePlacesLemmas.{times-plug}
use Rattle.entry_tree.proofs.LeavesLemmas.{fork_trim}
use Rattle.entry_tree.proofs.HeldTreesLemmas.{nodes_kept}
use Rattle.entry_tree.proofs.UnderWayLemmas.{path_front, path_end}
use Rattle.entry_tree.proofs.WayLemmas.{tree_below, at_place_times}
use Rattle.entry_tree.proofs.UsedPagesLemmas.{length-with_pages, claims_apart, claims_used, claimed_used, used_after}

-- ---- pages of a tree

-- what holds of each page of a tree, whatever the node
below_each : (count n : ℕ) (t : Forest) → EachNode (IsPageBelow count) t → 0 < times n t → n < count
below_each count n Nil h l = absurd (omega arith)
below_each count n (Leaf p items next) h l = elim (cases_eq n p) [
  | inl e ↦ subst (λ (v : ℕ). v < count) (sym e) h.0
  | inr d ↦ below_each count n next h.1 (omega (arith, once_other n p d))
]
below_each count n (Fork p seps kids next) h l = elim (cases_eq n p) [
  | inl e ↦ subst (λ (v : ℕ). v < count) (sym e) h.0
  | inr d ↦ elim (cases_lt 0 (times n kids)) [
    | inl more ↦ below_each count n kids h.1 more
    | inr none ↦ below_each count n next h.2 (omega (arith, once_other n p d))
  ]
]

-- a page of an extent isn't one of the extent map, nor page 0
pub extent_not_space : (shape : Shape) (p : ℕ) → IsExtentPage shape p → IsSpacePage shape p → ⊥
extent_not_space shape p h (inl e) = let b = h.behind in omega (arith, b, e)
extent_not_space shape p h (inr m) = let b = h.behind in omega (arith, b, m.1)

pub used_not_space : (shape : Shape) (owners : List Kind) (p : ℕ) → IsUsedPage shape owners p → IsSpacePage shape p → ⊥
used_not_space shape owners p u s = extent_not_space shape p u.page s

module _ {S : Type 0} {g : Ghosts S} where
  -- a tree stays where none of its pages is touched
  pub nodes_stay : (Mine : ℕ → Type 0) (old new : S) (tree : Tree) (t : Forest) → HoldsTree g old tree t → Touches g Mine old new → (g.state new).is_told ≡ (g.state old).is_told
      → ((p : ℕ) → 0 < times p t → Mine p → ⊥) → (p : ℕ) → 0 < times p t → nodes_in tree.width (g.state new) p ≡ nodes_in tree.width (g.state old) p
  nodes_stay Mine old new tree t h touched told apart p l =
      nodes_kept g Mine old new tree.width p touched told (below_each (length (g.state old).work) p t (tree_below h) l) (apart p l)

  pub tree_stays : (Mine : ℕ → Type 0) (old new : S) (tree : Tree) (t : Forest) → HoldsTree g old tree t → Touches g Mine old new → (g.state new).is_told ≡ (g.state old).is_told
      → ((p : ℕ) → 0 < times p t → Mine p → ⊥) → HoldsTree g new tree t
  tree_stays Mine old new tree t h touched told apart = record {
    is_tree = record {
      head = h.is_tree.head;
      holds = HoldsForest-agree (nodes_in tree.width (g.state old)) (nodes_in tree.width (g.state new)) t (nodes_stay Mine old new tree t h touched told apart) h.is_tree.holds;
      fits = h.is_tree.fits;
      distinct = h.is_tree.distinct;
    };
    trim = h.trim;
  }

  -- each of its pages is there
  pub page_there : (old : S) (tree : Tree) (t : Forest) (p : ℕ) → HoldsTree g old tree t → 0 < times p t → p < length (g.state old).work
  page_there old tree t p h l = below_each (length (g.state old).work) p t (tree_below h) l

  -- the extent map stays where none of its pages is touched
  pub map_stays : (Mine : ℕ → Type 0) (shape : Shape) (old new : S) (owners : List Kind) → HoldsMap g shape old owners → Touches g Mine old new
      → length (g.state old).work ≤ length (g.state new).work → ((p : ℕ) → IsMapPage shape p → Mine p → ⊥) → HoldsMap g shape new owners
  map_stays Mine shape old new owners h touched longer apart = record {
    count = h.count;
    pages = λ i l. let was = h.pages i l in record {
      page = touched.others (17 + i) (map_page owners i) (λ mine. apart (17 + i) (omega arith, omega arith) mine) was.page;
      kinds = was.kinds;
      there = λ e at some. omega (arith, was.there e at some, longer);
    };
  }

-- ---- paths

path_turned : (p : ℕ) (path : List (ℕ × ℕ)) → IsPathPage p path → IsPathPage p (reverse path)
path_turned p [] h = absurd h
path_turned p (q ∷ path) (inl e) =
    subst (IsPathPage p) (sym (reverse-append (q ∷ []) path)) (subst (λ (v : ℕ). IsPathPage v (reverse path ++ q ∷ [])) (sym e) (path_end (reverse path) q))
path_turned p (q ∷ path) (inr h) = subst (IsPathPage p) (sym (reverse-append (q ∷ []) path)) (path_front p (reverse path) q (path_turned p path h))

on_frames : (p : ℕ) (above : List Frame) → IsPathPage p (places above) → 0 < times_beside p above
on_frames p [] h = absurd h
on_frames p (f ∷ fs) (inl e) = omega (arith, subst (λ (v : ℕ). once p v ≡ 1) e (once_same p))
on_frames p (f ∷ fs) (inr h) = omega (arith, on_frames p fs h)

-- each page of the path is one of the tree
pub path_times : (t : Forest) (x : Entry) (path : List (ℕ × ℕ)) (page p : ℕ) → IsAtPlace t x (reverse path) page → IsPathPage p path → 0 < times p t
path_times t x path page p v h =
    let on : IsPathPage p (places v.above) = subst (IsPathPage p) (sym v.way) (path_turned p path h) in
    omega (arith, ap (times p) v.whole, times-plug p v.above v.here, on_frames p v.above on)

-- ---- what an entry asks for, by nodes that are the same on the way

run_same : (full : Node → Bool) (one other : ℕ → Node) (above : List Frame) → ((p : ℕ) → 0 < times_beside p above → one p ≡ other p)
    → run_up full one (places above) ≡ run_up full other (places above)
run_same full one other [] same = refl
run_same full one other (f ∷ fs) same =
    let rest = run_same full one other fs (λ p l. same p (omega arith)) in
    let here = same f.page (omega (arith, once_same f.page)) in
    rw (here, rest) refl

pub asked_same : (full : Node → Bool) (one other : ℕ → Node) (t : Forest) (x : Entry) (stack : List (ℕ × ℕ)) (page : ℕ) → IsAtPlace t x stack page → ((p : ℕ) → 0 < times p t → one p ≡ other p)
    → pages_asked full one stack page ≡ pages_asked full other stack page
asked_same full one other t x stack page v same =
    let above : (p : ℕ) → 0 < times_beside p v.above → one p ≡ other p = λ p l. same p (omega (arith, ap (times p) v.whole, times-plug p v.above v.here)) in
    let run : run_up full one stack ≡ run_up full other stack = subst (λ (s : List (ℕ × ℕ)). run_up full one s ≡ run_up full other s) v.way (run_same full one other v.above above) in
    rw (same page (at_place_times v), run) refl

pub found_same : (one other : ℕ → Node) (t : Forest) (x : Entry) (stack : List (ℕ × ℕ)) (page at : ℕ) (there : Bool) → ((p : ℕ) → 0 < times p t → other p ≡ one p) → IsLeafFound one t x stack page at there
    → IsLeafFound other t x stack page at there
found_same one other t x stack page at there same f =
    record { place = f.place; items = f.items; leaf = same page (at_place_times f.place) ∙ f.leaf; rises = f.rises; spot = f.spot; says = f.says }

-- ---- claimed pages

among_claimed : (p : ℕ) (claimed : List ℕ) → 0 < times_among p claimed → IsClaimed p claimed
among_claimed p [] l = absurd (omega arith)
among_claimed p (q ∷ claimed) l = elim (cases_eq p q) [
  | inl e ↦ inl e
  | inr d ↦ inr (among_claimed p claimed (omega (arith, once_other p q d)))
]

not_among : (p : ℕ) (claimed : List ℕ) → (IsClaimed p claimed → ⊥) → times_among p claimed ≡ 0
not_among p claimed n = elim (cases_lt 0 (times_among p claimed)) [
  | inl some ↦ absurd (n (among_claimed p claimed some))
  | inr none ↦ omega arith
]

claims_once : (shape : Shape) (owners : List Kind) (claimed : List ℕ) → length owners ≡ shape.extents → AreClaims shape owners claimed → (n : ℕ) → times_among n claimed ≤ 1
claims_once shape owners [] l h n = omega arith
claims_once shape owners (p ∷ claimed) l h n = elim (cases_eq n p) [
  | inl e ↦ let none : times_among n claimed ≡ 0 = not_among n claimed (λ i. claims_apart shape (with_used_page shape owners p) claimed n h.1 (subst (IsUsedPage shape (with_used_page shape owners p)) (sym e) (claimed_used shape owners p l h.0)) i) in
      omega (arith, subst (λ (v : ℕ). once n v ≡ 1) e (once_same n))
  | inr d ↦ omega (arith, once_other n p d, claims_once shape (with_used_page shape owners p) claimed (length-with_pages shape owners (p ∷ []) ∙ l) h.1 n)
]

-- pages that were claimed are fresh to a tree of used pages
pub claims_fresh : (shape : Shape) (owners : List Kind) (claimed : List ℕ) (t : Forest) → length owners ≡ shape.extents → AreClaims shape owners claimed → ((p : ℕ) → 0 < times p t → IsUsedPage shape owners p)
    → AreFresh t claimed
claims_fresh shape owners claimed t l h used = record {
  once = claims_once shape owners claimed l h;
  apart = λ n some. elim (cases_lt 0 (times n t)) [
    | inl is ↦ absurd (claims_apart shape owners claimed n h (used n is) (among_claimed n claimed some))
    | inr none ↦ omega arith
  ];
}

-- ---- an addition among the extents

pages_apart : (whole after : Forest) (claimed : List ℕ) (p : ℕ) → ((n : ℕ) → times n after ≡ times n whole + times_among n claimed) → 0 < times p after → 0 < times p whole ⊎ IsClaimed p claimed
pages_apart whole after claimed p pages l = elim (cases_lt 0 (times p whole)) [
  | inl some ↦ inl some
  | inr none ↦ inr (among_claimed p claimed (let k = pages p in omega arith))
]

-- each leaf holds an entry
holds_entries : (width : ℕ) (old : ℕ → Node) (t u : Forest) → EachNode (KeepsLeaf width old t) u → EachNode HoldsEntry u
holds_entries width old t Nil h = tt
holds_entries width old t (Leaf p items next) h = (h.0.0, holds_entries width old t next h.1)
holds_entries width old t (Fork p seps kids next) h = (tt, holds_entries width old t kids h.1, holds_entries width old t next h.2)

-- the same leaves were there before
keeps_same : (width : ℕ) (one other : ℕ → Node) (t u : Forest) → ((p : ℕ) → 0 < times p t → other p ≡ one p) → EachNode (KeepsLeaf width one t) u → EachNode (KeepsLeaf width other t) u
keeps_same width one other t Nil same h = tt
keeps_same width one other t (Leaf p items next) same h = ((h.0.0, was h.0.1), keeps_same width one other t next same h.1)
  where
    was : (leaf_room width / 2 ≤ length items) ⊎ ((were : List Entry) × (0 < times p t) × (one p ≡ LeafNode were) × (length were ≤ length items))
        → (leaf_room width / 2 ≤ length items) ⊎ ((were : List Entry) × (0 < times p t) × (other p ≡ LeafNode were) × (length were ≤ length items))
    was (inl half) = inl half
    was (inr k) = inr (k.0, k.1, same p k.1 ∙ k.2, k.3)
keeps_same width one other t (Fork p seps kids next) same h = (tt, keeps_same width one other t kids same h.1, keeps_same width one other t next same h.2)

module _ {S : Type 0} {g : Ghosts S} where
  -- the facts of an addition, once the claims and the writes are done
  pub added : (Mine Wrote : ℕ → Type 0) (shape : Shape) (before noted : SpaceNotes) (old mid new : S) (tree : Tree) (x : Entry) (owners : List Kind) (t : Forest) (claimed : List ℕ)
      → StandsTree g shape old tree owners t → ClaimsPages g shape before noted mid owners claimed
      → Touches g Mine old mid → (g.state mid).is_told ≡ (g.state old).is_told → ((p : ℕ) → 0 < times p t → Mine p → ⊥)
      → Touches g Wrote mid new → (g.state new).is_told ≡ (g.state mid).is_told → length (g.state mid).work ≤ length (g.state new).work → ((p : ℕ) → Wrote p → IsSpacePage shape p → ⊥)
      → GrowsWith g shape old new claimed → BringsZeros g (λ p. IsClaimed p claimed) old new
      → AsksPages tree.width (nodes_in tree.width (g.state old)) t x (length claimed) → (IsEntryOf x (leaf_entries t) → ⊥)
      → IsAdded tree.width (nodes_in tree.width (g.state mid)) (nodes_in tree.width (g.state new)) tree.root t x claimed
      → AddsEntry g shape before noted old new tree x owners t
  added Mine Wrote shape before noted old mid new tree x owners t claimed stood c touched told apart written told_new longer off grows zeros asks absent a =
      let same = nodes_stay Mine old mid tree t stood.held touched told apart in
      record {
        claimed = claimed;
        after = a.after;
        stands = record {
          map = map_stays Wrote shape mid new (with_pages shape owners claimed) c.map written longer (λ p on_map mine. off p mine (inr on_map));
          held = record { is_tree = a.tree; trim = fork_trim a.after tree.root a.tree.head (holds_entries tree.width _ t a.after a.leaves) };
          used = λ p l. (used p (pages_apart t a.after claimed p a.pages l));
        };
        adds = a.adds;
        one_leaf = a.one_leaf;
        absent = absent;
        asked = asks;
        claims = c.claims;
        lowest = c.lowest;
        notes = c.notes;
        leaves = keeps_same tree.width (nodes_in tree.width (g.state mid)) (nodes_in tree.width (g.state old)) t a.after (λ p l. sym (same p l)) a.leaves;
        pages = a.pages;
        grows = grows;
        zeros = zeros;
      }
    where
      used : (p : ℕ) → 0 < times p t ⊎ IsClaimed p claimed → IsUsedPage shape (with_pages shape owners claimed) p
      used p (inl l) = used_after shape owners claimed p (stood.used p l)
      used p (inr i) = claims_used shape owners claimed p stood.map.count c.claims i
