-- The runs of calls by which a leaf leaves its tree.
use Rattle.std.proofs.Common.{◌≡◌, ◌≢◌, ◌<◌, ◌≤◌, ◌-◌, ℕ, List, [], ◌∷◌, sym, ◌∙◌, subst, length, get_or, inr}
use Rattle.std.specs.Prelude.{Option, Some, None, Result, Ok, Err, OnOk}
use Rattle.std.specs.List.{remove}
use Rattle.mdc_words.specs.ByteOrder.{Entry}
use Rattle.node_page.specs.Node.{Node}
use Rattle.node_page.specs.Node.Node.{InnerNode, NoNode}
use Rattle.store_api.specs.Frame.{NoPage, OnlyPage}
use Rattle.store_api.specs.RunsOverPages.{RunsOverPages}
use Rattle.store_api.specs.declared.fault.Damage.{Damage}
use Rattle.store_api.specs.declared.fault.StoreFault.{StoreFault}
use Rattle.store_api.specs.declared.pages.Pages.{Ghosts}
use Rattle.store_api.specs.declared.shape.Shape.{Shape}
use Rattle.extent_map.specs.Damages.{BreaksUsedPage}
use Rattle.extent_map.specs.Map.{HoldsMap, IsMapPage}
use Rattle.extent_map.specs.Owners.{AreRightNotes, IsUsedPage, without_page}
use Rattle.extent_map.specs.declared.kind.Kind.{Kind}
use Rattle.extent_map.specs.declared.space_notes.SpaceNotes.{SpaceNotes}
use Rattle.extent_map.proofs.HoldsMapLemmas.{holds_map_run}
use Rattle.entry_tree.specs.Forest.{Forest}
use Rattle.entry_tree.specs.HeldTrees.{nodes_in}
use Rattle.entry_tree.specs.Pruning.{BreaksDrop, DropsLeaf, HasBeside, IsDroppable, IsDroppableLeaf, IsDropping, IsInnerFrom, IsOtherChild, IsSomeNode}
use Rattle.entry_tree.specs.TreeChanges.{IsPut}
use Rattle.entry_tree.specs.TreePlaces.{Frame}
use Rattle.entry_tree.specs.Writing.{BreaksWhere}
use Rattle.entry_tree.specs.declared.tree.Tree.{Tree}
use Rattle.entry_tree.proofs.DroppingLemmas.{IsPruned-agree, drops_inner, drops_other, node_above, other_above}
use Rattle.entry_tree.proofs.HeldTreesLemmas.{nodes_same}
use Rattle.entry_tree.proofs.LentNodesLemmas.{nodes_in-some, nodes_kept_all}
use Rattle.entry_tree.proofs.ReturnedPagesLemmas.{apart_from_map}

pub breaks_where : {tree : Tree} {Wide Expected : Type 0} {damage : Damage} → BreaksWhere tree Wide damage → (Expected → Wide) → BreaksWhere tree Expected damage
breaks_where b wider = record { page = b.page; rule = b.rule; not_so = λ e. b.not_so (wider e) }

pub on_ok_both : {X E P Q R : Type 0} (r : Result X E) → OnOk r P → OnOk r Q → (P → Q → R) → OnOk r R
on_ok_both (Ok x) p q f = f p q
on_ok_both (Err e) p q f = tt

beside_none : (node : Node) (at : ℕ) (seps : List Entry) (children : List ℕ) → node ≡ InnerNode seps children → HasBeside node at None → 1 < length seps
beside_none node at seps children e h = let k : HasBeside (InnerNode seps children) at None = subst (λ (n : Node). HasBeside n at None) e h in k

beside_some : (node : Node) (at other : ℕ) (seps : List Entry) (children : List ℕ) → node ≡ InnerNode seps children → HasBeside node at (Some other)
    → (length seps ≡ 1) × (other ≡ get_or children (1 - at) 0)
beside_some node at other seps children e h = let k : HasBeside (InnerNode seps children) at (Some other) = subst (λ (n : Node). HasBeside n at (Some other)) e h in k

pub other_look : (node : Node) (at other p : ℕ) → HasBeside node at (Some other) → p ≡ other → IsOtherChild node at p
other_look node at other p h is seps children e = let b = beside_some node at other seps children e h in (b.0, is ∙ b.1)

-- the same nodes, where the work is the same
pub all_same : {S : Type 0} {g : Ghosts S} {s m : S} {Mine Kinds : ℕ → Type 0} {Breaks : Damage → Type 0} {fault : Option StoreFault} (width : ℕ) → RunsOverPages g Mine Kinds Breaks s m fault
    → (g.state m).work ≡ (g.state s).work → (n : ℕ) → nodes_in width (g.state m) n ≡ nodes_in width (g.state s) n
all_same {S} {g} {s} {m} width run same n = nodes_same width (g.state s) (g.state m) n run.works.steady.is_told same

put_since : {old mid new : ℕ → Node} {page : ℕ} {node : Node} → ((n : ℕ) → mid n ≡ old n) → IsPut mid new page node → IsPut old new page node
put_since same put = record { there = put.there; others = λ n d. put.others n d ∙ same n }

module _ {S : Type 0} (g : Ghosts S) (s : S) (tree : Tree) (leaf page at : ℕ) where
  -- what the node above is expected to be
  pub drop_expects : IsDroppableLeaf g s tree leaf page at → IsInnerFrom (nodes_in tree.width (g.state s) page) at 0
  drop_expects d =
      let n = node_above d.0 (nodes_in tree.width (g.state s)) tree.root d.1 d.2 d.3 leaf page at d.4 in
      record { seps = n.seps; children = n.children; inner = n.node; within = n.within; some = nodes_in-some tree.width (g.state s) page n.seps n.children n.node }

  pub drop_expects_more : (m : S) → nodes_in tree.width (g.state m) page ≡ nodes_in tree.width (g.state s) page → HasBeside (nodes_in tree.width (g.state s) page) at None
      → IsDroppableLeaf g s tree leaf page at → IsInnerFrom (nodes_in tree.width (g.state m) page) at 1
  drop_expects_more m same beside d =
      let n = node_above d.0 (nodes_in tree.width (g.state s)) tree.root d.1 d.2 d.3 leaf page at d.4 in
      record { seps = n.seps; children = n.children; inner = same ∙ n.node; within = n.within; some = beside_none (nodes_in tree.width (g.state s) page) at n.seps n.children n.node beside }

  pub drop_expects_other : (m : S) (other : ℕ) → nodes_in tree.width (g.state m) other ≡ nodes_in tree.width (g.state s) other → HasBeside (nodes_in tree.width (g.state s) page) at (Some other)
      → IsDroppableLeaf g s tree leaf page at → IsSomeNode (nodes_in tree.width (g.state m) other)
  drop_expects_other m other same beside d =
      let n = node_above d.0 (nodes_in tree.width (g.state s)) tree.root d.1 d.2 d.3 leaf page at d.4 in
      let b = beside_some (nodes_in tree.width (g.state s) page) at other n.seps n.children n.node beside in
      let o = other_above d.0 (nodes_in tree.width (g.state s)) tree.root d.1 d.2 d.3 leaf page at other d.4 b.0 b.1 in
      (λ (k : nodes_in tree.width (g.state m) other ≡ NoNode). o.is_node (sym same ∙ k))

module _ {S : Type 0} {g : Ghosts S} {shape : Shape} {s : S} {tree : Tree} {leaf page at : ℕ} where
  module _ {owners : List Kind} {was : ℕ → Node} {t : Forest} {f : Frame} {fs : List Frame} where
    -- the map stands while the node above is written
    pub map_stands : {m0 m1 : S} {K0 K1 : ℕ → Type 0} {B0 B1 : Damage → Type 0} {fault : Option StoreFault} → IsDropping g shape s tree owners was t f fs leaf page at
        → RunsOverPages g NoPage K0 B0 s m0 None → RunsOverPages g (OnlyPage page) K1 B1 m0 m1 fault → HoldsMap g shape m1 owners
    map_stands d first second =
        let n = node_above was (nodes_in tree.width (g.state s)) tree.root t f fs leaf page at d.emptied in
        holds_map_run second (λ p map is. apart_from_map shape page (d.used page n.there).page (subst (IsMapPage shape) is map)) (holds_map_run first (λ p map none. none) d.map)

    pub leaf_used : IsDropping g shape s tree owners was t f fs leaf page at → IsUsedPage shape owners leaf
    leaf_used d = d.used leaf (node_above was (nodes_in tree.width (g.state s)) tree.root t f fs leaf page at d.emptied).leaf_there

    pub other_used : (other : ℕ) → IsDropping g shape s tree owners was t f fs leaf page at → HasBeside (nodes_in tree.width (g.state s) page) at (Some other) → IsUsedPage shape owners other × (other ≢ leaf)
    other_used other d beside =
        let n = node_above was (nodes_in tree.width (g.state s)) tree.root t f fs leaf page at d.emptied in
        let b = beside_some (nodes_in tree.width (g.state s) page) at other n.seps n.children n.node beside in
        let o = other_above was (nodes_in tree.width (g.state s)) tree.root t f fs leaf page at other d.emptied b.0 b.1 in
        (d.used other o.there, o.apart)

    -- what a leaf that goes from a node with more children leaves
    pub drops_none : {m0 m1 m2 : S} {noted after : SpaceNotes} {K0 K1 K2 : ℕ → Type 0} {B0 B1 B2 : Damage → Type 0} {fault : Option StoreFault} → IsDropping g shape s tree owners was t f fs leaf page at
        → HasBeside (nodes_in tree.width (g.state s) page) at None → RunsOverPages g NoPage K0 B0 s m0 None → (g.state m0).work ≡ (g.state s).work
        → ((seps : List Entry) (children : List ℕ) → nodes_in tree.width (g.state m0) page ≡ InnerNode seps children → at ≤ length seps → 1 < length seps
        → IsPut (nodes_in tree.width (g.state m0)) (nodes_in tree.width (g.state m1)) page (InnerNode (remove seps (at - 1)) (remove children at)))
        → RunsOverPages g (OnlyPage page) K1 B1 m0 m1 None → RunsOverPages g (IsMapPage shape) K2 B2 m1 m2 fault → length (g.state m2).work ≡ length (g.state m1).work
        → ((o : List Kind) → HoldsMap g shape m1 o → HoldsMap g shape m2 (without_page shape o leaf))
        → ((o : List Kind) → HoldsMap g shape m1 o → AreRightNotes shape noted o → AreRightNotes shape after (without_page shape o leaf))
        → DropsLeaf g shape noted after m2 tree owners t (f ∷ fs)
    drops_none {m0} {m1} {m2} d beside run0 same0 taken run1 run2 count gives notes =
        let n = node_above was (nodes_in tree.width (g.state s)) tree.root t f fs leaf page at d.emptied in
        let more = beside_none (nodes_in tree.width (g.state s) page) at n.seps n.children n.node beside in
        let same = all_same tree.width run0 same0 in
        let put = put_since same (taken n.seps n.children (same page ∙ n.node) n.within more) in
        let map = map_stands d run0 run1 in
        record {
          gone = leaf ∷ [];
          pruned = IsPruned-agree (nodes_in tree.width (g.state m1)) (nodes_in tree.width (g.state m2)) tree.root t (f ∷ fs) [] (leaf ∷ [])
              (λ p there. nodes_kept_all tree.width p run2.touches run2.works.steady.is_told count (apart_from_map shape p (d.used p there).page))
              (drops_inner was (nodes_in tree.width (g.state s)) (nodes_in tree.width (g.state m1)) tree.root t f fs leaf page at d.emptied more put);
          map = gives owners map;
          notes = notes owners map;
        }

    -- and one that goes from a node with one child more
    pub drops_some : {m0 m1 m2 m3 : S} {noted now after : SpaceNotes} (other : ℕ) {K0 K1 K2 K3 : ℕ → Type 0} {B0 B1 B2 B3 : Damage → Type 0} {fault : Option StoreFault} → IsDropping g shape s tree owners was t f fs leaf page at
        → HasBeside (nodes_in tree.width (g.state s) page) at (Some other) → RunsOverPages g NoPage K0 B0 s m0 None → (g.state m0).work ≡ (g.state s).work
        → (IsSomeNode (nodes_in tree.width (g.state m0) other) → IsPut (nodes_in tree.width (g.state m0)) (nodes_in tree.width (g.state m1)) page (nodes_in tree.width (g.state m0) other))
        → RunsOverPages g (OnlyPage page) K1 B1 m0 m1 None
        → RunsOverPages g (IsMapPage shape) K2 B2 m1 m2 None → length (g.state m2).work ≡ length (g.state m1).work
        → RunsOverPages g (IsMapPage shape) K3 B3 m2 m3 fault → length (g.state m3).work ≡ length (g.state m2).work
        → ((o : List Kind) → HoldsMap g shape m1 o → HoldsMap g shape m2 (without_page shape o other))
        → ((o : List Kind) → HoldsMap g shape m1 o → AreRightNotes shape noted o → AreRightNotes shape now (without_page shape o other))
        → ((o : List Kind) → HoldsMap g shape m2 o → HoldsMap g shape m3 (without_page shape o leaf))
        → ((o : List Kind) → HoldsMap g shape m2 o → AreRightNotes shape now o → AreRightNotes shape after (without_page shape o leaf))
        → DropsLeaf g shape noted after m3 tree owners t (f ∷ fs)
    drops_some {m0} {m1} {m2} {m3} other d beside run0 same0 taken run1 run2 count2 run3 count3 gives notes gives_last notes_last =
        let n = node_above was (nodes_in tree.width (g.state s)) tree.root t f fs leaf page at d.emptied in
        let b = beside_some (nodes_in tree.width (g.state s) page) at other n.seps n.children n.node beside in
        let o = other_above was (nodes_in tree.width (g.state s)) tree.root t f fs leaf page at other d.emptied b.0 b.1 in
        let same = all_same tree.width run0 same0 in
        let put = taken (λ (k : nodes_in tree.width (g.state m0) other ≡ NoNode). o.is_node (sym (same other) ∙ k)) in
        let put_here : IsPut (nodes_in tree.width (g.state s)) (nodes_in tree.width (g.state m1)) page (nodes_in tree.width (g.state s) other) =
        record { there = put.there ∙ same other; others = λ k apart. put.others k apart ∙ same k } in
        let map = map_stands d run0 run1 in
        record {
          gone = other ∷ leaf ∷ [];
          pruned = IsPruned-agree (nodes_in tree.width (g.state m1)) (nodes_in tree.width (g.state m3)) tree.root t (f ∷ fs) [] (other ∷ leaf ∷ [])
              (λ p there.
              let apart = apart_from_map shape p (d.used p there).page in
              nodes_kept_all tree.width p run3.touches run3.works.steady.is_told count3 apart
              ∙ nodes_kept_all tree.width p run2.touches run2.works.steady.is_told count2 apart)
              (drops_other was (nodes_in tree.width (g.state s)) (nodes_in tree.width (g.state m1)) tree.root t f fs leaf page at other d.emptied b.0 b.1 put_here);
          map = gives_last (without_page shape owners other) (gives owners map);
          notes = λ right. notes_last (without_page shape owners other) (gives owners map) (notes owners map right);
        }

  -- what a return may name
  pub giving : {mid : S} {p : ℕ} {damage : Damage} → BreaksUsedPage g shape mid p damage
      → ((owners : List Kind) → IsDroppable g shape s tree leaf page at owners → (more : List Kind) × HoldsMap g shape mid more × IsUsedPage shape more p)
      → BreaksDrop g shape s tree leaf page at damage
  giving {mid} {p} u told = inr (record { mid = mid; page = p; map = told; breaks = u })
