-- The way of an entry in a tree that a store is told to hold.
use Rattle.std.proofs.Common.{◌≡◌, ◌<◌, ℕ, List, [], ◌∷◌, refl, ap, arith, sym, subst, length}
use Rattle.std.specs.Prelude.{Some, None}
use Rattle.node_page.specs.Node.{Node}
use Rattle.store_api.specs.Works.{Steady}
use Rattle.store_api.specs.RunsOverPages.{RunsOverPages}
use Rattle.store_api.specs.declared.fault.StoreFault.{StoreFault}
use Rattle.store_api.specs.declared.fault.StoreFault.TheVariants.{Damaged}
use Rattle.store_api.proofs.RunsOverPagesLemmas.{runs_damage}
use Rattle.store_api.specs.declared.pages.Pages.{Ghosts}
use Rattle.mdc_words.specs.ByteOrder.{Entry}
use Rattle.entry_tree.specs.Forest.{Forest, heads, times, EachNode, IsPageBelow}
use Rattle.entry_tree.specs.Forest.Forest.{Nil, Leaf, Fork}
use Rattle.entry_tree.specs.TreePlaces.{Frame, plug, IsOnWay, IsAtPlace}
use Rattle.entry_tree.specs.HeldTrees.{nodes_in, HoldsTree, IsTreePage, BreaksTree}
use Rattle.store_api.specs.Frame.{OnlyPage}
use Rattle.entry_tree.specs.Sight.{Sees}
use Rattle.entry_tree.specs.declared.sight.Sight.{Sight}
use Rattle.entry_tree.specs.declared.tree.Tree.{Tree}
use Rattle.entry_tree.proofs.ForestLemmas.{once_same}
use Rattle.entry_tree.proofs.TreePlacesLemmas.{EachNode-from_plug, times-plug}
use Rattle.entry_tree.proofs.SearchLemmas.{way_begins, Shows, shown}
use Rattle.entry_tree.proofs.DepthLemmas.{not_deeper}
use Rattle.entry_tree.proofs.HeldTreesLemmas.{HoldsForest-below, nodes_same}

-- the root of a tree is one of its pages
pub head_times : (t : Forest) (page : ℕ) → heads t ≡ page ∷ [] → 0 < times page t
head_times Nil page e = absurd (omega (arith, ap length e))
head_times (Leaf p items next) page e = let same : p ≡ page = cc in subst (λ (v : ℕ). 0 < times v (Leaf p items next)) same (omega (arith, once_same p))
head_times (Fork p seps kids next) page e = let same : p ≡ page = cc in subst (λ (v : ℕ). 0 < times v (Fork p seps kids next)) same (omega (arith, once_same p))

head_below : (t : Forest) (page count : ℕ) → heads t ≡ page ∷ [] → EachNode (IsPageBelow count) t → page < count
head_below Nil page count e h = absurd (omega (arith, ap length e))
head_below (Leaf p items next) page count e h = let same : p ≡ page = cc in subst (λ (v : ℕ). v < count) same h.0
head_below (Fork p seps kids next) page count e h = let same : p ≡ page = cc in subst (λ (v : ℕ). v < count) same h.0

-- a place of a tree is one of its pages
pub place_times : (t here : Forest) (above : List Frame) (page : ℕ) → t ≡ plug above here → heads here ≡ page ∷ [] → 0 < times page t
place_times t here above page e h = omega (arith, ap (times page) e, times-plug page above here, head_times here page h)

pub on_way_times : {t : Forest} {x : Entry} {page steps : ℕ} → IsOnWay t x page steps → 0 < times page t
on_way_times {t} {x} {page} {steps} v = place_times t v.here v.above page v.whole v.head

pub at_place_times : {t : Forest} {x : Entry} {stack : List (ℕ × ℕ)} {page : ℕ} → IsAtPlace t x stack page → 0 < times page t
at_place_times {t} {x} {stack} {page} v = place_times t v.here v.above page v.whole v.head

module _ {S : Type 0} {g : Ghosts S} {s : S} {tree : Tree} {t : Forest} where
  -- each page of the tree is there
  pub tree_below : HoldsTree g s tree t → EachNode (IsPageBelow (length (g.state s).work)) t
  tree_below h = HoldsForest-below tree.width (g.state s) t h.is_tree.holds

  place_below : HoldsTree g s tree t → (here : Forest) (above : List Frame) (page : ℕ) → t ≡ plug above here → heads here ≡ page ∷ [] → page < length (g.state s).work
  place_below h here above page e k =
      head_below here page (length (g.state s).work) k
      (EachNode-from_plug (IsPageBelow (length (g.state s).work)) above here (subst (EachNode (IsPageBelow (length (g.state s).work))) e (tree_below h)))

  pub on_way_below : {x : Entry} {page steps : ℕ} → HoldsTree g s tree t → IsOnWay t x page steps → page < length (g.state s).work
  on_way_below {x} {page} {steps} h v = place_below h v.here v.above page v.whole v.head

  pub at_place_below : {x : Entry} {stack : List (ℕ × ℕ)} {page : ℕ} → HoldsTree g s tree t → IsAtPlace t x stack page → page < length (g.state s).work
  at_place_below {x} {stack} {page} h v = place_below h v.here v.above page v.whole v.head

  -- the way begins at the root, and isn't longer than there are pages
  pub on_way_first : (x : Entry) → HoldsTree g s tree t → IsOnWay t x tree.root 0
  on_way_first x h = way_begins _ tree.root t x h.is_tree

  pub on_way_short : {x : Entry} {page steps : ℕ} → HoldsTree g s tree t → IsOnWay t x page steps → steps < length (g.state s).work
  on_way_short {x} {page} {steps} h v = not_deeper _ tree.root (length (g.state s).work) page steps t x h.is_tree (tree_below h) v

  -- what a search sees on the way, where the pages are as they were
  pub sees_on_way : {mid : S} {x : Entry} {page steps : ℕ} → HoldsTree g s tree t → IsOnWay t x page steps → Steady g s mid → (g.state mid).work ≡ (g.state s).work
      → (sight : Sight) → Sees tree.width (nodes_in tree.width (g.state mid) page) x sight → Shows t x steps sight
  sees_on_way {mid} {x} {page} {steps} h v steady same sight sees =
      shown (nodes_in tree.width (g.state s)) tree.width tree.root page steps t x h.is_tree v sight
      (subst (λ (n : Node). Sees tree.width n x sight) (nodes_same tree.width (g.state s) (g.state mid) page steady.is_told same) sees)

-- the same of a page of the path
pub only_place : {S : Type 0} {g : Ghosts S} {s : S} {tree : Tree} {x : Entry} {stack : List (ℕ × ℕ)} {page p : ℕ} → ((t : Forest) → HoldsTree g s tree t → IsAtPlace t x stack page) → OnlyPage page p → IsTreePage g s tree p
only_place {S} {g} {s} {tree} {x} {stack} {page} {p} place is t h = subst (λ (q : ℕ). 0 < times q t) (sym is) (at_place_times (place t h))

-- a run that meets damage of a tree
pub runs_broken : {S : Type 0} {g : Ghosts S} {Mine Kind : ℕ → Type 0} {old new : S} (tree : Tree) (fault : StoreFault) → fault ≡ Damaged (record { page = tree.root; rule = 4 })
    → RunsOverPages g Mine Kind (BreaksTree g old tree) old new None → ((t : Forest) → HoldsTree g old tree t → ⊥)
    → RunsOverPages g Mine Kind (BreaksTree g old tree) old new (Some fault)
runs_broken {S} {g} {Mine} {Kind} {old} {new} tree fault is run broken =
    subst (λ (f : StoreFault). RunsOverPages g Mine Kind (BreaksTree g old tree) old new (Some f)) (sym is)
    (runs_damage run (record { page = refl; rule = refl; broken = broken }))

-- a page of the way is a page of the tree
pub only_way : {S : Type 0} {g : Ghosts S} {s : S} {tree : Tree} {x : Entry} {page steps p : ℕ} → ((t : Forest) → HoldsTree g s tree t → IsOnWay t x page steps) → OnlyPage page p → IsTreePage g s tree p
only_way {S} {g} {s} {tree} {x} {page} {steps} {p} way is t h = subst (λ (q : ℕ). 0 < times q t) (sym is) (on_way_times (way t h))
