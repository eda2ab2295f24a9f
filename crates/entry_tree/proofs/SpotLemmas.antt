-- The way down with the nearest separators.
use Rattle.std.proofs.Common.{◌≡◌, ◌≤◌, ◌+◌, ◌-◌, ℕ, zero, suc, List, [], ◌∷◌, refl, ap, arith, sym, ◌∙◌, subst, length, get_or, take, drop, ◌⊎◌, inl, inr}
use Rattle.std.specs.Prelude.{Option, Some, None, Bool, if◌then◌else◌}
use Rattle.std.proofs.lemmas.List.{drop_all, get_or-take, length-take-le}
use Rattle.std.proofs.Math.Seq.{drop-cons}
use Rattle.std.proofs.lemmas.Bool.{cases_lt, le-ltb, lt-ltb}
use Rattle.mdc_words.specs.ByteOrder.{Entry}
use Rattle.node_page.specs.Node.{Node}
use Rattle.node_page.specs.Node.Node.{InnerNode, LeafNode}
use Rattle.store_api.specs.Works.{Steady}
use Rattle.store_api.specs.declared.pages.Pages.{Ghosts}
use Rattle.entry_tree.specs.Forest.{Forest, IsTree, heads}
use Rattle.entry_tree.specs.HeldTrees.{nodes_in, HoldsTree}
use Rattle.entry_tree.specs.LeafSpots.{IsParent}
use Rattle.entry_tree.specs.TreePlaces.{Frame, IsOnWay}
use Rattle.entry_tree.specs.Spots.{FenceFits, IsSpotBelow, MeetsOnWay, fence_before, fence_behind, high_fence, high_fence_in, low_fence, low_fence_in, nearer_fence}
use Rattle.entry_tree.specs.declared.spot.Fence.{Fence}
use Rattle.entry_tree.specs.declared.spot.Passed.{Passed}
use Rattle.entry_tree.specs.declared.spot.Passed.TheVariants.{NoNodeThere, LeafThere, ChildThere}
use Rattle.entry_tree.specs.declared.tree.Tree.{Tree}
use Rattle.entry_tree.proofs.HeldTreesLemmas.{nodes_same}
use Rattle.entry_tree.proofs.NodeOnWayLemmas.{InnerOnWay, LeafOnWay, child_on_way, node_on_way}
use Rattle.entry_tree.proofs.SightLemmas.{Rises-wide}

-- a page on the way of x, with the nearest separators so far and the node just above
pub record IsPassed (t : Forest) (x : Entry) (page steps : ℕ) (low high : Option Fence) (parent : Option (ℕ × ℕ)) : Type 0 where
  pub way : IsOnWay t x page steps
  pub low_is : low_fence way.above ≡ low
  pub high_is : high_fence way.above ≡ high
  pub parent_is : IsParent way.above parent

pub passed_begins : (nodes : ℕ → Node) (root : ℕ) (t : Forest) (x : Entry) → IsTree nodes root t → IsPassed t x root 0 None None None
passed_begins nodes root t x w = record {
  way = record { above = []; here = t; whole = refl; matched = tt; head = w.head; deep = refl; low = tt; high = tt };
  low_is = refl;
  high_is = refl;
  parent_is = tt;
}

abbrev fence_at : ℕ → ℕ → Entry → Option Fence
fence_at page at bound = Some (record { page = page; at = at; bound = bound })

fence_before-suc : (page i : ℕ) (seps : List Entry) (far : Option Fence) → nearer_fence (fence_before page seps (suc i)) far ≡ fence_at page i (get_or seps i [])
fence_before-suc page i seps far =
    let k : suc i - 1 ≡ i = omega arith in
    ap (λ (b : Bool). nearer_fence (if b then fence_at page (suc i - 1) (get_or seps (suc i - 1) []) else None) far) (lt-ltb 0 (suc i) (omega arith))
    ∙ ap (λ (j : ℕ). fence_at page j (get_or seps j [])) k

low_taken : (f : Frame) (page i : ℕ) (seps : List Entry) (far : Option Fence) → i ≤ length seps → f.page ≡ page → low_fence_in f (take i seps) far ≡ nearer_fence (fence_before page seps i) far
low_taken f page zero seps far h e = refl
low_taken f page (suc i) [] far h e = absurd (omega arith)
low_taken f page (suc i) (s ∷ seps) far h e =
    let n : length (take i seps) ≡ i = length-take-le i seps (omega arith) in
    ap (λ (p : ℕ). fence_at p (length (take i seps)) (get_or (s ∷ take i seps) (length (take i seps)) [])) e
    ∙ ap (λ (k : ℕ). fence_at page k (get_or (s ∷ take i seps) k [])) n
    ∙ ap (fence_at page i) (get_or-take (suc i) (s ∷ seps) i [] (omega arith))
    ∙ sym (fence_before-suc page i (s ∷ seps) far)

high_dropped : (f : Frame) (page i : ℕ) (seps : List Entry) (far : Option Fence) → f.page ≡ page → length f.lows ≡ i → high_fence_in f (drop i seps) far ≡ nearer_fence (fence_behind page seps i) far
high_dropped f page i seps far e l =
    elim (cases_lt i (length seps)) [
      | inl lt ↦ ap (λ (r : List Entry). high_fence_in f r far) (drop-cons seps i [] lt)
          ∙ ap (λ (p : ℕ). fence_at p (length f.lows) (get_or seps i [])) e
          ∙ ap (λ (k : ℕ). fence_at page k (get_or seps i [])) l
          ∙ sym (ap (λ (b : Bool). nearer_fence (if b then fence_at page i (get_or seps i []) else None) far) (lt-ltb i (length seps) lt))
      | inr past ↦ ap (λ (r : List Entry). high_fence_in f r far) (drop_all i seps past)
          ∙ sym (ap (λ (b : Bool). nearer_fence (if b then fence_at page i (get_or seps i []) else None) far) (le-ltb i (length seps) past))
    ]

-- what the way down makes of a page
abbrev pub PassedOn : (ℕ → Node) → Forest → Entry → ℕ → ℕ → Option Fence → Option Fence → Option (ℕ × ℕ) → Passed → Type 0
PassedOn nodes t x page steps low high parent NoNodeThere = ⊥
PassedOn nodes t x page steps low high parent (LeafThere at there) = IsSpotBelow nodes t x page at there low high parent
PassedOn nodes t x page steps low high parent (ChildThere at child before behind) = IsPassed t x child (steps + 1) (nearer_fence before low) (nearer_fence behind high) (Some (page, at))

pub passed_on : (nodes : ℕ → Node) (root page steps : ℕ) (t : Forest) (x : Entry) (low high : Option Fence) (parent : Option (ℕ × ℕ)) → IsTree nodes root t → IsPassed t x page steps low high parent → (passed : Passed)
    → MeetsOnWay (nodes page) page x passed → PassedOn nodes t x page steps low high parent passed
passed_on nodes root page steps t x low high parent w v passed p = go (node_on_way nodes root page steps t x w v.way) passed p
  where
    leaf : (l : LeafOnWay nodes t v.way.above page) (passed : Passed) → MeetsOnWay (LeafNode l.items) page x passed → PassedOn nodes t x page steps low high parent passed
    leaf l NoNodeThere p = p
    leaf l (LeafThere at there) p =
        let r = p (Rises-wide _ _ l.items l.rises) in
        record {
          spot = record {
            above = v.way.above;
            items = l.items;
            whole = l.whole;
            leaf = l.node;
            matched = v.way.matched;
            least = v.way.low;
            under = v.way.high;
            place = r.0;
            says = r.1;
            low_is = v.low_is;
            high_is = v.high_is;
          };
          parent_is = v.parent_is;
        }
    leaf l (ChildThere at child before behind) p = absurd p

    inner : (n : InnerOnWay nodes t v.way.above page) (passed : Passed) → MeetsOnWay (InnerNode n.seps (heads n.kids)) page x passed → PassedOn nodes t x page steps low high parent passed
    inner n NoNodeThere p = p
    inner n (LeafThere at there) p = absurd p
    inner n (ChildThere at child before behind) p =
        let r = p n.rises in
        let c = child_on_way nodes page steps t x v.way n at child r.0 r.1 in
        let within : at ≤ length n.seps = omega (arith, r.0.within) in
        let place : length c.frame.lows ≡ at = ap length c.lows ∙ length-take-le at n.seps within in
        record {
          way = c.way;
          low_is =
              ap low_fence c.above_is
              ∙ ap (λ (ls : List Entry). low_fence_in c.frame ls (low_fence v.way.above)) c.lows
              ∙ low_taken c.frame page at n.seps (low_fence v.way.above) within c.page_is
              ∙ ap (nearer_fence (fence_before page n.seps at)) v.low_is
              ∙ ap (λ (f : Option Fence). nearer_fence f low) (sym r.2);
          high_is =
              ap high_fence c.above_is
              ∙ ap (λ (hs : List Entry). high_fence_in c.frame hs (high_fence v.way.above)) c.highs
              ∙ high_dropped c.frame page at n.seps (high_fence v.way.above) c.page_is place
              ∙ ap (nearer_fence (fence_behind page n.seps at)) v.high_is
              ∙ ap (λ (f : Option Fence). nearer_fence f high) (sym r.3);
          parent_is = subst (λ (fs : List Frame). IsParent fs (Some (page, at))) (sym c.above_is)
              (ap (λ (p : ℕ). (p, length c.frame.lows)) c.page_is ∙ ap (λ (n : ℕ). (page, n)) place);
        }

    go : LeafOnWay nodes t v.way.above page ⊎ InnerOnWay nodes t v.way.above page → (passed : Passed) → MeetsOnWay (nodes page) page x passed → PassedOn nodes t x page steps low high parent passed
    go (inl l) passed p = leaf l passed (subst (λ (n : Node). MeetsOnWay n page x passed) l.node p)
    go (inr n) passed p = inner n passed (subst (λ (n : Node). MeetsOnWay n page x passed) n.node p)

module _ {S : Type 0} {g : Ghosts S} {s : S} {tree : Tree} {t : Forest} where
  -- what a page shows on the way, where the pages are as they were
  pub passes_on : {mid : S} {x : Entry} {page steps : ℕ} {low high : Option Fence} {parent : Option (ℕ × ℕ)} → HoldsTree g s tree t → IsPassed t x page steps low high parent → Steady g s mid → (g.state mid).work ≡ (g.state s).work
      → (passed : Passed) → MeetsOnWay (nodes_in tree.width (g.state mid) page) page x passed → PassedOn (nodes_in tree.width (g.state s)) t x page steps low high parent passed
  passes_on {mid} {x} {page} {steps} {low} {high} {parent} h v steady same passed p =
      passed_on (nodes_in tree.width (g.state s)) tree.root page steps t x low high parent h.is_tree v passed
      (subst (λ (n : Node). MeetsOnWay n page x passed) (nodes_same tree.width (g.state s) (g.state mid) page steady.is_told same) p)

pub fits_nearer : (width : ℕ) (near far : Option Fence) → FenceFits width near → FenceFits width far → FenceFits width (nearer_fence near far)
fits_nearer width None far h k = k
fits_nearer width (Some near) far h k = h

-- what the way down keeps, over the fences as they are named
pub passed_as : {t : Forest} {x : Entry} {page steps : ℕ} {low high less more : Option Fence} {parent : Option (ℕ × ℕ)} → less ≡ low → more ≡ high → IsPassed t x page steps low high parent
    → IsPassed t x page steps less more parent
passed_as a b v = record { way = v.way; low_is = v.low_is ∙ sym a; high_is = v.high_is ∙ sym b; parent_is = v.parent_is }
