-- The replacement of an entry where it was found.
use Rattle.std.proofs.Common.{◌≡◌, ◌<◌, ◌⊎◌, ℕ, suc, List, [], ◌∷◌, ◌++◌, refl, ap, arith, sym, ◌∙◌, subst, length, length-drop, take, drop, inl, inr}
use Rattle.std.specs.Prelude.{Some, None, true, false, Bool, IsTrue}
use Rattle.std.proofs.lemmas.List.{length-take-le}
use Rattle.mdc_words.specs.ByteOrder.{Entry, below}
use Rattle.node_page.specs.Node.{Node}
use Rattle.node_page.specs.Node.Node.{InnerNode, LeafNode}
use Rattle.store_api.specs.Frame.{OnlyPage}
use Rattle.store_api.specs.RunsOverPages.{RunsOverPages}
use Rattle.store_api.specs.declared.fault.Damage.{Damage}
use Rattle.store_api.specs.declared.pages.Pages.{Ghosts}
use Rattle.entry_tree.specs.Amending.{AmendsEntry, BreaksSlot, HasOwnFront, IsAmended, SetsAt}
use Rattle.entry_tree.specs.EntryBounds.{AtLeast, Bound, Rises, Under}
use Rattle.entry_tree.specs.Finding.{IsFoundEntry}
use Rattle.entry_tree.specs.Forest.{◌&◌, Forest, HasNode, HoldsForest, heads, leaf_entries, times}
use Rattle.entry_tree.specs.Forest.Forest.{Fork, Leaf, Nil}
use Rattle.entry_tree.specs.HeldTrees.{BreaksTree, HoldsTree, IsTreePage, nodes_in}
use Rattle.entry_tree.specs.TreePlaces.{Frame, high_of, low_of, plug}
use Rattle.entry_tree.specs.declared.finding.FoundEntry.{FoundEntry}
use Rattle.entry_tree.specs.declared.tree.Tree.{Tree}
use Rattle.entry_tree.proofs.AmendedLemmas.{amends_there, is_there}
use Rattle.entry_tree.proofs.AmendingLemmas.{IsTwin, roomy_still, twin_of}
use Rattle.entry_tree.proofs.EntryBoundsLemmas.{AllAbove, AllBelow, AtLeast-down, Climbs-and, Room-at_least, below_itself, below_trans}
use Rattle.entry_tree.proofs.ReadLeafLemmas.{high_fence-bound, low_fence-bound}
use Rattle.entry_tree.proofs.TreePlacesLemmas.{EachNode-from_plug, Fits-plug}
use Rattle.entry_tree.proofs.WayLemmas.{place_times}

-- what stands behind another entry of a leaf isn't below its low bound
above_front : (low high : Bound) (front : List Entry) (x y : Entry) (back : List Entry) → 0 < length front → Rises low high (front ++ x ∷ back) → AllBelow y front → AtLeast low y
above_front low high [] x y back some h b = absurd (omega (arith, some))
above_front low high (f ∷ front) x y back some h b = AtLeast-down low y y (Room-at_least low f y h.0 b.0) (below_itself y)

under_by : (high : Bound) (y z : Entry) → below y z ≡ true → Under high z → Under high y
under_by None y z b u = tt
under_by (Some s) y z b u = below_trans y z s b u

-- and what stands before another one is under its high bound
under_back : (low high : Bound) (front : List Entry) (x y : Entry) (back : List Entry) → 0 < length back → Rises low high (front ++ x ∷ back) → AllAbove y back → Under high y
under_back low high front x y [] some h a = absurd (omega (arith, some))
under_back low high [] x y (z ∷ back) some h a = under_by high y z a.0 h.2.1
under_back low high (f ∷ front) x y (z ∷ back) some h a = under_by high y z a.0 (Climbs-and f high front x (z ∷ back) h.2).3.1

-- so it stays between the nearest separators where others stand on both sides of it in its leaf
room_inside : (nodes : ℕ → Node) (root : ℕ) (above : List Frame) (page : ℕ) (front : List Entry) (x : Entry) (back : List Entry) (y : Entry) → IsTwin nodes root above page front x back y
    → 0 < length front → 0 < length back → AtLeast (low_of None above) y × Under (high_of None above) y
room_inside nodes root above page front x back y w some_front some_back =
    let rises = (Fits-plug None None above (Leaf page (front ++ x ∷ back) Nil) page w.matched refl w.tree.fits).0.1 in
    (above_front (low_of None above) (high_of None above) front x y back some_front rises w.fore, under_back (low_of None above) (high_of None above) front x y back some_back rises w.after)

-- the root of a tree is no leaf where the tree has an inner node
root_forked : (nodes : ℕ → Node) (root : ℕ) (items : List Entry) (fs : List Frame) (page : ℕ) (seps : List Entry) (kids : Forest) → nodes root ≡ LeafNode items
    → heads (plug fs (Fork page seps kids Nil)) ≡ root ∷ [] → HoldsForest nodes (plug fs (Fork page seps kids Nil)) → ⊥
root_forked nodes root items [] page seps kids leaf e k =
    let same : page ≡ root = cc in let both : InnerNode seps (heads kids) ≡ LeafNode items = sym k.0 ∙ (ap nodes same ∙ leaf) in cc
root_forked nodes root items (f ∷ fs) page seps kids leaf e k = root_forked nodes root items fs f.page (f.lows ++ f.highs) (f.left & (Fork page seps kids Nil & f.right)) leaf e k

-- and no separator stands beside a leaf that is the root
room_alone : (nodes : ℕ → Node) (root : ℕ) (above : List Frame) (page : ℕ) (front : List Entry) (x : Entry) (back : List Entry) (y : Entry) → IsTwin nodes root above page front x back y
    → page ≡ root → AtLeast (low_of None above) y × Under (high_of None above) y
room_alone nodes root [] page front x back y w same = (tt, tt)
room_alone nodes root (f ∷ fs) page front x back y w same =
    let here : Forest = Leaf page (front ++ x ∷ back) Nil in
    let leaf = (EachNode-from_plug (HasNode nodes) (f ∷ fs) here w.tree.holds).0 in
    absurd (root_forked nodes root (front ++ x ∷ back) fs f.page (f.lows ++ f.highs) (f.left & (here & f.right)) (ap nodes (sym same) ∙ leaf) w.tree.head w.tree.holds)

module _ {S : Type 0} {g : Ghosts S} {s : S} {tree : Tree} (found : FoundEntry) (f : IsFoundEntry g s tree found) where
  -- its leaf is a page of the tree
  pub found_page : (p : ℕ) → OnlyPage found.page p → IsTreePage g s tree p
  found_page p is t h =
      let k = (f.stands t h).leaf.spot in
      subst (λ (n : ℕ). 0 < times n t) (sym is) (place_times t (Leaf found.page k.items Nil) k.above found.page k.whole refl)

  -- and has that place
  pub found_slot : (d : Damage) → BreaksSlot g s tree found.page found.at d → BreaksTree g s tree d
  found_slot d b = record {
    page = b.page_is;
    rule = b.rule;
    broken = λ t h. let k = (f.stands t h).leaf.spot in b.leaf k.items k.leaf (k.says.0 refl).0;
  }

  -- another entry with its first four bytes takes its place
  pub found_amended : {Kind : ℕ → Type 0} {Breaks : Damage → Type 0} {new : S} (y : Entry) → IsTrue found.inside ⊎ (found.page ≡ tree.root) → (t : Forest) → HoldsTree g s tree t → HasOwnFront found.entry (leaf_entries t) → take 4 found.entry ≡ take 4 y
      → SetsAt g s new tree.width found.page found.at y → RunsOverPages g (OnlyPage found.page) Kind Breaks s new None → length (g.state new).work ≡ length (g.state s).work → AmendsEntry g new tree found.entry y t
  found_amended y stays t h alone alike sets run count =
      let q = f.stands t h in
      let low = q.leaf.low in
      let high = q.leaf.high in
      let k = q.leaf.spot in
      let nodes = nodes_in tree.width (g.state s) in
      let front = take found.at k.items in
      let back = drop (suc found.at) k.items in
      let w = twin_of nodes tree.root t k.above found.page k.items found.entry y found.at h.is_tree h.trim k.whole k.matched k.least k.under (k.says.0 refl) alone alike in
      let room : AtLeast (low_of None k.above) y × Under (high_of None k.above) y =
      elim stays [
        | inl inside ↦
            let b = q.between k.items k.leaf inside in
            room_inside nodes tree.root k.above found.page front found.entry back y w (omega (arith, b.0, b.1, length-take-le found.at k.items (omega (arith, b.1)))) (omega (arith, b.1, length-drop (suc found.at) k.items))
        | inr alone ↦ room_alone nodes tree.root k.above found.page front found.entry back y w alone
      ] in
      amends_there t found.entry y found.page found.at true low high h k refl alone alike
      (roomy_still nodes nodes tree.root found.page k.above front found.entry back y w
      (subst (λ (v : Bound). AtLeast v y) (low_fence-bound k.above) room.0) (subst (λ (v : Bound). Under v y) (high_fence-bound k.above) room.1) w.tree)
      sets run count

  -- the same by a search for it, which finds it
  pub amended_there : {new : S} (y : Entry) (t : Forest) (there : Bool) → there ≡ true → IsAmended g s new tree found.entry y t there → HasOwnFront found.entry (leaf_entries t) → AmendsEntry g new tree found.entry y t
  amended_there y t true e a alone = a.1 alone
  amended_there y t false e a alone = cc

  pub amended_found : (new : S) (y : Entry) (t : Forest) (there : Bool) → HoldsTree g s tree t → there ≡ false → IsAmended g s new tree found.entry y t there → ⊥
  amended_found new y t true h e a = cc
  amended_found new y t false h e a = let k = (f.stands t h).leaf in a.1 (is_there t found.entry found.page found.at true k.low k.high h k.spot refl)
