-- A removal, over a search that left the pages as they were.
use Rattle.std.proofs.Common.{◌≡◌, ℕ, List, refl, ◌∙◌, subst, inl, inr}
use Rattle.std.specs.Prelude.{Option, Bool, true, false, not, IsTrue}
use Rattle.mdc_words.specs.ByteOrder.{Entry}
use Rattle.node_page.specs.Node.{Node}
use Rattle.store_api.specs.declared.fault.Damage.{Damage}
use Rattle.store_api.specs.declared.pages.Pages.{Ghosts}
use Rattle.store_api.specs.declared.shape.Shape.{Shape}
use Rattle.extent_map.specs.declared.kind.Kind.{Kind}
use Rattle.extent_map.specs.declared.space_notes.SpaceNotes.{SpaceNotes}
use Rattle.extent_map.proofs.HoldsMapLemmas.{holds_map_same}
use Rattle.entry_tree.specs.Forest.{Forest}
use Rattle.entry_tree.specs.HeldTrees.{nodes_in, BreaksTree, HoldsTree, IsTreePage}
use Rattle.entry_tree.specs.LeafSpots.{IsEntrySpot, IsItemSpot}
use Rattle.entry_tree.specs.Pruning.{BreaksTreeOrReturn, IsTreeOrMapPage, RemovesEntry, RemovesItem}
use Rattle.entry_tree.specs.Standing.{StandsTree}
use Rattle.entry_tree.specs.declared.tree.Tree.{Tree}
use Rattle.entry_tree.proofs.ForestLemmas.{HoldsForest-agree}
use Rattle.entry_tree.proofs.HeldTreesLemmas.{nodes_same}

pub not_false : (b : Bool) → not b ≡ false → IsTrue b
not_false true e = refl
not_false false e = cc

pub not_true_is : (b : Bool) → not b ≡ true → b ≡ false
not_true_is true e = cc
not_true_is false e = refl

module _ {S : Type 0} {g : Ghosts S} {s m : S} {tree : Tree} {t : Forest} where
  -- the tree, where the pages are the same
  pub held_same : (g.state m).is_told ≡ (g.state s).is_told → (g.state m).work ≡ (g.state s).work → HoldsTree g s tree t → HoldsTree g m tree t
  held_same told same h = record {
    is_tree = record {
      head = h.is_tree.head;
      holds = HoldsForest-agree (nodes_in tree.width (g.state s)) (nodes_in tree.width (g.state m)) t (λ n there. nodes_same tree.width (g.state s) (g.state m) n told same) h.is_tree.holds;
      fits = h.is_tree.fits;
      distinct = h.is_tree.distinct;
    };
    trim = h.trim;
  }

  pub stands_same : {shape : Shape} {owners : List Kind} → (g.state m).is_told ≡ (g.state s).is_told → (g.state m).work ≡ (g.state s).work → StandsTree g shape s tree owners t → StandsTree g shape m tree owners t
  stands_same told same st = record { map = holds_map_same told same st.map; held = held_same told same st.held; used = st.used }

pub item_same : {t : Forest} {page at : ℕ} {parent : Option (ℕ × ℕ)} (old new : ℕ → Node) → new page ≡ old page → IsItemSpot old t page at parent → IsItemSpot new t page at parent
item_same old new same sp = record {
  above = sp.above;
  items = sp.items;
  whole = sp.whole;
  matched = sp.matched;
  leaf = same ∙ sp.leaf;
  within = sp.within;
  parent_is = sp.parent_is;
}

-- the page of a tree, and what breaks it
pub tree_page : {S : Type 0} {g : Ghosts S} {shape : Shape} {s : S} {tree : Tree} {p : ℕ} → IsTreePage g s tree p → IsTreeOrMapPage g shape s tree p
tree_page is owners t st = inl (is t st.held)

pub breaks_held : {S : Type 0} {g : Ghosts S} {shape : Shape} {s : S} {tree : Tree} {damage : Damage} → BreaksTree g s tree damage → BreaksTreeOrReturn g shape s tree damage
breaks_held b = inl b

module _ {S : Type 0} {g : Ghosts S} {shape : Shape} {s m : S} {tree : Tree} where
  pub page_same : {p : ℕ} → (g.state m).is_told ≡ (g.state s).is_told → (g.state m).work ≡ (g.state s).work → IsTreeOrMapPage g shape m tree p → IsTreeOrMapPage g shape s tree p
  page_same told same is owners t st = is owners t (stands_same told same st)

  pub breaks_same : {damage : Damage} → (g.state m).is_told ≡ (g.state s).is_told → (g.state m).work ≡ (g.state s).work → BreaksTreeOrReturn g shape m tree damage → BreaksTreeOrReturn g shape s tree damage
  breaks_same told same (inl b) = inl (record { page = b.page; rule = b.rule; broken = λ t h. b.broken t (held_same told same h) })
  breaks_same told same (inr r) = inr (record { mid = r.mid; page = r.page; map = λ owners held. r.map owners (held.0, stands_same told same held.1); breaks = r.breaks })

-- the item that went is the entry
pub removes_it : {S : Type 0} {g : Ghosts S} {shape : Shape} {noted after : SpaceNotes} (s m : S) {new : S} {tree : Tree} {owners : List Kind} {t : Forest} {x : Entry} (page at : ℕ) {parent : Option (ℕ × ℕ)} → (g.state m).is_told ≡ (g.state s).is_told
    → (g.state m).work ≡ (g.state s).work → IsEntrySpot (nodes_in tree.width (g.state s)) t x page at parent → RemovesItem g shape noted after m new tree owners t page at → RemovesEntry g shape noted after new tree x owners t
removes_it {S} {g} {shape} {noted} {after} s m {new} {tree} {owners} {t} page at told same sp removes =
    subst (λ (y : Entry). RemovesEntry g shape noted after new tree y owners t) sp.item (removes sp.spot.items (nodes_same tree.width (g.state s) (g.state m) page told same ∙ sp.spot.leaf))
