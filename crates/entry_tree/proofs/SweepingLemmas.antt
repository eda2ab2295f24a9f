-- What a sweep of one leaf does to its tree.
use Rattle.std.proofs.Common.{◌≡◌, ◌<◌, ℕ, List, [], ◌∷◌, ◌++◌, refl, ap, arith, sym, ◌∙◌, subst, append-nil, length, inl}
use Rattle.std.specs.Prelude.{Option, Some, None}
use Rattle.mdc_words.specs.ByteOrder.{Entry}
use Rattle.node_page.specs.Entries.{count_named, without_blocks}
use Rattle.node_page.specs.Node.{Node}
use Rattle.node_page.specs.Node.Node.{LeafNode}
use Rattle.store_api.specs.Frame.{OnlyPage}
use Rattle.store_api.specs.RunsOverPages.{RunsOverPages}
use Rattle.store_api.specs.declared.fault.Damage.{Damage}
use Rattle.store_api.specs.declared.fault.StoreFault.{StoreFault}
use Rattle.store_api.specs.declared.pages.Pages.{Ghosts}
use Rattle.store_api.specs.declared.shape.Shape.{Shape}
use Rattle.extent_map.specs.Map.{IsMapPage}
use Rattle.extent_map.specs.Owners.{AreRightNotes}
use Rattle.extent_map.specs.declared.kind.Kind.{Kind}
use Rattle.extent_map.specs.declared.space_notes.SpaceNotes.{SpaceNotes}
use Rattle.extent_map.proofs.HoldsMapLemmas.{holds_map_run}
use Rattle.entry_tree.specs.EntryBounds.{Bound}
use Rattle.entry_tree.specs.Forest.{Forest, IsTree, IsTrimTree, filled_leaf, leaf_entries, times}
use Rattle.entry_tree.specs.Forest.Forest.{Leaf, Nil}
use Rattle.entry_tree.specs.HeldTrees.{nodes_in, HoldsTree}
use Rattle.entry_tree.specs.LeafSpots.{IsItemSpot, IsParent}
use Rattle.entry_tree.specs.Pruning.{DropsLeaf, IsDropping, IsPruned, IsTreeOrMapPage}
use Rattle.entry_tree.specs.Standing.{StandsTree}
use Rattle.entry_tree.specs.Sweeping.{IsFirstSpot, IsLeafSpot, PrunesLeaf, SweepsLeaf}
use Rattle.entry_tree.specs.TreeChanges.{IsPut}
use Rattle.entry_tree.specs.TreePlaces.{Frame, entries_before, entries_behind, leaves_before, leaves_behind, plug}
use Rattle.entry_tree.specs.declared.tree.Tree.{Tree}
use Rattle.entry_tree.proofs.PruningLemmas.{pruned_leaf}
use Rattle.entry_tree.proofs.RemovalLemmas.{spot_to_drop, stands_pruned}
use Rattle.entry_tree.proofs.ReturnedPagesLemmas.{apart_from_map}
use Rattle.entry_tree.proofs.SublistLemmas.{IsSublist, Rises-sublist}
use Rattle.entry_tree.proofs.OneLeafLemmas.{plain_leaves}
use Rattle.entry_tree.proofs.TreePlacesLemmas.{Fits-plug, leaf_entries-plug}
use Rattle.entry_tree.proofs.UnsweptLemmas.{IsLeafPart, length-part, part_before, part_none, unswept-items, unswept-part}
use Rattle.entry_tree.proofs.WayLemmas.{place_times}

-- a leaf of a tree whose page is the same
abbrev pub spot_same : {old new : ℕ → Node} {t : Forest} {page : ℕ} {parent : Option (ℕ × ℕ)} → new page ≡ old page → (s : IsLeafSpot old t page parent) → IsLeafSpot new t page parent
spot_same same s = record {
  above = s.above;
  items = s.items;
  whole = s.whole;
  matched = s.matched;
  leaf = same ∙ s.leaf;
  parent_is = s.parent_is;
}

-- a leaf that has an entry at a place
abbrev pub item_spot : {old new : ℕ → Node} {t : Forest} {page at : ℕ} {parent : Option (ℕ × ℕ)} → new page ≡ old page → (s : IsLeafSpot old t page parent) → at < length s.items → IsItemSpot new t page at parent
item_spot same s lt = record {
  above = s.above;
  items = s.items;
  whole = s.whole;
  matched = s.matched;
  leaf = same ∙ s.leaf;
  within = lt;
  parent_is = s.parent_is;
}

-- the leaf is a page of the tree
pub only_spot : {S : Type 0} {g : Ghosts S} {shape : Shape} {s : S} {tree : Tree} {page p : ℕ} {parent : Option (ℕ × ℕ)} → ((t : Forest) → HoldsTree g s tree t → IsLeafSpot (nodes_in tree.width (g.state s)) t page parent)
    → p ≡ page → IsTreeOrMapPage g shape s tree p
only_spot {page = page} spot is owners t st =
    let sp = spot t st.held in
    inl (subst (λ (v : ℕ). 0 < times v t) (sym is) (place_times t (Leaf page sp.items Nil) sp.above page sp.whole refl))

plain_entries : {t : Forest} (above : List Frame) (page : ℕ) (items : List Entry) → t ≡ plug above (Leaf page items Nil) → leaf_entries t ≡ entries_before above ++ (items ++ entries_behind above)
plain_entries above page items whole = ap leaf_entries whole ∙ (leaf_entries-plug above (Leaf page items Nil) ∙ simp append-nil)

module _ {S : Type 0} {g : Ghosts S} {shape : Shape} {before : SpaceNotes} {s : S} {tree : Tree} {owners : List Kind} {t : Forest} where
  -- no entry goes
  pub prunes_none : {noted : SpaceNotes} (above : List Frame) (page : ℕ) (items kept : List Entry) → StandsTree g shape s tree owners t → t ≡ plug above (Leaf page items Nil) → kept ≡ items → noted ≡ before
      → PrunesLeaf g shape before noted s tree owners t above kept
  prunes_none {noted} above page items kept st whole is same = record {
    gone = [];
    pruned = record {
      after = t;
      tree = st.held.is_tree;
      trim = st.held.trim;
      entries = plain_entries above page items whole ∙ ap (λ (l : List Entry). entries_before above ++ (l ++ entries_behind above)) (sym is);
      leaves = plain_leaves above page items whole ∙ ap (λ (l : List Entry). leaves_before above ++ (filled_leaf l ++ leaves_behind above)) (sym is);
      counts = λ n. omega arith;
    };
    stands = st;
    notes = λ notes. subst (λ (e : SpaceNotes). AreRightNotes shape e owners) (sym same) notes;
  }

  -- a leaf that keeps an entry, or is the root
  pub prunes_here : {new : S} {K : ℕ → Type 0} {B : Damage → Type 0} {fault : Option StoreFault} {parent : Option (ℕ × ℕ)} (page at : ℕ) (kept : List Entry) → StandsTree g shape s tree owners t
      → (sp : IsItemSpot (nodes_in tree.width (g.state s)) t page at parent) → IsSublist kept sp.items → (kept ≡ [] → sp.above ≡ [])
      → IsPut (nodes_in tree.width (g.state s)) (nodes_in tree.width (g.state new)) page (LeafNode kept)
      → RunsOverPages g (OnlyPage page) K B s new fault → PrunesLeaf g shape before before new tree owners t sp.above kept
  prunes_here {new} page at kept st sp some stays put run =
      let w : IsTree (nodes_in tree.width (g.state s)) tree.root (plug sp.above (Leaf page sp.items Nil)) = subst (IsTree (nodes_in tree.width (g.state s)) tree.root) sp.whole st.held.is_tree in
      let fit = Fits-plug None None sp.above (Leaf page sp.items Nil) page sp.matched refl w.fits in
      let there : 0 < times page t = place_times t (Leaf page sp.items Nil) sp.above page sp.whole refl in
      let pruned : IsPruned (nodes_in tree.width (g.state new)) tree.root t sp.above kept [] =
      subst (λ (u : Forest). IsPruned (nodes_in tree.width (g.state new)) tree.root u sp.above kept []) (sym sp.whole)
      (pruned_leaf (nodes_in tree.width (g.state s)) (nodes_in tree.width (g.state new)) tree.root page sp.items kept sp.above sp.matched w (subst IsTrimTree sp.whole st.held.trim)
      (Rises-sublist _ _ some fit.0.1) stays put.there put.others) in
      record {
        gone = [];
        pruned = pruned;
        stands = stands_pruned st pruned (holds_map_run run (λ p map is. apart_from_map shape page (st.used page there).page (subst (IsMapPage shape) is map)) st.map);
        notes = λ notes. notes;
      }

  -- a leaf that keeps none
  pub prunes_drop : {after : SpaceNotes} {new : S} {place leaf page at : ℕ} {parent : Option (ℕ × ℕ)} (kept : List Entry) → StandsTree g shape s tree owners t → (sp : IsItemSpot (nodes_in tree.width (g.state s)) t leaf place parent)
      → parent ≡ Some (page, at) → kept ≡ []
      → ((o : List Kind) (was : ℕ → Node) (u : Forest) (f : Frame) (fs : List Frame) → IsDropping g shape s tree o was u f fs leaf page at → DropsLeaf g shape before after new tree o u (f ∷ fs))
      → PrunesLeaf g shape before after new tree owners t sp.above kept
  prunes_drop {after} {new} {place} {leaf} {page} {at} {parent} kept st sp below none drops =
      let child : IsItemSpot (nodes_in tree.width (g.state s)) t leaf place (Some (page, at)) =
      record { above = sp.above; items = sp.items; whole = sp.whole; matched = sp.matched; leaf = sp.leaf; within = sp.within; parent_is = subst (IsParent sp.above) below sp.parent_is } in
      let d = spot_to_drop {m = s} st child refl refl in
      let gone = drops owners (nodes_in tree.width (g.state s)) t d.frame d.upper d.dropping in
      let pruned : IsPruned (nodes_in tree.width (g.state new)) tree.root t sp.above kept gone.gone =
      subst (λ (k : List Entry). IsPruned (nodes_in tree.width (g.state new)) tree.root t sp.above k gone.gone) (sym none)
      (subst (λ (fs : List Frame). IsPruned (nodes_in tree.width (g.state new)) tree.root t fs [] gone.gone) (sym d.above_is) gone.pruned) in
      record { gone = gone.gone; pruned = pruned; stands = stands_pruned st pruned gone.map; notes = gone.notes }

-- the leaf that is swept, among all entries
part_of : {nodes : ℕ → Node} {t : Forest} {bound : Entry} {page from : ℕ} {parent : Option (ℕ × ℕ)} {next : Bound} → (f : IsFirstSpot nodes t bound page from parent next)
    → IsLeafPart (leaf_entries t) bound next from (entries_before f.spot.above) f.spot.items (entries_behind f.spot.above)
part_of {page = page} f = record { whole = plain_entries f.spot.above page f.spot.items f.spot.whole; since = f.since; begins = f.begins }

-- what the sweep did, by what it did to that leaf
pub sweeps_first : {S : Type 0} {g : Ghosts S} {shape : Shape} {before noted : SpaceNotes} {new : S} {tree : Tree} {owners : List Kind} {t : Forest} {nodes : ℕ → Node} {bound : Entry} {page from at removed : ℕ} {blocks : List ℕ} {parent : Option (ℕ × ℕ)}
    {high : Bound} (next : Bound) → (f : IsFirstSpot nodes t bound page from parent high) → next ≡ high
    → PrunesLeaf g shape before noted new tree owners t f.spot.above (without_blocks blocks at from f.spot.items) → removed ≡ count_named blocks at from f.spot.items
    → SweepsLeaf g shape before noted new tree owners t bound at blocks removed next
sweeps_first {S} {g} {shape} {before} {noted} {new} {tree} {owners} {t} {nodes} {bound} {page} {from} {at} {removed} {blocks} {parent} {high} next f is p many =
    let q = part_of f in
    subst (SweepsLeaf g shape before noted new tree owners t bound at blocks removed) (sym is) (record {
      first = record {
        above = f.spot.above;
        page = page;
        items = f.spot.items;
        whole = f.spot.whole;
        matched = f.spot.matched;
        before = part_before q;
        holds = λ u. f.some (part_none q u);
        begins = f.begins;
      };
      gone = p.gone;
      after = p.pruned.after;
      stands = p.stands;
      leaves = p.pruned.entries ∙ sym (unswept-part at blocks q);
      fewer = omega (arith, ap length p.pruned.entries, many, length-part at blocks q);
      others = p.pruned.leaves ∙ ap (λ (l : List Entry). leaves_before f.spot.above ++ (filled_leaf l ++ leaves_behind f.spot.above)) (sym (unswept-items at blocks q));
      pages = p.pruned.counts;
      notes = p.notes;
    })
