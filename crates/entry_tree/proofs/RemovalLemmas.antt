-- What a removal leaves of a tree.
use Rattle.std.proofs.Common.{◌≡◌, ◌<◌, ◌≤◌, ◌+◌, ℕ, zero, suc, List, [], ◌∷◌, ◌++◌, refl, ap, arith, sym, ◌∙◌, subst, append_assoc, append-nil, length, get_or, take, drop, inl, inr}
use Rattle.std.specs.Prelude.{Option, Some, None, true}
use Rattle.std.specs.List.{remove}
use Rattle.mdc_words.specs.ByteOrder.{Entry, below}
use Rattle.node_page.specs.Node.{Node}
use Rattle.node_page.specs.Node.Node.{LeafNode}
use Rattle.store_api.specs.Frame.{OnlyPage}
use Rattle.store_api.specs.RunsOverPages.{RunsOverPages}
use Rattle.store_api.specs.declared.fault.Damage.{Damage}
use Rattle.store_api.specs.declared.fault.StoreFault.{StoreFault}
use Rattle.store_api.specs.declared.pages.Pages.{Ghosts}
use Rattle.store_api.specs.declared.shape.Shape.{Shape}
use Rattle.extent_map.specs.Map.{HoldsMap, IsMapPage}
use Rattle.extent_map.specs.Owners.{AreRightNotes, IsExtentPage, IsUsedPage, without_page}
use Rattle.extent_map.specs.declared.kind.Kind.{Kind}
use Rattle.extent_map.specs.declared.space_notes.SpaceNotes.{SpaceNotes}
use Rattle.extent_map.proofs.HoldsMapLemmas.{holds_map_run, holds_map_same}
use Rattle.entry_tree.specs.EntryBounds.{AtLeast, Bound, Climbs, IsEntryOf, Rises, Under, with_entry}
use Rattle.entry_tree.specs.Forest.{Fits, Forest, IsTree, IsTrimTree, filled_leaf, filled_leaves, leaf_entries, once, times}
use Rattle.entry_tree.specs.Forest.Forest.{Leaf, Nil}
use Rattle.entry_tree.specs.HeldTrees.{nodes_in, HoldsTree}
use Rattle.entry_tree.specs.LeafSpots.{IsItemSpot, IsParent}
use Rattle.entry_tree.specs.Pruning.{BreaksDrop, BreaksTreeOrReturn, DropsLeaf, IsDropLook, IsDropPage, IsDroppableLeaf, IsDropping, HasLeafEntry, IsPruned, IsTreeOrMapPage, RemovesEntry, without_pages}
use Rattle.entry_tree.specs.Standing.{StandsTree}
use Rattle.entry_tree.specs.TreeChanges.{IsPut, LosesInLeaf, times_among}
use Rattle.entry_tree.specs.TreePlaces.{AreMatched, Frame, entries_before, entries_behind, high_of, leaves_before, leaves_behind, low_of, plug}
use Rattle.entry_tree.specs.Writing.{BreaksWhere}
use Rattle.entry_tree.specs.declared.tree.Tree.{Tree}
use Rattle.entry_tree.proofs.DescentLemmas.{outside}
use Rattle.entry_tree.proofs.DroppingLemmas.{node_above, other_above}
use Rattle.entry_tree.proofs.EntryBoundsLemmas.{AllAbove, AllAbove-and, AllBelow, AllBelow-and, Climbs-above, Climbs-and, Climbs-below, below_itself, from_below, in_between, not_below, put_between}
use Rattle.entry_tree.proofs.ForestLemmas.{once_same}
use Rattle.entry_tree.proofs.HeldTreesLemmas.{nodes_same}
use Rattle.entry_tree.proofs.OneLeafLemmas.{filled_with, plain_leaves}
use Rattle.entry_tree.proofs.PruningLemmas.{pruned_leaf}
use Rattle.entry_tree.proofs.ReturnedPagesLemmas.{apart_from_map, used_beside}
use Rattle.entry_tree.proofs.SublistLemmas.{IsSublist-remove, Rises-sublist}
use Rattle.entry_tree.proofs.TreePlacesLemmas.{Fits-plug, leaf_entries-plug}
use Rattle.entry_tree.proofs.WayLemmas.{place_times}

climbs_over : (x : Entry) (high : Bound) (ys : List Entry) → Climbs x high ys → AllAbove x ys
climbs_over x high [] h = tt
climbs_over x high (y ∷ ys) h = (h.0, Climbs-above y x high ys h.2 h.0)

least_since : (low : Bound) (z x : Entry) → AtLeast low z → below z x ≡ true → AtLeast low x
least_since None z x l h = tt
least_since (Some s) z x l h = not_below s x (from_below s z x l h)

-- an entry among rising ones
rising_parts : (low high : Bound) (xs : List Entry) (x : Entry) (ys : List Entry) → Rises low high (xs ++ x ∷ ys) → AllBelow x xs × AllAbove x ys × AtLeast low x × Under high x
rising_parts low high [] x ys h = (tt, climbs_over x high ys h.2, h.0, h.1)
rising_parts low high (z ∷ zs) x ys h =
    let r = Climbs-and z high zs x ys h.2 in
    ((r.1, Climbs-below z x x zs r.0 (below_itself x)), climbs_over x high ys r.3, least_since low z x h.0 r.1, r.2)

removed_between : (x : Entry) (before xs ys behind : List Entry) → AllBelow x before → AllBelow x xs → AllAbove x ys → AllAbove x behind
    → (before ++ ((xs ++ x ∷ ys) ++ behind) ≡ with_entry x (before ++ ((xs ++ ys) ++ behind))) × (IsEntryOf x (before ++ ((xs ++ ys) ++ behind)) → ⊥)
removed_between x before xs ys behind b c d e =
    let low = AllBelow-and x before xs b c in
    let high = AllAbove-and x ys behind d e in
    let same : before ++ ((xs ++ ys) ++ behind) ≡ (before ++ xs) ++ (ys ++ behind) = simp append_assoc in
    let with_it : before ++ ((xs ++ x ∷ ys) ++ behind) ≡ (before ++ xs) ++ (x ∷ (ys ++ behind)) = simp append_assoc in (
      with_it ∙ (sym (put_between x (before ++ xs) [] (ys ++ behind) low high) ∙ ap (with_entry x) (sym same)),
      (λ i. in_between x (before ++ xs) [] (ys ++ behind) low high (subst (IsEntryOf x) same i)),
    )

parts_at : (items : List Entry) (at : ℕ) → at < length items → items ≡ take at items ++ get_or items at [] ∷ drop (suc at) items
parts_at [] at h = absurd (omega arith)
parts_at (x ∷ items) zero h = refl
parts_at (x ∷ items) (suc at) h = ap (λ (l : List Entry). x ∷ l) (parts_at items at (omega arith))

pub length-removed : (items : List Entry) (at : ℕ) → at < length items → length (remove items at) + 1 ≡ length items
length-removed [] at h = absurd (omega arith)
length-removed (x ∷ items) zero h = omega arith
length-removed (x ∷ items) (suc at) h = omega (arith, length-removed items at (omega arith))

pub removed_none : (items : List Entry) (at : ℕ) → at < length items → length items ≤ 1 → remove items at ≡ []
removed_none items at h few = none (remove items at) (omega (arith, length-removed items at h))
  where
    none : (l : List Entry) → length l ≡ 0 → l ≡ []
    none [] e = refl
    none (x ∷ xs) e = absurd (omega arith)

-- the entries of a tree without the one at a place of a leaf
removed_entries : (above : List Frame) (page : ℕ) (items : List Entry) (at : ℕ) → AreMatched above → Fits None None [] (plug above (Leaf page items Nil)) → at < length items
    → (leaf_entries (plug above (Leaf page items Nil)) ≡ with_entry (get_or items at []) (entries_before above ++ (remove items at ++ entries_behind above)))
    × (IsEntryOf (get_or items at []) (entries_before above ++ (remove items at ++ entries_behind above)) → ⊥)
removed_entries above page items at m f l =
    let fit = Fits-plug None None above (Leaf page items Nil) page m refl f in
    let parts = parts_at items at l in
    let rising = rising_parts (low_of None above) (high_of None above) (take at items) (get_or items at []) (drop (suc at) items) (subst (Rises (low_of None above) (high_of None above)) parts fit.0.1) in
    let o = outside None None above (Leaf page items Nil) page (get_or items at []) m refl f rising.2 rising.3 in
    let r = removed_between (get_or items at []) (entries_before above) (take at items) (drop (suc at) items) (entries_behind above) o.0 rising.0 rising.1 o.1 in
    let plain : leaf_entries (plug above (Leaf page items Nil)) ≡ entries_before above ++ (items ++ entries_behind above) = leaf_entries-plug above (Leaf page items Nil) ∙ simp append-nil in
    (plain ∙ (ap (λ (k : List Entry). entries_before above ++ (k ++ entries_behind above)) parts ∙ r.0), r.1)

-- the leaf has the others of its entries
removed_item : (above : List Frame) (page : ℕ) (items : List Entry) (at : ℕ) → AreMatched above → Fits None None [] (plug above (Leaf page items Nil)) → at < length items
    → items ≡ with_entry (get_or items at []) (remove items at)
removed_item above page items at m f l =
    let fit = Fits-plug None None above (Leaf page items Nil) page m refl f in
    let parts = parts_at items at l in
    let rising = rising_parts (low_of None above) (high_of None above) (take at items) (get_or items at []) (drop (suc at) items) (subst (Rises (low_of None above) (high_of None above)) parts fit.0.1) in
    parts ∙ sym (put_between (get_or items at []) (take at items) [] (drop (suc at) items) rising.0 rising.1)

-- and is the one that lost an entry
loses_here : (above : List Frame) (page : ℕ) (items : List Entry) (at : ℕ) (after : Forest) → AreMatched above → Fits None None [] (plug above (Leaf page items Nil)) → at < length items
    → filled_leaves after ≡ leaves_before above ++ (filled_leaf (remove items at) ++ leaves_behind above)
    → LosesInLeaf (get_or items at []) (filled_leaves (plug above (Leaf page items Nil))) (filled_leaves after)
loses_here above page items at after m f l has = record {
  front = leaves_before above;
  kept = remove items at;
  back = leaves_behind above;
  had =
      plain_leaves above page items refl
      ∙ ap (λ (k : List (List Entry)). leaves_before above ++ (k ++ leaves_behind above))
      (ap filled_leaf (removed_item above page items at m f l) ∙ filled_with (get_or items at []) (remove items at));
  has = has;
}

-- a page that isn't given back stays in use
used_without : (shape : Shape) (owners : List Kind) (gone : List ℕ) (p : ℕ) → ((q : ℕ) → 0 < times_among q gone → IsExtentPage shape q) → times_among p gone ≡ 0 → IsUsedPage shape owners p
    → IsUsedPage shape (without_pages shape owners gone) p
used_without shape owners [] p are out is = is
used_without shape owners (q ∷ gone) p are out is =
    used_without shape (without_page shape owners q) gone p (λ r there. are r (omega arith)) (omega arith)
    (used_beside shape owners p q is (are q (omega (arith, once_here))) (λ (e : p ≡ q). omega (arith, out, subst (λ (v : ℕ). once v q ≡ 1) (sym e) once_here)))
  where
    once_here : once q q ≡ 1
    once_here = once_same q

module _ {S : Type 0} {g : Ghosts S} {shape : Shape} {s : S} {tree : Tree} {owners : List Kind} {t : Forest} where
  -- a tree whose leaf has lost entries still stands, where the map has lost its pages
  pub stands_pruned : {new : S} {gone : List ℕ} {above : List Frame} {kept : List Entry} → StandsTree g shape s tree owners t
      → (p : IsPruned (nodes_in tree.width (g.state new)) tree.root t above kept gone) → HoldsMap g shape new (without_pages shape owners gone)
      → StandsTree g shape new tree (without_pages shape owners gone) p.after
  stands_pruned {new} {gone} {above} {kept} st p map = record {
    map = map;
    held = record { is_tree = p.tree; trim = p.trim };
    used = λ q there. used_without shape owners gone q (λ k among. (st.used k (omega (arith, p.counts k))).page) (omega (arith, p.counts q, st.held.is_tree.distinct q)) (st.used q (omega (arith, p.counts q)));
  }

  -- a tree whose leaf has lost an entry, with what its pages are
  pub removes : {before after : SpaceNotes} {new : S} {gone : List ℕ} (page : ℕ) (items : List Entry) (at : ℕ) (above : List Frame) → StandsTree g shape s tree owners t → t ≡ plug above (Leaf page items Nil) → AreMatched above → at < length items
      → IsPruned (nodes_in tree.width (g.state new)) tree.root t above (remove items at) gone → HoldsMap g shape new (without_pages shape owners gone)
      → (AreRightNotes shape before owners → AreRightNotes shape after (without_pages shape owners gone)) → RemovesEntry g shape before after new tree (get_or items at []) owners t
  removes {before} {after} {new} {gone} page items at above st whole m l p map notes =
      let r = removed_entries above page items at m (subst (Fits None None []) whole st.held.is_tree.fits) l in
      record {
        gone = gone;
        after = p.after;
        stands = stands_pruned st p map;
        takes = ap leaf_entries whole ∙ (r.0 ∙ ap (with_entry (get_or items at [])) (sym p.entries));
        one_leaf = subst (λ (u : Forest). LosesInLeaf (get_or items at []) (filled_leaves u) (filled_leaves p.after)) (sym whole)
            (loses_here above page items at p.after m (subst (Fits None None []) whole st.held.is_tree.fits) l p.leaves);
        absent = λ i. r.1 (subst (IsEntryOf (get_or items at [])) p.entries i);
        pages = p.counts;
        notes = notes;
      }

  -- a leaf that keeps an entry, or is the root
  pub removes_here : {before : SpaceNotes} {m new : S} {K : ℕ → Type 0} {B : Damage → Type 0} {fault : Option StoreFault} {parent : Option (ℕ × ℕ)} (page at : ℕ) → StandsTree g shape s tree owners t → (sp : IsItemSpot (nodes_in tree.width (g.state s)) t page at parent)
      → (remove sp.items at ≡ [] → sp.above ≡ []) → (g.state m).is_told ≡ (g.state s).is_told → (g.state m).work ≡ (g.state s).work
      → ((items : List Entry) → nodes_in tree.width (g.state m) page ≡ LeafNode items → at < length items → IsPut (nodes_in tree.width (g.state m)) (nodes_in tree.width (g.state new)) page (LeafNode (remove items at)))
      → RunsOverPages g (OnlyPage page) K B m new fault → RemovesEntry g shape before before new tree (get_or sp.items at []) owners t
  removes_here {before} {m} {new} page at st sp some told same taken run =
      let w : IsTree (nodes_in tree.width (g.state s)) tree.root (plug sp.above (Leaf page sp.items Nil)) = subst (IsTree (nodes_in tree.width (g.state s)) tree.root) sp.whole st.held.is_tree in
      let fit = Fits-plug None None sp.above (Leaf page sp.items Nil) page sp.matched refl w.fits in
      let put = taken sp.items (nodes_same tree.width (g.state s) (g.state m) page told same ∙ sp.leaf) sp.within in
      let there : 0 < times page t = place_times t (Leaf page sp.items Nil) sp.above page sp.whole refl in
      removes page sp.items at sp.above st sp.whole sp.matched sp.within
      (subst (λ (u : Forest). IsPruned (nodes_in tree.width (g.state new)) tree.root u sp.above (remove sp.items at) []) (sym sp.whole)
      (pruned_leaf (nodes_in tree.width (g.state s)) (nodes_in tree.width (g.state new)) tree.root page sp.items (remove sp.items at) sp.above sp.matched w (subst IsTrimTree sp.whole st.held.trim)
      (Rises-sublist _ _ (IsSublist-remove sp.items at) fit.0.1) some put.there (λ n d. put.others n d ∙ nodes_same tree.width (g.state s) (g.state m) n told same)))
      (holds_map_run run (λ p map is. apart_from_map shape page (st.used page there).page (subst (IsMapPage shape) is map)) (holds_map_same told same st.map)) (λ notes. notes)

-- the frames above a leaf that isn't the root, and what its going needs
pub record SpotToDrop {S : Type 0} (g : Ghosts S) (shape : Shape) (s m : S) (tree : Tree) (owners : List Kind) (t : Forest) (above : List Frame) (leaf page at : ℕ) : Type 0 where
  pub frame : Frame
  pub upper : List Frame
  pub above_is : above ≡ frame ∷ upper
  pub dropping : IsDropping g shape m tree owners (nodes_in tree.width (g.state s)) t frame upper leaf page at

-- the same of the tree alone
pub spot_emptied : {S : Type 0} {g : Ghosts S} {s m : S} {tree : Tree} {t : Forest} {leaf place page at : ℕ} → HoldsTree g s tree t
    → (sp : IsItemSpot (nodes_in tree.width (g.state s)) t leaf place (Some (page, at))) → (g.state m).is_told ≡ (g.state s).is_told → (g.state m).work ≡ (g.state s).work
    → IsDroppableLeaf g m tree leaf page at
spot_emptied {S} {g} {s} {m} {tree} {t} {leaf} {place} {page} {at} h sp told same = go sp.above sp.whole sp.matched sp.parent_is
  where
    go : (above : List Frame) → t ≡ plug above (Leaf leaf sp.items Nil) → AreMatched above → IsParent above (Some (page, at)) → IsDroppableLeaf g m tree leaf page at
    go [] whole matched is = absurd is
    go (f ∷ fs) whole matched is = (
      nodes_in tree.width (g.state s),
      t,
      f,
      fs,
      record {
        items = sp.items;
        whole = whole;
        matched = matched;
        is_tree = h.is_tree;
        trim = h.trim;
        page_is = ap (λ (q : ℕ × ℕ). q.0) is;
        at_is = ap (λ (q : ℕ × ℕ). q.1) is;
        same = λ n d. nodes_same tree.width (g.state s) (g.state m) n told same;
      },
    )

pub spot_to_drop : {S : Type 0} {g : Ghosts S} {shape : Shape} {s m : S} {tree : Tree} {owners : List Kind} {t : Forest} {leaf place page at : ℕ} → StandsTree g shape s tree owners t
    → (sp : IsItemSpot (nodes_in tree.width (g.state s)) t leaf place (Some (page, at))) → (g.state m).is_told ≡ (g.state s).is_told → (g.state m).work ≡ (g.state s).work
    → SpotToDrop g shape s m tree owners t sp.above leaf page at
spot_to_drop {S} {g} {shape} {s} {m} {tree} {owners} {t} {leaf} {place} {page} {at} st sp told same = go sp.above sp.whole sp.matched sp.parent_is
  where
    go : (above : List Frame) → t ≡ plug above (Leaf leaf sp.items Nil) → AreMatched above → IsParent above (Some (page, at)) → SpotToDrop g shape s m tree owners t above leaf page at
    go [] whole matched is = absurd is
    go (f ∷ fs) whole matched is = record {
      frame = f;
      upper = fs;
      above_is = refl;
      dropping = record {
        emptied = record {
          items = sp.items;
          whole = whole;
          matched = matched;
          is_tree = st.held.is_tree;
          trim = st.held.trim;
          page_is = ap (λ (q : ℕ × ℕ). q.0) is;
          at_is = ap (λ (q : ℕ × ℕ). q.1) is;
          same = λ n d. nodes_same tree.width (g.state s) (g.state m) n told same;
        };
        map = holds_map_same told same st.map;
        used = st.used;
      };
    }

pub item_leaf : {nodes : ℕ → Node} {t : Forest} {page at : ℕ} {parent : Option (ℕ × ℕ)} → IsItemSpot nodes t page at parent → HasLeafEntry (nodes page) at
item_leaf sp = record { items = sp.items; leaf = sp.leaf; within = sp.within }

-- what isn't met where the tree stands
pub breaks_unmet : {S : Type 0} {g : Ghosts S} {shape : Shape} {s : S} {tree : Tree} {Expected : Type 0} {damage : Damage} → BreaksWhere tree Expected damage
    → ((t : Forest) → HoldsTree g s tree t → Expected) → BreaksTreeOrReturn g shape s tree damage
breaks_unmet b met = inl (record { page = b.page; rule = b.rule; broken = λ t h. b.not_so (met t h) })

module _ {S : Type 0} {g : Ghosts S} {shape : Shape} {s : S} {tree : Tree} {leaf place : ℕ} {parent : Option (ℕ × ℕ)} where
  -- the leaf is a page of the tree
  pub only_leaf : {p : ℕ} → ((t : Forest) → HoldsTree g s tree t → IsItemSpot (nodes_in tree.width (g.state s)) t leaf place parent) → p ≡ leaf → IsTreeOrMapPage g shape s tree p
  only_leaf {p} spot is owners t st =
      let sp = spot t st.held in
      inl (subst (λ (v : ℕ). 0 < times v t) (sym is) (place_times t (Leaf leaf sp.items Nil) sp.above leaf sp.whole refl))

module _ {S : Type 0} {g : Ghosts S} {shape : Shape} {s m : S} {tree : Tree} {leaf place page at : ℕ} where
  -- the pages of a leaf's going are those of the tree and the map
  pub only_drop : (p : ℕ) → ((t : Forest) → HoldsTree g s tree t → IsItemSpot (nodes_in tree.width (g.state s)) t leaf place (Some (page, at))) → (g.state m).is_told ≡ (g.state s).is_told
      → (g.state m).work ≡ (g.state s).work → IsDropPage shape page p → IsTreeOrMapPage g shape s tree p
  only_drop p spot told same (inr map) owners t st = inr map
  only_drop p spot told same (inl is) owners t st =
      let d = spot_to_drop st (spot t st.held) told same in
      let n = node_above (nodes_in tree.width (g.state s)) (nodes_in tree.width (g.state m)) tree.root t d.frame d.upper leaf page at d.dropping.emptied in
      inl (subst (λ (v : ℕ). 0 < times v t) (sym is) n.there)

  pub only_look : (p : ℕ) → ((t : Forest) → HoldsTree g s tree t → IsItemSpot (nodes_in tree.width (g.state s)) t leaf place (Some (page, at))) → (g.state m).is_told ≡ (g.state s).is_told
      → (g.state m).work ≡ (g.state s).work → IsDropLook shape (nodes_in tree.width (g.state m) page) page at p → IsTreeOrMapPage g shape s tree p
  only_look p spot told same (inl is) = only_drop p spot told same is
  only_look p spot told same (inr other) = λ owners t st.
      let d = spot_to_drop st (spot t st.held) told same in
      let n = node_above (nodes_in tree.width (g.state s)) (nodes_in tree.width (g.state m)) tree.root t d.frame d.upper leaf page at d.dropping.emptied in
      let o = other n.seps n.children n.node in
      inl (other_above (nodes_in tree.width (g.state s)) (nodes_in tree.width (g.state m)) tree.root t d.frame d.upper leaf page at p d.dropping.emptied o.0 o.1).there

  -- what it names
  pub breaks_drop : {damage : Damage} → ((t : Forest) → HoldsTree g s tree t → IsItemSpot (nodes_in tree.width (g.state s)) t leaf place (Some (page, at))) → (g.state m).is_told ≡ (g.state s).is_told
      → (g.state m).work ≡ (g.state s).work → BreaksDrop g shape m tree leaf page at damage → BreaksTreeOrReturn g shape s tree damage
  breaks_drop spot told same (inl w) = inl (record {
    page = w.page;
    rule = w.rule;
    broken = λ t h. w.not_so (spot_emptied {s = s} {m = m} h (spot t h) told same);
  })
  breaks_drop spot told same (inr r) = inr (record {
    mid = r.mid;
    page = r.page;
    map = λ owners held.
        let d = spot_to_drop held.1 (spot held.0 held.1.held) told same in
        r.map owners (nodes_in tree.width (g.state s), held.0, d.frame, d.upper, d.dropping);
    breaks = r.breaks;
  })

  -- and what it leaves
  pub removes_drop : {noted after : SpaceNotes} {new : S} {owners : List Kind} {t : Forest} → StandsTree g shape s tree owners t → (sp : IsItemSpot (nodes_in tree.width (g.state s)) t leaf place (Some (page, at)))
      → (g.state m).is_told ≡ (g.state s).is_told → (g.state m).work ≡ (g.state s).work → length sp.items ≤ 1
      → ((o : List Kind) (was : ℕ → Node) (u : Forest) (f : Frame) (fs : List Frame) → IsDropping g shape m tree o was u f fs leaf page at → DropsLeaf g shape noted after new tree o u (f ∷ fs))
      → RemovesEntry g shape noted after new tree (get_or sp.items place []) owners t
  removes_drop {noted} {after} {new} {owners} {t} st sp told same few drops =
      let d = spot_to_drop st sp told same in
      let gone = drops owners (nodes_in tree.width (g.state s)) t d.frame d.upper d.dropping in
      removes leaf sp.items place sp.above st sp.whole sp.matched sp.within
      (subst (λ (k : List Entry). IsPruned (nodes_in tree.width (g.state new)) tree.root t sp.above k gone.gone) (sym (removed_none sp.items place sp.within few))
      (subst (λ (fs : List Frame). IsPruned (nodes_in tree.width (g.state new)) tree.root t fs [] gone.gone) (sym d.above_is) gone.pruned))
      gone.map gone.notes

-- a leaf with no node above is alone
pub root_alone : (above : List Frame) → IsParent above None → above ≡ []
root_alone [] h = refl
root_alone (f ∷ above) h = absurd h

-- a leaf of more entries than one keeps some
pub some_kept : {nodes : ℕ → Node} {t : Forest} {page at len : ℕ} {parent : Option (ℕ × ℕ)} → (sp : IsItemSpot nodes t page at parent) → len ≡ length sp.items → 1 < len → remove sp.items at ≡ [] → sp.above ≡ []
some_kept {at = at} sp is many none = absurd (omega (arith, length-removed sp.items at sp.within, ap length none))

-- the entries of a leaf are those that its page shows
pub same_item : {nodes : ℕ → Node} {t : Forest} {page at : ℕ} {parent : Option (ℕ × ℕ)} {S : Type 0} {g : Ghosts S} {shape : Shape} {before after : SpaceNotes} {new : S} {tree : Tree} {owners : List Kind}
    → (sp : IsItemSpot nodes t page at parent) → (items : List Entry) → nodes page ≡ LeafNode items → RemovesEntry g shape before after new tree (get_or sp.items at []) owners t
    → RemovesEntry g shape before after new tree (get_or items at []) owners t
same_item {nodes} {t} {page} {at} {parent} {S} {g} {shape} {before} {after} {new} {tree} {owners} sp items is r =
    let both : LeafNode sp.items ≡ LeafNode items = sym sp.leaf ∙ is in
    let same : sp.items ≡ items = cc in
    subst (λ (l : List Entry). RemovesEntry g shape before after new tree (get_or l at []) owners t) same r

pub leaf_as : {one other : Node} {at : ℕ} → one ≡ other → HasLeafEntry other at → HasLeafEntry one at
leaf_as same l = record { items = l.items; leaf = same ∙ l.leaf; within = l.within }
