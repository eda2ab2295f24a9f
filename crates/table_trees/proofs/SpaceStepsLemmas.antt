-- What calls on trees and extents do is a change of space, or finds that it asks for too much.
use Rattle.std.proofs.Common.{◌≡◌, ◌⊎◌, ◌<◌, ◌≤◌, ℕ, IsTrue, List, [], ◌∷◌, length, refl, ap, arith, ◌∙◌, inl, inr}
use Rattle.mdc_words.specs.ByteOrder.{Entry}
use Rattle.store_api.specs.Frame.{Touches}
use Rattle.store_api.specs.StoreState.{page_at}
use Rattle.store_api.specs.declared.pages.Pages.{Ghosts}
use Rattle.store_api.specs.declared.shape.Shape.{Shape}
use Rattle.store_api.proofs.FrameLemmas.{touches_wider}
use Rattle.extent_map.specs.Kinds.{is_block_kind}
use Rattle.extent_map.specs.Map.{HoldsMap, IsSpacePage}
use Rattle.extent_map.specs.Owners.{AreRightNotes, HasNoFree, IsLowestFree, IsUsedPage, owner_of, with_block, with_used_page, without_block}
use Rattle.extent_map.specs.declared.kind.Kind.{Kind}
use Rattle.extent_map.specs.declared.kind.Kind.TheVariants.{Block}
use Rattle.extent_map.specs.declared.space_notes.SpaceNotes.{SpaceNotes}
use Rattle.extent_map.proofs.ExtentsLemmas.{extent_limits}
use Rattle.extent_map.proofs.UsedPagesLemmas.{no_space_page, used-with_block, used-without_block}
use Rattle.entry_tree.specs.Amending.{AmendsEntry}
use Rattle.entry_tree.specs.EntryBounds.{IsEntryOf}
use Rattle.entry_tree.specs.Forest.{Forest, leaf_entries}
use Rattle.entry_tree.specs.Forest.Forest.{Leaf, Nil}
use Rattle.entry_tree.specs.HeldTrees.{IsTreePage, nodes_in}
use Rattle.entry_tree.specs.Pruning.{IsTreeOrMapPage, RemovesEntry, without_pages}
use Rattle.entry_tree.specs.Standing.{AddsEntry, AsksPages, FindsFull, IsFullMap, IsMapSpace, IsTreeSpace, MakesTree, StandsTree, with_pages}
use Rattle.entry_tree.specs.declared.tree.Tree.{Tree}
use Rattle.entry_tree.proofs.StandingLemmas.{map_stays}
use Rattle.entry_tree.proofs.UsedPagesLemmas.{used_after, used_not_idle}
use Rattle.table_trees.specs.SpaceChanges.{AsksInTree, AsksTooMuch, GrowsToExtent, IsSameSpace, MakesChange}
use Rattle.table_trees.specs.SpaceChanges.SpaceChange.{AddEntry, AmendEntry, ClaimBlock, GiveBlock, MakeTree, RemoveEntry}
use Rattle.table_trees.specs.TableTrees.{TreePlace, place_of_tree}
use Rattle.table_trees.specs.ToldPages.{telling}
use Rattle.table_trees.proofs.ExtentCountsLemmas.{extents_for-full, free_extents-none, free_extents-with_block, free_extents-with_pages, free_extents-without_block, free_extents-without_pages, used_index_pages-with_block, used_index_pages-with_pages, used_index_pages-without_block, used_index_pages-without_pages}
use Rattle.table_trees.proofs.GrowingPagesLemmas.{claims_grow}
use Rattle.table_trees.proofs.KeptOwnersLemmas.{blocks-with_pages}
use Rattle.table_trees.proofs.ToldNodesLemmas.{asks_same, keeps_leaves_same}
use Rattle.table_trees.proofs.ToldPagesLemmas.{map_of_told, nodes_told, tree_of_told}
use Rattle.table_trees.proofs.TreesBesideLemmas.{adds_alone, amends_alone, one_stands, removes_alone, space_of_amending, space_of_removal, space_of_tree}
use Rattle.table_trees.proofs.TurningTreesLemmas.{keeps_blocks, tree_turns, used_page_stays}

-- an extent has pages
some_pages : (shape : Shape) → 0 < shape.extent_pages
some_pages shape = omega (arith, (extent_limits shape).0)

module _ {S : Type 0} {g : Ghosts S} where
  -- what an entry asks for in a tree that stands
  asks_in_tree : (shape : Shape) (s : S) (tree : Tree) (x : Entry) (owners : List Kind) (t : Forest) (n : ℕ) → StandsTree g shape s tree owners t → IsTrue (g.state s).is_told → (IsEntryOf x (leaf_entries t) → ⊥)
      → AsksPages tree.width (nodes_in tree.width (g.state s)) t x n → AsksInTree shape owners (g.state s).work (place_of_tree tree) x n
  asks_in_tree shape s tree x owners t n st told absent asks =
      let stood = one_stands shape s tree owners t st in
      record {
        tree = t;
        has = tree_of_told g s told (place_of_tree tree) t stood.held.0;
        used = st.used;
        absent = absent;
        asks = asks_same tree.width (nodes_in tree.width (g.state s)) (nodes_in tree.width (telling (g.state s).work)) t x n (nodes_told tree.width (g.state s) told) asks;
      }

  -- an entry that comes into a tree
  pub addition_makes : (shape : Shape) (before noted : SpaceNotes) (old new : S) (tree : Tree) (x : Entry) (owners : List Kind) (t : Forest) → StandsTree g shape old tree owners t → IsTrue (g.state old).is_told
      → (g.state new).is_told ≡ (g.state old).is_told → AreRightNotes shape before owners → Touches g (IsTreeSpace g shape old tree) old new
      → AddsEntry g shape before noted old new tree x owners t → MakesChange shape (g.state old).work (AddEntry (place_of_tree tree) x) (g.state new).work
  addition_makes shape before noted old new tree x owners t st told still notes touched a = record {
    old_owners = owners;
    new_owners = with_pages shape owners a.claimed;
    old_map = map_of_told g old told shape owners st.map;
    new_map = map_of_told g new (still ∙ told) shape (with_pages shape owners a.claimed) a.stands.map;
    blocks = 0;
    asked = length a.claimed;
    asks = (refl, asks_in_tree shape old tree x owners t (length a.claimed) st told a.absent a.asked);
    effect = (
      t,
      a.after,
      a.claimed,
      tree_turns shape before noted old new tree owners (with_pages shape owners a.claimed) t a.after st told still (touches_wider touched (space_of_tree shape old tree))
          (adds_alone shape before noted old new tree x owners t st a),
      record { lowest = a.lowest notes; owners = refl; pages = a.pages },
      a.adds,
      keeps_leaves_same tree.width (nodes_in tree.width (g.state old)) (nodes_in tree.width (telling (g.state old).work)) t a.after (nodes_told tree.width (g.state old) told) a.leaves,
      a.one_leaf,
    );
    few_extents = omega (arith, free_extents-with_pages shape owners a.claimed st.map.count (some_pages shape) (a.lowest notes));
    few_pages = used_index_pages-with_pages shape owners a.claimed st.map.count (some_pages shape) a.claims;
    grows = claims_grow g shape old owners a.claimed (g.state new).work st.map a.claims a.grows.count;
  }

  -- and one that finds no room
  pub addition_asks : (shape : Shape) (before noted : SpaceNotes) (old new : S) (tree : Tree) (x : Entry) (owners : List Kind) (t : Forest) → StandsTree g shape old tree owners t → IsTrue (g.state old).is_told
      → AreRightNotes shape before owners → FindsFull g shape before noted old new tree x owners t → AsksTooMuch shape (g.state old).work (AddEntry (place_of_tree tree) x)
  addition_asks shape before noted old new tree x owners t st told notes f = record {
    owners = owners;
    has_map = map_of_told g old told shape owners st.map;
    blocks = 0;
    asked = f.wanted;
    asks = (refl, asks_in_tree shape old tree x owners t f.wanted st told f.absent f.asked);
    short =
        let full = f.meets.full notes in
        omega (arith, extents_for-full shape owners f.meets.claimed f.wanted st.map.count (some_pages shape) f.meets.claims.claims full.no_free full.no_unused f.meets.fewer);
  }

  -- an entry that leaves a tree
  pub removal_makes : (shape : Shape) (before noted : SpaceNotes) (old new : S) (tree : Tree) (x : Entry) (owners : List Kind) (t : Forest) → StandsTree g shape old tree owners t → IsTrue (g.state old).is_told
      → (g.state new).is_told ≡ (g.state old).is_told → length (g.state new).work ≡ length (g.state old).work → Touches g (IsTreeOrMapPage g shape old tree) old new
      → RemovesEntry g shape before noted new tree x owners t → MakesChange shape (g.state old).work (RemoveEntry (place_of_tree tree) x) (g.state new).work
  removal_makes shape before noted old new tree x owners t st told still count touched r = record {
    old_owners = owners;
    new_owners = without_pages shape owners r.gone;
    old_map = map_of_told g old told shape owners st.map;
    new_map = map_of_told g new (still ∙ told) shape (without_pages shape owners r.gone) r.stands.map;
    blocks = 0;
    asked = 0;
    asks = (refl, refl);
    effect = (
      t,
      r.after,
      r.gone,
      tree_turns shape before noted old new tree owners (without_pages shape owners r.gone) t r.after st told still (touches_wider touched (space_of_removal shape old tree))
          (removes_alone shape before noted old new tree x owners t st r),
      record { owners = refl; pages = r.pages },
      r.takes,
      r.one_leaf,
    );
    few_extents = omega (arith, free_extents-without_pages shape owners r.gone);
    few_pages = omega (arith, used_index_pages-without_pages shape owners r.gone);
    grows = inl count;
  }

  -- an entry in the place of another
  pub amendment_makes : (shape : Shape) (old new : S) (tree : Tree) (x y : Entry) (owners : List Kind) (t : Forest) → StandsTree g shape old tree owners t → IsTrue (g.state old).is_told
      → (g.state new).is_told ≡ (g.state old).is_told → length (g.state new).work ≡ length (g.state old).work → Touches g (IsTreePage g old tree) old new
      → AmendsEntry g new tree x y t → MakesChange shape (g.state old).work (AmendEntry (place_of_tree tree) x y) (g.state new).work
  amendment_makes shape old new tree x y owners t st told still count touched a =
      let longer : length (g.state old).work ≤ length (g.state new).work = omega (arith, count) in
      let noted : SpaceNotes = record { free_from = 0; unused_from = 0 } in
      let changes = amends_alone shape noted old new tree x y owners t st touched longer a in
      record {
        old_owners = owners;
        new_owners = owners;
        old_map = map_of_told g old told shape owners st.map;
        new_map = map_of_told g new (still ∙ told) shape owners changes.stand.map;
        blocks = 0;
        asked = 0;
        asks = (refl, refl);
        effect = (
          t,
          a.after,
          a.rest,
          tree_turns shape noted noted old new tree owners owners t a.after st told still (touches_wider touched (space_of_amending shape old tree)) changes,
          a.was,
          a.is,
          a.leaves,
          refl,
        );
        few_extents = omega arith;
        few_pages = omega arith;
        grows = inl count;
      }

  -- a free extent that becomes a block: each used index page stays
  pub block_makes : (shape : Shape) (old new : S) (table block : ℕ) (owners : List Kind) → HoldsMap g shape old owners → IsTrue (g.state old).is_told
      → (g.state new).is_told ≡ (g.state old).is_told → IsLowestFree owners block → HoldsMap g shape new (with_block owners block table)
      → ((p : ℕ) → IsUsedPage shape owners p → page_at (g.state new).work p ≡ page_at (g.state old).work p)
      → length (g.state old).work ≤ length (g.state new).work
      → (length (g.state new).work ≡ length (g.state old).work) ⊎ GrowsToExtent shape owners (with_block owners block table) (g.state old).work (g.state new).work
      → MakesChange shape (g.state old).work (ClaimBlock table block) (g.state new).work
  block_makes shape old new table block owners map told still lowest now stay longer grows = record {
    old_owners = owners;
    new_owners = with_block owners block table;
    old_map = map_of_told g old told shape owners map;
    new_map = map_of_told g new (still ∙ told) shape (with_block owners block table) now;
    blocks = 1;
    asked = 0;
    asks = (refl, refl);
    effect = (
      lowest,
      refl,
      record { bytes = λ p used none. stay p used; used = λ p used none. used-with_block shape owners block table p lowest.free used },
    );
    few_extents = omega (arith, free_extents-with_block owners block table lowest.within lowest.free);
    few_pages = omega (arith, used_index_pages-with_block shape owners block table lowest.free);
    grows = grows;
  }

  -- and one that isn't there
  pub block_asks : (shape : Shape) (s : S) (table block : ℕ) (owners : List Kind) → HoldsMap g shape s owners → IsTrue (g.state s).is_told → HasNoFree owners
      → AsksTooMuch shape (g.state s).work (ClaimBlock table block)
  block_asks shape s table block owners map told none = record {
    owners = owners;
    has_map = map_of_told g s told shape owners map;
    blocks = 1;
    asked = 0;
    asks = (refl, refl);
    short = omega (arith, free_extents-none owners none);
  }

  -- a block that is given back: each used index page stays, and no page comes
  pub giving_makes : (shape : Shape) (old new : S) (table block : ℕ) (owners : List Kind) → HoldsMap g shape old owners → IsTrue (g.state old).is_told
      → (g.state new).is_told ≡ (g.state old).is_told → owner_of owners block ≡ Block table → HoldsMap g shape new (without_block owners block)
      → ((p : ℕ) → IsUsedPage shape owners p → page_at (g.state new).work p ≡ page_at (g.state old).work p) → length (g.state new).work ≡ length (g.state old).work
      → MakesChange shape (g.state old).work (GiveBlock table block) (g.state new).work
  giving_makes shape old new table block owners map told still is now stay count = record {
    old_owners = owners;
    new_owners = without_block owners block;
    old_map = map_of_told g old told shape owners map;
    new_map = map_of_told g new (still ∙ told) shape (without_block owners block) now;
    blocks = 0;
    asked = 0;
    asks = (refl, refl);
    effect = (
      is,
      refl,
      record { bytes = λ p used none. stay p used; used = λ p used none. used-without_block shape owners block p (ap is_block_kind is) used },
      count,
    );
    few_extents = omega (arith, free_extents-without_block owners block);
    few_pages = omega (arith, used_index_pages-without_block shape owners block);
    grows = inl count;
  }

  -- a tree that is made
  pub making_makes : (shape : Shape) (before noted : SpaceNotes) (old new : S) (tree : Tree) (owners : List Kind) → HoldsMap g shape old owners → IsTrue (g.state old).is_told
      → (g.state new).is_told ≡ (g.state old).is_told → AreRightNotes shape before owners → Touches g (IsMapSpace g shape old) old new
      → MakesTree g shape before noted old new tree owners → MakesChange shape (g.state old).work (MakeTree (place_of_tree tree)) (g.state new).work
  making_makes shape before noted old new tree owners map told still notes touched m =
      let stood = one_stands shape new tree (with_used_page shape owners tree.root) (Leaf tree.root [] Nil) m.stands in
      record {
        old_owners = owners;
        new_owners = with_used_page shape owners tree.root;
        old_map = map_of_told g old told shape owners map;
        new_map = map_of_told g new (still ∙ told) shape (with_used_page shape owners tree.root) m.stands.map;
        blocks = 0;
        asked = 1;
        asks = (refl, refl);
        effect = (
          tree_of_told g new (still ∙ told) (place_of_tree tree) (Leaf tree.root [] Nil) stood.held.0,
          m.lowest notes,
          refl,
          record {
            bytes = λ p used none. used_page_stays (IsMapSpace g shape old) shape old new owners p map told touched used
                (λ mine. elim (mine owners map) [ inl space ↦ no_space_page shape p used.page space | inr idle ↦ used_not_idle shape owners p used idle ]);
            used = λ p used none. used_after shape owners (tree.root ∷ []) p used;
          },
          keeps_blocks owners (with_used_page shape owners tree.root) (blocks-with_pages shape owners (tree.root ∷ [])),
        );
        few_extents = omega (arith, free_extents-with_pages shape owners (tree.root ∷ []) map.count (some_pages shape) (m.lowest notes, tt));
        few_pages = used_index_pages-with_pages shape owners (tree.root ∷ []) map.count (some_pages shape) (m.claimable, tt);
        grows = claims_grow g shape old owners (tree.root ∷ []) (g.state new).work map (m.claimable, tt) m.grows.count;
      }

  -- and one that finds no room: nothing is free, and nothing unused
  pub making_asks : (shape : Shape) (s : S) (place : TreePlace) (owners : List Kind) → HoldsMap g shape s owners → IsTrue (g.state s).is_told → IsFullMap shape owners
      → AsksTooMuch shape (g.state s).work (MakeTree place)
  making_asks shape s place owners map told full = record {
    owners = owners;
    has_map = map_of_told g s told shape owners map;
    blocks = 0;
    asked = 1;
    asks = (refl, refl);
    short = omega (arith, extents_for-full shape owners [] 1 map.count (some_pages shape) tt full.no_free full.no_unused (omega arith));
  }

  -- where no used index page and no page of the map was written, and no page came, the space is the same
  pub space_stays : (shape : Shape) (old new : S) (owners : List Kind) (Mine : ℕ → Type 0) → HoldsMap g shape old owners → IsTrue (g.state old).is_told
      → (g.state new).is_told ≡ (g.state old).is_told → length (g.state new).work ≡ length (g.state old).work → Touches g Mine old new
      → ((p : ℕ) → Mine p → IsUsedPage shape owners p → ⊥) → ((p : ℕ) → Mine p → IsSpacePage shape p → ⊥) → IsSameSpace shape (g.state old).work (g.state new).work
  space_stays shape old new owners Mine map told still count touched no_used no_space = record {
    owners = owners;
    had = map_of_told g old told shape owners map;
    has = map_of_told g new (still ∙ told) shape owners (map_stays Mine shape old new owners map touched (omega (arith, count)) (λ p on mine. no_space p mine (inr on)));
    bytes = λ p used. used_page_stays Mine shape old new owners p map told touched used (λ mine. no_used p mine used);
    count = count;
  }
