-- A store that tells its pages holds what their list does.
use Rattle.std.proofs.Common.{◌≡◌, ℕ, List, true, refl, sym}
use Rattle.store_api.specs.Frame.{HoldsPage}
use Rattle.store_api.specs.StoreState.{StoreState}
use Rattle.store_api.specs.declared.pages.Pages.{Ghosts}
use Rattle.store_api.specs.declared.shape.Shape.{Shape}
use Rattle.extent_map.specs.Map.{HoldsMap}
use Rattle.extent_map.specs.declared.kind.Kind.{Kind}
use Rattle.entry_tree.specs.Forest.{Forest}
use Rattle.entry_tree.specs.HeldTrees.{nodes_in}
use Rattle.entry_tree.proofs.ForestLemmas.{HoldsForest-agree}
use Rattle.table_trees.specs.TableTrees.{TreePlace}
use Rattle.table_trees.specs.TreesBeside.{HoldsTreeAt}
use Rattle.table_trees.specs.ToldPages.{HasTree, telling, told_pages}

-- the nodes of its pages
pub nodes_told : (width : ℕ) (s : StoreState) → s.is_told ≡ true → (p : ℕ) → nodes_in width s p ≡ nodes_in width (telling s.work) p
nodes_told width s told p = rw told refl

module _ {S : Type 0} (g : Ghosts S) (s : S) (told : (g.state s).is_told ≡ true) where
  -- a tree
  pub tree_of_told : (place : TreePlace) (t : Forest) → HoldsTreeAt g s place t → HasTree (g.state s).work place t
  tree_of_told place t h = record {
    is_tree = record {
      head = h.is_tree.head;
      holds = HoldsForest-agree (nodes_in place.width (g.state s)) (nodes_in place.width (telling (g.state s).work)) t
          (λ n l. sym (nodes_told place.width (g.state s) told n)) h.is_tree.holds;
      fits = h.is_tree.fits;
      distinct = h.is_tree.distinct;
    };
    trim = h.trim;
  }

  pub told_of_tree : (place : TreePlace) (t : Forest) → HasTree (g.state s).work place t → HoldsTreeAt g s place t
  told_of_tree place t h = record {
    is_tree = record {
      head = h.is_tree.head;
      holds = HoldsForest-agree (nodes_in place.width (telling (g.state s).work)) (nodes_in place.width (g.state s)) t
          (λ n l. nodes_told place.width (g.state s) told n) h.is_tree.holds;
      fits = h.is_tree.fits;
      distinct = h.is_tree.distinct;
    };
    trim = h.trim;
  }

  -- a page
  page_of_told : (p : ℕ) (bytes : List ℕ) → HoldsPage g s p bytes → HoldsPage told_pages (g.state s).work p bytes
  page_of_told p bytes h = record { is_told = refl; within = h.within; bytes_are = h.bytes_are }

  told_of_page : (p : ℕ) (bytes : List ℕ) → HoldsPage told_pages (g.state s).work p bytes → HoldsPage g s p bytes
  told_of_page p bytes h = record { is_told = told; within = h.within; bytes_are = h.bytes_are }

  -- the extent map
  pub map_of_told : (shape : Shape) (owners : List Kind) → HoldsMap g shape s owners → HoldsMap told_pages shape (g.state s).work owners
  map_of_told shape owners h = record {
    count = h.count;
    pages = λ i low. record { page = page_of_told _ _ (h.pages i low).page; kinds = (h.pages i low).kinds; there = (h.pages i low).there };
  }

  pub told_of_map : (shape : Shape) (owners : List Kind) → HoldsMap told_pages shape (g.state s).work owners → HoldsMap g shape s owners
  told_of_map shape owners h = record {
    count = h.count;
    pages = λ i low. record { page = told_of_page _ _ (h.pages i low).page; kinds = (h.pages i low).kinds; there = (h.pages i low).there };
  }
