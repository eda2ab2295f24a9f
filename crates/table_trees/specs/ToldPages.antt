-- A list of pages, as the contracts of the layers beneath see it: a store that tells that these are its pages.
use Rattle.std.specs.Prelude.{ℕ, List, true, false, None}
use Rattle.store_api.specs.StoreState.{StoreState, nothing_beside}
use Rattle.store_api.specs.declared.pages.Pages.{Ghosts}
use Rattle.entry_tree.specs.Forest.{Forest}
use Rattle.table_trees.specs.TableTrees.{TreePlace}
use Rattle.table_trees.specs.TreesBeside.{HoldsTreeAt}

-- the pages of a database, each the list of its bytes
abbrev pub PageList : Type 0
PageList = List (List ℕ)

-- what a store is seen as that tells these pages
abbrev pub telling : PageList → StoreState
telling pages = record {
  is_told = true;
  base = pages;
  work = pages;
  marked = None;
  hand = None;
  prepared = false;
  ended = false;
  told = None;
  fetched = None;
  file = None;
  beside = nothing_beside;
}

-- the pages as such a store
abbrev pub told_pages : Ghosts PageList
told_pages = record {
  state = telling;
  written = λ pages. 0;
  disk_faults = λ pages. 0;
  say_faults = λ pages. 0;
  clock = λ pages. 0;
  left = λ pages t reopened told. ⊥;
}

-- the pages hold this tree in this place
abbrev pub HasTree : PageList → TreePlace → Forest → Type 0
HasTree pages place t = HoldsTreeAt told_pages pages place t
