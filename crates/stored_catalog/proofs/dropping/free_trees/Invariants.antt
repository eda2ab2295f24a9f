use Rattle.std.proofs.Common.{◌≡◌, ◌+◌, suc, None, List, length, drop}
use Rattle.store_api.specs.RunsOverPages.{RunsOverPages}
use Rattle.extent_map.specs.Map.{IsMapPage}
use Rattle.extent_map.specs.declared.kind.Kind.{Kind}
use Rattle.entry_tree.specs.Forest.{Forest}
use Rattle.table_trees.specs.TableTrees.{tree_places}
use Rattle.table_trees.specs.TreesBeside.{IsTreesOrMapPage, StandTrees}
use Rattle.stored_catalog.specs.TreeRuns.{BreaksTrees}
use Rattle.stored_catalog.proofs.FreedTreesLemmas.{FreesSome}
use Rattle.stored_catalog.proofs.dropping.free_trees.Given as goal

-- the block map and the first block indexes were given back
abbrev pub invariant-loop-index : goal.invariant-loop-index
invariant-loop-index g l = record {
  frees : (owners : List Kind) (trees : List Forest) → StandTrees g.P.Pages l.fn.shape l.fn.pages owners (tree_places l.def) trees
      → FreesSome g.P.Pages l.fn.shape l.fn.notes l.notes l.pages owners trees (drop (suc l.index) (tree_places l.def));
  count : length (g.P.Pages.state l.pages).work ≡ length (g.P.Pages.state l.fn.pages).work;
  runs : RunsOverPages g.P.Pages (IsMapPage l.fn.shape) (IsTreesOrMapPage g.P.Pages l.fn.shape l.fn.pages (tree_places l.def)) (BreaksTrees g.P.Pages l.fn.shape l.fn.pages l.def) l.fn.pages l.pages None;
}

-- and so were the first record indexes
abbrev pub invariant-loop-number : goal.invariant-loop-number
invariant-loop-number g l = record {
  frees : (owners : List Kind) (trees : List Forest) → StandTrees g.P.Pages l.fn.shape l.fn.pages owners (tree_places l.def) trees
      → FreesSome g.P.Pages l.fn.shape l.fn.notes l.notes l.pages owners trees (drop (length l.def.dims + 2 + l.number) (tree_places l.def));
  count : length (g.P.Pages.state l.pages).work ≡ length (g.P.Pages.state l.fn.pages).work;
  runs : RunsOverPages g.P.Pages (IsMapPage l.fn.shape) (IsTreesOrMapPage g.P.Pages l.fn.shape l.fn.pages (tree_places l.def)) (BreaksTrees g.P.Pages l.fn.shape l.fn.pages l.def) l.fn.pages l.pages None;
}
