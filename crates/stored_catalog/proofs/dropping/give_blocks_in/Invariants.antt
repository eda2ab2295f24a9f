use Rattle.std.proofs.Common.{◌≡◌, None, List, length, take}
use Rattle.store_api.specs.RunsOverPages.{RunsOverPages}
use Rattle.extent_map.specs.Map.{HoldsMap, IsMapPage}
use Rattle.extent_map.specs.declared.kind.Kind.{Kind}
use Rattle.block_map.specs.MapRows.{state_number}
use Rattle.table_trees.specs.TableTrees.{tree_places}
use Rattle.table_trees.specs.TreesBeside.{IsTreesOrMapPage}
use Rattle.stored_catalog.specs.TreeRuns.{BreaksGiving, GivesBlocks}
use Rattle.stored_catalog.proofs.dropping.give_blocks_in.Given as goal

-- the first blocks were given back
abbrev pub invariant-loop-block : goal.invariant-loop-block
invariant-loop-block g l = record {
  gives : (owners : List Kind) → HoldsMap g.P.Pages l.fn.shape l.fn.pages owners → GivesBlocks g.P.Pages l.fn.shape l.fn.notes l.notes l.pages owners (take l.block-index l.block-items);
  count : length (g.P.Pages.state l.pages).work ≡ length (g.P.Pages.state l.fn.pages).work;
  runs : RunsOverPages g.P.Pages (IsMapPage l.fn.shape) (IsTreesOrMapPage g.P.Pages l.fn.shape l.fn.pages (tree_places l.def)) (BreaksGiving g.P.Pages l.fn.shape l.fn.pages l.def (state_number l.fn.state)) l.fn.pages l.pages None;
}
