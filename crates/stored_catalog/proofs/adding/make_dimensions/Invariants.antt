use Rattle.std.proofs.Common.{◌≡◌, ◌<◌, ◌^◌, List, length, None}
use Rattle.std.specs.List.{AllByRecursion}
use Rattle.store_api.specs.RunsOverPages.{RunsOverPages}
use Rattle.extent_map.specs.Map.{HoldsMap}
use Rattle.extent_map.specs.declared.kind.Kind.{Kind}
use Rattle.entry_tree.specs.Standing.{IsMapSpace}
use Rattle.stored_catalog.specs.NewTables.{places_with_roots}
use Rattle.stored_catalog.specs.TreeRuns.{BreaksMaking, MakesTrees}
use Rattle.stored_catalog.proofs.adding.make_dimensions.Given as goal

-- the indexes of the first dimensions were made
abbrev pub invariant-loop-dim : goal.invariant-loop-dim
invariant-loop-dim g l = record {
  makes : (owners : List Kind) → HoldsMap g.P.Pages l.fn.shape l.fn.pages owners → MakesTrees g.P.Pages l.fn.shape l.fn.notes l.notes l.fn.pages l.pages owners (places_with_roots l.def l.roots);
  one_each : length l.roots ≡ l.dim-index;
  small : AllByRecursion (λ root. root < 2 ^ 32) l.roots;
  runs : RunsOverPages g.P.Pages (IsMapSpace g.P.Pages l.fn.shape l.fn.pages) (IsMapSpace g.P.Pages l.fn.shape l.fn.pages) (BreaksMaking g.P.Pages l.fn.shape l.fn.pages) l.fn.pages l.pages None;
}
