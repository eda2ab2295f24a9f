use Rattle.std.proofs.Common.{◌≡◌, None, List, length}
use Rattle.store_api.specs.RunsOverPages.{RunsOverPages}
use Rattle.extent_map.specs.Map.{IsMapPage}
use Rattle.extent_map.specs.declared.kind.Kind.{Kind}
use Rattle.entry_tree.specs.Forest.{Forest}
use Rattle.entry_tree.specs.Freeing.{IsFreeingPage, BreaksFreeing}
use Rattle.entry_tree.specs.Standing.{StandsTree}
use Rattle.entry_tree.proofs.FreeingLemmas.{IsFreeing}
use Rattle.entry_tree.proofs.tree.Tree.free_all.Given as goal

-- what is to be done is the rest of each tree that stands, after so many pages
abbrev pub invariant-loop-step : goal.invariant-loop-step
invariant-loop-step g l = record {
  freeing : (owners : List Kind) (t : Forest) → StandsTree g.P.Pages l.fn.shape l.fn.pages l.self owners t → IsFreeing g.P.Pages l.fn.shape l.fn.notes l.notes l.pages l.self owners t l.todo.items l.step;
  count : length (g.P.Pages.state l.pages).work ≡ length (g.P.Pages.state l.fn.pages).work;
  runs : RunsOverPages g.P.Pages (IsMapPage l.fn.shape) (IsFreeingPage g.P.Pages l.fn.shape l.fn.pages l.self) (BreaksFreeing g.P.Pages l.fn.shape l.fn.pages l.self) l.fn.pages l.pages None;
}
