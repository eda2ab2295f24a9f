use Rattle.std.proofs.Common.{◌≡◌, ◌≤◌, ◌-◌, List, None}
use Rattle.store_api.specs.Frame.{NoPage}
use Rattle.store_api.specs.RunsOverPages.{RunsOverPages}
use Rattle.extent_map.specs.Damages.{BreaksSpace}
use Rattle.extent_map.specs.Map.{HoldsMap, IsMapPage}
use Rattle.extent_map.specs.Searches.{NoneWanted}
use Rattle.extent_map.specs.declared.kind.Kind.{Kind}
use Rattle.extent_map.proofs.finding.find.Given as goal

-- none was wanted so far, and the work is as it was
abbrev pub invariant-loop-next : goal.invariant-loop-next
invariant-loop-next g l = record {
  behind : l.from ≤ l.next;
  same : (g.P.Pages.state l.pages).work ≡ (g.P.Pages.state l.fn.pages).work;
  none : (owners : List Kind) → HoldsMap g.P.Pages l.shape l.fn.pages owners → NoneWanted l.wanted l.shape.extent_pages owners l.from l.next;
  runs : RunsOverPages g.P.Pages NoPage (IsMapPage l.shape) (BreaksSpace g.P.Pages l.shape l.fn.pages) l.fn.pages l.pages None;
}

abbrev pub decreases-loop-next : goal.decreases-loop-next
decreases-loop-next g l = l.to - l.next
