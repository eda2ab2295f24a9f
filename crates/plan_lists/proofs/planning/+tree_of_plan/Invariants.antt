use Rattle.std.proofs.Common.{◌≡◌, None, false, take}
use Rattle.store_api.specs.Frame.{NoPage}
use Rattle.store_api.specs.RunsOverPages.{RunsOverPages}
use Rattle.mdc_sound.specs.StandingTable.{BreaksTable}
use Rattle.plan_lists.specs.PlanTrees.{IsListPage}
use Rattle.plan_lists.proofs.PartsLemmas.{StandForParts}
use Rattle.plan_lists.proofs.planning.+tree_of_plan.Given as goal

abbrev pub decreases-tree_of_plan : goal.decreases-tree_of_plan
decreases-tree_of_plan g l = goal.size-tree_of_plan g l

-- the trees so far stand for the parts so far
abbrev pub invariant-loop-part : goal.invariant-loop-part
invariant-loop-part g l = record {
  stand : StandForParts g.P.Pages l.fn.shape l.fn.pages l.def (take l.part-index l.part-items) l.trees;
  same : (g.P.Pages.state l.pages).work ≡ (g.P.Pages.state l.fn.pages).work;
  going : (g.P.Pages.state l.pages).ended ≡ false;
  runs : RunsOverPages g.P.Pages NoPage (IsListPage g.P.Pages l.fn.pages l.def l.plan) (BreaksTable g.P.Pages l.fn.shape l.fn.pages l.def) l.fn.pages l.pages None;
}
