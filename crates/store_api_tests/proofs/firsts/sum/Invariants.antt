use Rattle.std.proofs.Common.{◌≡◌, ◌≤◌, ◌-◌, ◌*◌, None}
use Rattle.store_api.specs.Frame.{Part, NoPage}
use Rattle.store_api.specs.Causes.{NoDamage}
use Rattle.store_api.specs.RunsOverPages.{RunsOverPages}
use Rattle.store_api.specs.Fetching.{BringsOnce, PagesBetween}
use Rattle.store_api_tests.specs.Firsts.{sum_first, HoldsAll}
use Rattle.store_api_tests.proofs.firsts.sum.Given as goal

abbrev pub invariant-loop-i : goal.invariant-loop-i
invariant-loop-i g l = record {
  fits : l.all ≤ 255 * (l.i - l.a);
  value : (part : Part) → HoldsAll g.P.Pages l.fn.pages l.a l.b part → l.all ≡ sum_first part l.a (l.i - l.a);
  once : BringsOnce g.P.Pages (PagesBetween l.a l.i) l.fn.pages l.pages;
  runs : RunsOverPages g.P.Pages NoPage (PagesBetween l.a l.b) NoDamage l.fn.pages l.pages None;
}
