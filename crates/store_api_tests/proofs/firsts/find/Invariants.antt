use Rattle.std.proofs.Common.{None}
use Rattle.store_api.specs.Frame.{Part, NoPage}
use Rattle.store_api.specs.Causes.{NoDamage}
use Rattle.store_api.specs.RunsOverPages.{RunsOverPages}
use Rattle.store_api.specs.Fetching.{BringsOnce, PagesBetween}
use Rattle.store_api_tests.specs.Firsts.{NoneBegins, HoldsAll}
use Rattle.store_api_tests.proofs.firsts.find.Given as goal

abbrev pub invariant-loop-i : goal.invariant-loop-i
invariant-loop-i g l = record {
  none : (part : Part) → HoldsAll g.P.Pages l.fn.pages l.a l.b part → NoneBegins part l.a l.i l.byte;
  once : BringsOnce g.P.Pages (PagesBetween l.a l.i) l.fn.pages l.pages;
  runs : RunsOverPages g.P.Pages NoPage (PagesBetween l.a l.b) NoDamage l.fn.pages l.pages None;
}
