use Rattle.std.proofs.Common.{◌≡◌, length, [], ◌∷◌, None}
use Rattle.store_api.specs.StoreState.{patched}
use Rattle.store_api.specs.Frame.{Part}
use Rattle.store_api.specs.Causes.{NoDamage}
use Rattle.store_api.specs.Fetching.{PagesBetween}
use Rattle.store_api.specs.RunsOverPages.{RunsOverPages}
use Rattle.store_api_tests.specs.Firsts.{HoldsAll}
use Rattle.store_api_tests.proofs.ledger.renumber.Given as goal

abbrev pub invariant-loop-i : goal.invariant-loop-i
invariant-loop-i g l = record {
  count : length (g.P.Pages.state l.pages).work ≡ length (g.P.Pages.state l.fn.pages).work;
  done : (part : Part) → HoldsAll g.P.Pages l.fn.pages l.a l.b part → HoldsAll g.P.Pages l.pages l.a l.i (λ p. patched 0 (l.number ∷ []) (part p));
  runs : RunsOverPages g.P.Pages (PagesBetween l.a l.i) (PagesBetween l.a l.i) NoDamage l.fn.pages l.pages None;
}
