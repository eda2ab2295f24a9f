use Rattle.std.proofs.Common.{◌≡◌, ◌<◌, None, List, length, All}
use Rattle.store_api.specs.RunsOverPages.{RunsOverPages}
use Rattle.extent_map.specs.Damages.{BreaksSpace}
use Rattle.extent_map.specs.Map.{HoldsMap, IsSpacePage, BringsZeros, KeepsMapForm}
use Rattle.extent_map.specs.declared.kind.Kind.{Kind}
use Rattle.entry_tree.specs.Standing.{ClaimsPages, GrowsWith}
use Rattle.entry_tree.proofs.claims.claim_pages.Given as goal

abbrev pub invariant-loop-i : goal.invariant-loop-i
invariant-loop-i g l = record {
  many : length l.claimed.items ≡ l.i;
  there : All (λ p. p < length (g.P.Pages.state l.pages).work) l.claimed.items;
  claims : (owners : List Kind) → HoldsMap g.P.Pages l.fn.shape l.fn.pages owners → ClaimsPages g.P.Pages l.fn.shape l.fn.notes l.notes l.pages owners l.claimed.items;
  grows : GrowsWith g.P.Pages l.fn.shape l.fn.pages l.pages l.claimed.items;
  zeros : BringsZeros g.P.Pages (IsSpacePage l.fn.shape) l.fn.pages l.pages;
  forms : KeepsMapForm g.P.Pages l.fn.shape l.fn.pages l.pages;
  runs : RunsOverPages g.P.Pages (IsSpacePage l.fn.shape) (IsSpacePage l.fn.shape) (BreaksSpace g.P.Pages l.fn.shape l.fn.pages) l.fn.pages l.pages None;
}
