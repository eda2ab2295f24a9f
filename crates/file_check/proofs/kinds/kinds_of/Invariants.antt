use Rattle.std.proofs.Common.{◌≡◌, List, None, false, length, take}
use Rattle.extent_map.specs.Map.{HoldsMap}
use Rattle.extent_map.specs.declared.kind.Kind.{Kind}
use Rattle.file_check.proofs.KindsLemmas.{ReadsMap}
use Rattle.file_check.proofs.kinds.kinds_of.Given as goal

-- the first extents are of these kinds
abbrev pub invariant-loop-e : goal.invariant-loop-e
invariant-loop-e g l = record {
  same : (g.P.Pages.state l.pages).work ≡ (g.P.Pages.state l.fn.pages).work;
  going : (g.P.Pages.state l.pages).ended ≡ false;
  runs : ReadsMap g.P.Pages l.fn.shape l.fn.pages l.pages None;
  count : length l.kinds.items ≡ l.e;
  kinds : (owners : List Kind) → HoldsMap g.P.Pages l.fn.shape l.fn.pages owners → l.kinds.items ≡ take l.e owners;
}
