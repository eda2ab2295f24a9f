use Rattle.std.proofs.Common.{◌≡◌, ◌++◌, drop, map}
use Rattle.plan_chooser.specs.Rule.{comparison_cover}
use Rattle.plan_chooser.proofs.testing.within_cover.Given as goal

abbrev pub invariant-loop-value : goal.invariant-loop-value
invariant-loop-value l = l.covers ++ map (comparison_cover l.def l.mode l.column l.op) (drop l.value-index l.values) ≡ map (comparison_cover l.def l.mode l.column l.op) l.values
