use Rattle.std.proofs.Common.{◌≡◌}
use Rattle.plan_chooser.specs.Sources.{stands_in}
use Rattle.plan_chooser.proofs.SourceLemmas.{IsLater}
use Rattle.plan_chooser.proofs.sources.dimension_of.Given as goal

abbrev pub invariant-loop-dim : goal.invariant-loop-dim
invariant-loop-dim l = record {
  at : l.at ≡ l.dim-index;
  later : IsLater (λ dim. stands_in dim l.column) l.dim-items l.dim-index;
}
