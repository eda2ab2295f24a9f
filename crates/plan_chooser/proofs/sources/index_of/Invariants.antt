use Rattle.std.proofs.Common.{◌≡◌}
use Rattle.plan_chooser.specs.Sources.{begins_with}
use Rattle.plan_chooser.proofs.SourceLemmas.{IsLater}
use Rattle.plan_chooser.proofs.sources.index_of.Given as goal

abbrev pub invariant-loop-index : goal.invariant-loop-index
invariant-loop-index l = record {
  at : l.at ≡ l.index-index;
  later : IsLater (λ index. begins_with index.parts l.column) l.index-items l.index-index;
}
