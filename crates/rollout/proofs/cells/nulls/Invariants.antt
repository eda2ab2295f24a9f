use Rattle.std.proofs.Common.{◌≡◌, replicate}
use Rattle.mdc_values.specs.declared.value.Value.TheVariants.{Null}
use Rattle.rollout.proofs.cells.nulls.Given as goal

abbrev pub invariant-loop : goal.invariant-loop
invariant-loop l = l.made ≡ replicate l.counter Null
