use Rattle.std.proofs.Common.{◌≡◌, drop, map}
use Rattle.mdc_values.specs.Order.{compared}
use Rattle.mdc_values.specs.declared.truth.Op.TheVariants.{Equal}
use Rattle.mdc_ast.specs.Truth.{any_of, or_of}
use Rattle.predicate.proofs.judging.truth_of_within.Given as goal

abbrev pub invariant-loop-other : goal.invariant-loop-other
invariant-loop-other l =
    any_of (map (compared Equal l.value) l.others) ≡ or_of l.any (any_of (map (compared Equal l.value) (drop l.other-index l.others)))
