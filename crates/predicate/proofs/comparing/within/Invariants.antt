use Rattle.std.proofs.Common.{◌≡◌, false, map, take}
use Rattle.mdc_ast.specs.declared.predicate.Pred.TheVariants as preds
use Rattle.mdc_ast.specs.declared.predicate.Right.TheVariants as right_side
use Rattle.mdc_ast.specs.declared.predicate.Test.TheVariants as column_test
use Rattle.predicate.proofs.comparing.within.Given as goal

abbrev pub invariant-loop-other : goal.invariant-loop-other
invariant-loop-other l =
    l.parts ≡ map (λ other. preds.Atom (record { column = l.column; negated = false; test = column_test.Compare l.op (right_side.Value other) })) (take l.other-index l.others)
