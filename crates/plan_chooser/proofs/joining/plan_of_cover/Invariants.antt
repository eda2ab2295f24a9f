use Rattle.std.proofs.Common.{◌≡◌, ◌++◌, map}
use Rattle.std.specs.Vec.Iter.{into_iter_items}
use Rattle.plan_chooser.specs.Covers.{leaf}
use Rattle.plan_chooser.proofs.joining.plan_of_cover.Given as goal

abbrev pub invariant-loop-span : goal.invariant-loop-span
invariant-loop-span l = l.parts ++ map leaf (into_iter_items l.span-iterator) ≡ map leaf l.fn.cover.spans

abbrev pub invariant-loop-plan : goal.invariant-loop-plan
invariant-loop-plan l = l.parts ++ into_iter_items l.plan-iterator ≡ map leaf l.fn.cover.spans ++ l.fn.cover.plans
