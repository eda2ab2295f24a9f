use Rattle.std.proofs.Common.{◌≡◌, ◌++◌}
use Rattle.std.specs.Vec.Iter.{into_iter_items}
use Rattle.plan_chooser.specs.Narrowing.{with_spans}
use Rattle.plan_chooser.proofs.cover.Cover.add.Given as goal

abbrev pub invariant-loop-span : goal.invariant-loop-span
invariant-loop-span l = record {
  spans : with_spans l.self.spans (into_iter_items l.span-iterator) ≡ with_spans l.fn.self.spans l.fn.more.spans;
  plans : l.self.plans ≡ l.fn.self.plans;
}

abbrev pub invariant-loop-plan : goal.invariant-loop-plan
invariant-loop-plan l = record {
  spans : l.self.spans ≡ with_spans l.fn.self.spans l.fn.more.spans;
  plans : l.self.plans ++ into_iter_items l.plan-iterator ≡ l.fn.self.plans ++ l.fn.more.plans;
}
