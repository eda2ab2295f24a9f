-- What NOT is pushed in may be judged where the predicate may.
use Rattle.std.proofs.Common.{◌∙◌}
use Rattle.predicate_tests.proofs.truths.has_truth.Goals as goal

pub truth-requires-2 : goal.truth-requires-2
truth-requires-2 g c = record { comparable = c.in_ok-pushed.ensures.judged c.args.values.now ∙ c.requires }
