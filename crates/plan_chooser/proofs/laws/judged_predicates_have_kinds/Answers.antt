use Rattle.plan_chooser.proofs.KindsLemmas.{judged_kinds, samples_have_keys}
use Rattle.plan_chooser.proofs.laws.judged_predicates_have_kinds.Goals as goal

pub returns-clause-kinds : goal.returns-clause-kinds
returns-clause-kinds c = judged_kinds

pub returns-clause-keys : goal.returns-clause-keys
returns-clause-keys c = samples_have_keys
