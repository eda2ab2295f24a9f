use Rattle.plan_chooser.proofs.PlannedLemmas.{plan_of_true}
use Rattle.plan_chooser.proofs.laws.chosen_plans_cover.Goals as goal

pub returns : goal.returns
returns c = plan_of_true
