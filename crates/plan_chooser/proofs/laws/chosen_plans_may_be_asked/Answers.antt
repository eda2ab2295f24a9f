use Rattle.plan_chooser.proofs.FitLemmas.{plan_of_fits}
use Rattle.plan_chooser.proofs.laws.chosen_plans_may_be_asked.Goals as goal

pub returns : goal.returns
returns c = plan_of_fits
