use Rattle.plan_chooser.proofs.FewLemmas.{plan_few}
use Rattle.plan_chooser.proofs.laws.chosen_plans_stay_in_cells.Goals as goal

pub returns : goal.returns
returns c = plan_few
