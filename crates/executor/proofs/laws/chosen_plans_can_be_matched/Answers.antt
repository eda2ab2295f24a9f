use Rattle.executor.proofs.ChosenPlansLemmas.{chosen_covers, chosen_fits}
use Rattle.executor.proofs.laws.chosen_plans_can_be_matched.Goals as goal

pub returns-clause-fits : goal.returns-clause-fits
returns-clause-fits c = chosen_fits

pub returns-clause-covers : goal.returns-clause-covers
returns-clause-covers c = chosen_covers
