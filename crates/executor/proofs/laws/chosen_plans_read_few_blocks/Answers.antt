use Rattle.executor.proofs.ChosenPlansLemmas.{few_pages}
use Rattle.executor.proofs.laws.chosen_plans_read_few_blocks.Goals as goal

pub returns : goal.returns
returns g c = few_pages
