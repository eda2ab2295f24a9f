use Rattle.session.proofs.ListsLemmas.{goes_on_lists}
use Rattle.session.proofs.script.laws.goes_on_lists.Goals as goal

pub returns : goal.returns
returns c = goes_on_lists
