use Rattle.tight_space.proofs.StaysTightLemmas.{none_tight}
use Rattle.tight_space.proofs.laws.no_tables_are_tight.Goals as goal

pub returns : goal.returns
returns c = none_tight
