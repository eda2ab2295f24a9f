use Rattle.tight_space.proofs.StaysTightLemmas.{stays_tight}
use Rattle.tight_space.proofs.laws.changes_leave_tight_pages.Goals as goal

pub returns : goal.returns
returns c = stays_tight
