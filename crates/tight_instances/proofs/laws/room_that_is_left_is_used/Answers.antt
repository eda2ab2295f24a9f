use Rattle.tight_instances.proofs.RunningFullLemmas.{room_is_left, room_needs}
use Rattle.tight_instances.proofs.laws.room_that_is_left_is_used.Goals as goal

pub returns-clause-need : goal.returns-clause-need
returns-clause-need c = room_needs

pub returns-clause-insert : goal.returns-clause-insert
returns-clause-insert c = room_is_left
