use Rattle.tight_instances.proofs.TightInstancesLemmas.{few_in_leaf, room_twice, some_free, some_pending, worked_is_not}
use Rattle.tight_instances.proofs.laws.worked_database_is_not_tight.Goals as goal

pub returns-clause-room : goal.returns-clause-room
returns-clause-room c = room_twice

pub returns-clause-free : goal.returns-clause-free
returns-clause-free c = some_free

pub returns-clause-pending : goal.returns-clause-pending
returns-clause-pending c = some_pending

pub returns-clause-leaves : goal.returns-clause-leaves
returns-clause-leaves c = few_in_leaf

pub returns-clause-tight : goal.returns-clause-tight
returns-clause-tight c = worked_is_not
