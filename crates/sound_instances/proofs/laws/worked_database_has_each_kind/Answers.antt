use Rattle.std.proofs.Common.{refl}
use Rattle.sound_instances.proofs.WorkedIndexesLemmas.{have_left_behind}
use Rattle.sound_instances.proofs.WorkedRowsLemmas.{numbers_are}
use Rattle.sound_instances.proofs.laws.worked_database_has_each_kind.Goals as goal

pub returns-clause-free : goal.returns-clause-free
returns-clause-free c = refl

pub returns-clause-used : goal.returns-clause-used
returns-clause-used c = refl

pub returns-clause-pending : goal.returns-clause-pending
returns-clause-pending c = refl

pub returns-clause-rows : goal.returns-clause-rows
returns-clause-rows c = numbers_are

pub returns-clause-left_behind : goal.returns-clause-left_behind
returns-clause-left_behind c = have_left_behind
