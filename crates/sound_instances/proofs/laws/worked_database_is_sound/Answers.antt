use Rattle.sound_instances.proofs.WorkedDatabaseLemmas.{worked_is_sound, worked_is_valid, worked_stands}
use Rattle.sound_instances.proofs.laws.worked_database_is_sound.Goals as goal

pub returns-clause-rules : goal.returns-clause-rules
returns-clause-rules c = worked_is_sound

pub returns-clause-stands : goal.returns-clause-stands
returns-clause-stands c = worked_stands

pub returns-clause-valid : goal.returns-clause-valid
returns-clause-valid c = worked_is_valid
