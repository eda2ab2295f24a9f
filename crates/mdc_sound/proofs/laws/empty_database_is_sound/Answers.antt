use Rattle.mdc_sound.proofs.EmptyDatabaseLemmas.{empty_is_sound, empty_stands}
use Rattle.mdc_sound.proofs.laws.empty_database_is_sound.Goals as goal

pub returns-clause-sound : goal.returns-clause-sound
returns-clause-sound c = empty_is_sound

pub returns-clause-stands : goal.returns-clause-stands
returns-clause-stands c = empty_stands
