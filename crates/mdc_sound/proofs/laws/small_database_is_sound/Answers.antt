use Rattle.mdc_sound.proofs.SmallDatabaseLemmas.{small_is_sound, small_stands}
use Rattle.mdc_sound.proofs.laws.small_database_is_sound.Goals as goal

pub returns-clause-sound : goal.returns-clause-sound
returns-clause-sound c = small_is_sound

pub returns-clause-stands : goal.returns-clause-stands
returns-clause-stands c = small_stands
