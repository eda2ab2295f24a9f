-- The pages that are made are sound, and there is a shape of each two numbers within the limits.
use Rattle.session.proofs.MadePagesLemmas.{made_pages-sound, shape_of_numbers}
use Rattle.session.proofs.file.made.made_database_is_sound.Goals as goal

pub returns-clause-sound : goal.returns-clause-sound
returns-clause-sound c = made_pages-sound

pub returns-clause-extents : goal.returns-clause-extents
returns-clause-extents c = shape_of_numbers
