use Rattle.mdc_sound.proofs.StandsForLemmas.{one_database}
use Rattle.mdc_sound.proofs.laws.pages_stand_for_one.Goals as goal

pub returns : goal.returns
returns c = one_database
