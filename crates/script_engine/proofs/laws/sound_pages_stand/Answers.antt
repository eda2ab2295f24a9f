use Rattle.script_engine.proofs.SoundPagesStandLemmas.{sound_pages_stand}
use Rattle.script_engine.proofs.laws.sound_pages_stand.Goals as goal

pub returns : goal.returns
returns c = sound_pages_stand
