use Rattle.file_check.proofs.SoundUnbrokenLemmas.{is_sound, says_sound}
use Rattle.file_check.proofs.laws.verdict_is_sound_exactly.Goals as goal

pub returns : goal.returns
returns c = λ shape pages verdict is. (says_sound shape pages verdict is, is_sound shape pages verdict is)
