use Rattle.file_check.proofs.SoundUnbrokenLemmas.{sound_unbroken}
use Rattle.file_check.proofs.laws.sound_pages_break_no_rule.Goals as goal

pub returns : goal.returns
returns c = λ shape pages rule page sound broken. sound_unbroken shape pages sound rule page broken
