use Rattle.mdc_sound.proofs.SoundDatabaseLemmas.{parts_of_rules, rules_of_parts}
use Rattle.mdc_sound.proofs.laws.rules_make_parts.Goals as goal

pub returns : goal.returns
returns c = λ shape pages view. (parts_of_rules shape pages view, rules_of_parts shape pages view)
