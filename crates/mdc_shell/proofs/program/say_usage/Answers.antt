use Rattle.mdc_shell.proofs.ToldLemmas.{says-told}
use Rattle.mdc_shell.proofs.program.say_usage.Goals as goal

pub returns-clause-told : goal.returns-clause-told
returns-clause-told g c = says-told c.say.result _ _ _ c.say.ensures.said c.say.ensures.part
