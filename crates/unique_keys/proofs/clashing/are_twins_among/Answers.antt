use Rattle.unique_keys.proofs.ClashLemmas.{none_among_few}
use Rattle.unique_keys.proofs.clashing.are_twins_among.Goals as goal

pub returns-then-come-lt2 : goal.returns-then-come-lt2
returns-then-come-lt2 c = none_among_few (λ values. values.now) c.args.parts.now c.args.come.now c.if-come-lt2.true
