use Rattle.script_engine.proofs.ExplainingLemmas.{few_dims, few_indexes}
use Rattle.script_engine.proofs.explaining.word_by.Goals as goal

pub choose-requires-clause-dims : goal.choose-requires-clause-dims
choose-requires-clause-dims c = few_dims c.args.def.now c.requires.defined

pub choose-requires-clause-indexes : goal.choose-requires-clause-indexes
choose-requires-clause-indexes c = few_indexes c.args.def.now c.requires.defined
