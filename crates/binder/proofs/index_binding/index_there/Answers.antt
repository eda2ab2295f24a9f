use Rattle.binder.proofs.DefLemmas.{few_indexes}
use Rattle.binder.proofs.index_binding.index_there.Goals as goal

pub returns-clause-few : goal.returns-clause-few
returns-clause-few c = few_indexes c.index.result c.args.catalog.now c.args.name.now c.requires c.index.ensures.found
