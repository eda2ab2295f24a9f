use Rattle.binder.proofs.DefLemmas.{few_columns, names_differ}
use Rattle.binder.proofs.statement_binding.table_there.Goals as goal

pub returns-clause-few : goal.returns-clause-few
returns-clause-few c = few_columns (λ def. def.now) c.table.result c.args.catalog.now c.args.table.now c.requires c.table.ensures.found

pub returns-clause-differ : goal.returns-clause-differ
returns-clause-differ c = names_differ (λ def. def.now) c.table.result c.args.catalog.now c.args.table.now c.requires c.table.ensures.found
