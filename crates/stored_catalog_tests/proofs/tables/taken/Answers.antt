use Rattle.stored_catalog_tests.proofs.TablesLemmas.{taken_def, taken_left}
use Rattle.stored_catalog_tests.proofs.tables.taken.Goals as goal

pub returns-clause-catalog : goal.returns-clause-catalog
returns-clause-catalog c = taken_left c.args.catalog.now c.take.new.self c.args.table c.in-Some.def c.requires.catalog c.in-Some.ensures.taken c.in-Some.ensures.left

pub returns-clause-defined : goal.returns-clause-defined
returns-clause-defined c = taken_def c.args.catalog.now c.args.table c.in-Some.def c.requires.catalog c.in-Some.ensures.taken
