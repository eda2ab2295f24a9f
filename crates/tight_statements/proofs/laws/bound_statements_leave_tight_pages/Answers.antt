use Rattle.script_engine.proofs.TightCreatesLemmas.{creates_tight}
use Rattle.script_engine.proofs.TightIndexesLemmas.{indexes_tight}
use Rattle.script_engine.proofs.TightInsertsLemmas.{inserts_tight}
use Rattle.tight_statements.proofs.laws.bound_statements_leave_tight_pages.Goals as goal

pub returns-clause-create : goal.returns-clause-create
returns-clause-create c = creates_tight

pub returns-clause-index : goal.returns-clause-index
returns-clause-index c = indexes_tight

pub returns-clause-insert : goal.returns-clause-insert
returns-clause-insert c = λ shape old new view now defs defs_now db place tuples mode. inserts_tight {mode = mode} shape old new view now defs defs_now db place tuples
