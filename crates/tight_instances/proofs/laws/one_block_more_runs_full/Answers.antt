use Rattle.tight_instances.proofs.RunningFullLemmas.{create_needs, create_runs_full, index_needs, index_runs_full, insert_needs, insert_runs_full}
use Rattle.tight_instances.proofs.laws.one_block_more_runs_full.Goals as goal

pub returns-clause-insert : goal.returns-clause-insert
returns-clause-insert c = insert_runs_full

pub returns-clause-insert_need : goal.returns-clause-insert_need
returns-clause-insert_need c = insert_needs

pub returns-clause-index : goal.returns-clause-index
returns-clause-index c = index_runs_full

pub returns-clause-index_need : goal.returns-clause-index_need
returns-clause-index_need c = index_needs

pub returns-clause-create : goal.returns-clause-create
returns-clause-create c = create_runs_full

pub returns-clause-create_need : goal.returns-clause-create_need
returns-clause-create_need c = create_needs
