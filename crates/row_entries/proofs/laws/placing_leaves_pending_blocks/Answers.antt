use Rattle.row_entries.proofs.PendingSpotsLemmas.{bare_where_put, stay_claimed, stay_put, stay_returned, stay_taken}
use Rattle.row_entries.proofs.laws.placing_leaves_pending_blocks.Goals as goal

pub returns-clause-bare : goal.returns-clause-bare
returns-clause-bare c = bare_where_put

pub returns-clause-put : goal.returns-clause-put
returns-clause-put c = stay_put

pub returns-clause-taken : goal.returns-clause-taken
returns-clause-taken c = stay_taken

pub returns-clause-claims : goal.returns-clause-claims
returns-clause-claims c = stay_claimed

pub returns-clause-returns : goal.returns-clause-returns
returns-clause-returns c = stay_returned
