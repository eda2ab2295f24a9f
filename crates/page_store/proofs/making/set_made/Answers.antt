-- The write tears the made byte, and the sync nothing.
use Rattle.page_file.proofs.RunsLemmas.{runs_within, runs_then_settle}
use Rattle.page_store.proofs.making.set_made.Goals as goal

pub returns-in_err-put-clause-runs : goal.returns-in_err-put-clause-runs
returns-in_err-put-clause-runs g c = runs_within c.put.ensures.runs

pub returns-clause-runs : goal.returns-clause-runs
returns-clause-runs g c = runs_then_settle c.put.ensures.runs c.settle.ensures.runs
