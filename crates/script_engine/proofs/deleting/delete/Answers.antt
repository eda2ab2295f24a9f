use Rattle.store_api.proofs.RunsOverPagesLemmas.{runs_exit}
use Rattle.script_engine.proofs.deleting.delete.Goals as goal

pub returns-in_err-count-clause-runs : goal.returns-in_err-count-clause-runs
returns-in_err-count-clause-runs g c = runs_exit c.from_residual.result c.from_residual.ensures.1 c.in_err-count.ensures.runs
