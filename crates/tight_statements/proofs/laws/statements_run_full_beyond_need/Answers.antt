use Rattle.script_engine.proofs.FullBeyondLemmas.{full_beyond}
use Rattle.script_engine.proofs.FullStepsLemmas.{step_beyond}
use Rattle.tight_statements.proofs.laws.statements_run_full_beyond_need.Goals as goal

pub returns-clause-bound : goal.returns-clause-bound
returns-clause-bound c = λ shape pages view defs db statement sound tight stored stands valid puts full. full_beyond shape pages view sound tight defs stored db stands statement valid puts full.full

pub returns-clause-text : goal.returns-clause-text
returns-clause-text c = step_beyond
