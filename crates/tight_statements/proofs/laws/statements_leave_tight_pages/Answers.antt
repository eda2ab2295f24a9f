use Rattle.script_engine.proofs.TightStepsLemmas.{steps_tight}
use Rattle.tight_statements.proofs.laws.statements_leave_tight_pages.Goals as goal

pub returns : goal.returns
returns g c = steps_tight g.P.Pages
