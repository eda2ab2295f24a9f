-- Both calls read.
use Rattle.page_file.proofs.RunsLemmas.{runs_on}
use Rattle.page_store.proofs.reading.read_birth.Goals as goal

pub returns-in_err-birth-clause-runs : goal.returns-in_err-birth-clause-runs
returns-in_err-birth-clause-runs g c = runs_on c.get.ensures.runs c.read_page.ensures.runs

pub returns-clause-runs : goal.returns-clause-runs
returns-clause-runs g c = runs_on c.get.ensures.runs c.read_page.ensures.runs
