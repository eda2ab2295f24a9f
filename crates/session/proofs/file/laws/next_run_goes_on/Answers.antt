-- The next run begins with the database that the run before kept.
use Rattle.session.proofs.NextRunLemmas.{next_database, same_database}
use Rattle.session.proofs.file.laws.next_run_goes_on.Goals as goal

pub returns-clause-kept : goal.returns-clause-kept
returns-clause-kept c = next_database c.pages_stand_for_one.ensures

pub returns-clause-same : goal.returns-clause-same
returns-clause-same c = same_database c.pages_stand_for_one.ensures
