-- What a crash within a run leaves is well.
use Rattle.session.proofs.WellFilesLemmas.{well_left}
use Rattle.session.proofs.file.laws.left_by_run_is_well.Goals as goal

pub returns : goal.returns
returns c = well_left
