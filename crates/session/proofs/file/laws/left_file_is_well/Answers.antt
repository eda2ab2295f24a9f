-- Of a file that is all on the disk nothing else can be left.
use Rattle.session.proofs.WellFilesLemmas.{synced_well}
use Rattle.session.proofs.file.laws.left_file_is_well.Goals as goal

pub returns : goal.returns
returns c = synced_well
