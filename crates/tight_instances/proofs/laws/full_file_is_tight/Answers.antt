use Rattle.tight_instances.proofs.FullFileLemmas.{full_is_sound, full_is_valid, full_stands}
use Rattle.tight_instances.proofs.TightInstancesLemmas.{full_is_tight, full_need}
use Rattle.tight_instances.proofs.laws.full_file_is_tight.Goals as goal

pub returns-clause-rules : goal.returns-clause-rules
returns-clause-rules c = full_is_sound

pub returns-clause-stands : goal.returns-clause-stands
returns-clause-stands c = full_stands

pub returns-clause-valid : goal.returns-clause-valid
returns-clause-valid c = full_is_valid

pub returns-clause-tight : goal.returns-clause-tight
returns-clause-tight c = full_is_tight

pub returns-clause-need : goal.returns-clause-need
returns-clause-need c = full_need
