use Rattle.cleaner.proofs.EndedLemmas.{begun, ended, freed}
use Rattle.cleaner.proofs.laws.ended_passes_leave_none.Goals as goal

pub returns-clause-begun : goal.returns-clause-begun
returns-clause-begun c def pass trees = begun def pass trees

pub returns-clause-ended : goal.returns-clause-ended
returns-clause-ended c def pass trees = ended def pass trees

pub returns-clause-freed : goal.returns-clause-freed
returns-clause-freed c def rows pending waiting blocks which t = freed def rows pending waiting blocks which t
