use Rattle.extent_map.proofs.LawsOfTheMap as law
use Rattle.extent_map.proofs.laws.one_map.Goals as goal

pub returns : goal.returns
returns g c = λ one other first second. law.one_map first second
