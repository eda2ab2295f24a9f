use Rattle.extent_map.proofs.LawsOfTheMap as law
use Rattle.extent_map.proofs.laws.fresh_map.Goals as goal

pub returns : goal.returns
returns g c = λ zeros. law.fresh_map c.args.shape c.args.pages.now zeros
