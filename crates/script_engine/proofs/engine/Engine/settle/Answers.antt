use Rattle.script_engine.proofs.RestingLemmas.{settles_still}
use Rattle.script_engine.proofs.engine.Engine.settle.Goals as goal

pub returns : goal.returns
returns g c = record { settles = settles_still g.S.Pages c.args.self.now c.requires.may }
