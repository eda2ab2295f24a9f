use Rattle.rollout.proofs.RowByRowLemmas.{whole_blocks}
use Rattle.rollout.proofs.laws.whole_blocks_qualify.Goals as goal

pub returns : goal.returns
returns g c = whole_blocks g.P.Pages c.args.shape c.args.pages.now c.args.def.now c.args.pred.now c.requires.defined c.requires.applies
