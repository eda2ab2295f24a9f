use Rattle.rollout.proofs.GoneRowsLemmas.{gone_chosen}
use Rattle.rollout.proofs.laws.rolled_rows_qualify.Goals as goal

pub returns : goal.returns
returns g c before noted room_of rolled owners forests st rolls = gone_chosen g.P.Pages c.args.shape c.args.old.now c.args.new.now c.args.def.now c.args.pred.now rolled owners forests st rolls
