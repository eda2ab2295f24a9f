use Rattle.std.proofs.Common.{sym, ◌∙◌}
use Rattle.block_index.proofs.LeavesLemmas.{room_falls}
use Rattle.rollout.proofs.sweeping.lies_above.Goals as goal

pub returns-clause-falls : goal.returns-clause-falls
returns-clause-falls c above = room_falls c.args.low.now c.args.high.now (λ k. (c.type_inv.low k).fits) (λ k. (c.type_inv.high k).fits) c.requires (sym c.is_below.ensures ∙ above)
