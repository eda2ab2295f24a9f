use Rattle.std.proofs.Common.{inr, subst, ◌∙◌}
use Rattle.file_check.specs.BlockMapsJudged.{AreNoBlocksOf}
use Rattle.file_check.proofs.block_maps.list_blocks_of.Goals as goal

pub returns-clause-not : goal.returns-clause-not
returns-clause-not c is rises =
    let named = rw c.in-Some.is at c.in_ok-blocks.ensures in
    inr (subst (AreNoBlocksOf c.args.kinds.now c.args.table) (c.deref.ensures.value ∙ named.named) (c.are_blocks_of.ensures.not is))
