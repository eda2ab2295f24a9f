use Rattle.std.proofs.Common.{◌++◌, map, subst}
use Rattle.mdc_values.specs.Rising.{IsEarlier, IsRising}
use Rattle.block_lists.specs.Parts.{rid_at}
use Rattle.block_lists.proofs.FirstLemmas.{slot_behind}
use Rattle.block_lists.proofs.parting.slots_of.Goals as goal

pub push-requires : goal.push-requires
push-requires c =
    slot_behind c.args.block c.loop-rid.slots c.in-Some.rid.now c.in-Some.rest.now c.if-rid-block.false
    (subst (λ left. IsRising IsEarlier (map (rid_at c.args.block) c.loop-rid.slots ++ left)) c.in-Some.ensures.cases.0 (subst (IsRising IsEarlier) c.loop-rid.invariant c.requires))
