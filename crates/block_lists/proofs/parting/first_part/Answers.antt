use Rattle.block_lists.proofs.FirstLemmas.{behind_none, behind_some, blocks_behind_none, blocks_behind_some, first_slots, first_whole}
use Rattle.block_lists.proofs.parting.first_part.Goals as goal

pub returns-then-block-rid : goal.returns-then-block-rid
returns-then-block-rid c =
    first_whole c.args.blocks.now c.args.rids.now c.in-Some-Some.block.now c.whole.result c.requires c.in-Some-Some.ensures.value c.whole.ensures.block c.whole.ensures.slots
    (behind_some c.in-Some-Some.block.now c.args.rids.now c.in-Some-Some.rid.now c.in-Some-Some.ensures'.value c.if-block-rid.true)

pub returns-in_ok-slots_of-in-Some-Some : goal.returns-in_ok-slots_of-in-Some-Some
returns-in_ok-slots_of-in-Some-Some c =
    first_slots c.args.blocks.now c.args.rids.now c.in-Some-Some.rid.now c.in_ok-slots_of-in-Some-Some.field-0
    (blocks_behind_some c.args.blocks.now c.args.rids.now c.in-Some-Some.block.now c.in-Some-Some.rid.now c.requires c.in-Some-Some.ensures.value c.in-Some-Some.ensures'.value c.if-block-rid.false)
    c.in-Some-Some.ensures'.value c.in_ok-slots_of-in-Some-Some.ensures

pub returns-in-Some-None : goal.returns-in-Some-None
returns-in-Some-None c =
    first_whole c.args.blocks.now c.args.rids.now c.in-Some-None.block.now c.whole-in-Some-None.result c.requires c.in-Some-None.ensures.value c.whole-in-Some-None.ensures.block c.whole-in-Some-None.ensures.slots
    (behind_none c.in-Some-None.block.now c.args.rids.now c.in-Some-None.ensures'.value)

pub returns-in_ok-slots_of-in-None-Some : goal.returns-in_ok-slots_of-in-None-Some
returns-in_ok-slots_of-in-None-Some c =
    first_slots c.args.blocks.now c.args.rids.now c.in-None-Some.rid.now c.in_ok-slots_of-in-None-Some.field-0
    (blocks_behind_none c.args.blocks.now c.in-None-Some.rid.now c.in-None-Some.ensures.value)
    c.in-None-Some.ensures'.value c.in_ok-slots_of-in-None-Some.ensures
