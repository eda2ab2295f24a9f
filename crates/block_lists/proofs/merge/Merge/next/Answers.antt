use Rattle.block_lists.proofs.FirstLemmas.{lists_left, slice_left}
use Rattle.block_lists.proofs.merge.Merge.next.Goals as goal

pub first_part-requires : goal.first_part-requires
first_part-requires c =
    slice_left c.as_slice.result.now c.as_slice-2.result.now c.self.inside.blocks_given c.self.inside.rids_given
    (lists_left c.as_slice.result.now c.as_slice-2.result.now c.self.inside.blocks_given c.self.inside.rids_given
    (record { blocks_rise = c.as_slice.ensures.rising; rids_rise = c.as_slice-2.ensures.rising; apart = rw (c.as_slice.ensures.value, c.as_slice-2.ensures.value) c.self.inside.lists.apart }))
