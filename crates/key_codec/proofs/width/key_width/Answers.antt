use Rattle.key_codec.proofs.KeyLemmas.{column_of_part, width_next}
use Rattle.key_codec.proofs.width.key_width.Goals as goal

pub type_of-requires : goal.type_of-requires
type_of-requires c = column_of_part c.args.columns.now c.args.parts.now c.as_slice-part-items.result.now c.loop-part.part-index _ c.as_slice-part-items.ensures c.requires.there c.loop-part-test.true

pub loop-part-preserved : goal.loop-part-preserved
loop-part-preserved c =
    width_next c.args.columns.now c.args.parts.now c.as_slice-part-items.result.now c.loop-part.part-index c.loop-part.total c.part_width-total.result _ c.type_of.result
    c.as_slice-part-items.ensures c.requires.there c.loop-part-test.true c.type_of.ensures c.part_width-total.ensures c.loop-part.invariant
