use Rattle.std.proofs.Common.{arith, false}
use Rattle.mdc_ast.proofs.FitsLemmas.{length-fits_all}
use Rattle.key_codec.proofs.KeyLemmas.{column_of_part, has_key_at}
use Rattle.key_codec.proofs.PutLemmas.{put_next, room_for_part}
use Rattle.key_codec.proofs.encoding.put_key.Goals as goal

pub type_of-ty-requires : goal.type_of-ty-requires
type_of-ty-requires c =
    column_of_part c.args.columns.now c.args.parts.now c.as_slice-part-items.result.now c.loop-part.part-index _ c.as_slice-part-items.ensures c.requires.parts.there c.loop-part-test.true

pub at-requires : goal.at-requires
at-requires c =
    let there = column_of_part c.args.columns.now c.args.parts.now c.as_slice-part-items.result.now c.loop-part.part-index (record { column = 0; descending = false }) c.as_slice-part-items.ensures c.requires.parts.there c.loop-part-test.true in
    omega (arith, there, length-fits_all c.args.columns.now c.args.values.now c.requires.fits)

pub put_part-requires-clause-within : goal.put_part-requires-clause-within
put_part-requires-clause-within c =
    let there = column_of_part c.args.columns.now c.args.parts.now c.as_slice-part-items.result.now c.loop-part.part-index (record { column = 0; descending = false }) c.as_slice-part-items.ensures c.requires.parts.there c.loop-part-test.true in
    has_key_at c.args.columns.now c.args.values.now _ c.type_of-ty.result c.at.result.now there c.requires.fits c.type_of-ty.ensures c.at.ensures

pub loop-part-preserved : goal.loop-part-preserved
loop-part-preserved c =
    put_next c.args.columns.now c.args.parts.now c.as_slice-part-items.result.now c.args.values.now c.args.out.now c.loop-part.out c.put_part.new.out c.loop-part.part-index c.loop-part.at c.part_width.result
    (record { column = 0; descending = false }) c.type_of-ty.result c.at.result.now
    c.loop-part.invariant c.loop-part-test.true c.requires.fits c.type_of-ty.ensures c.at.ensures c.part_width.ensures
    (omega (arith, c.requires.room, c.loop-part.auto.out)) c.put_part.ensures

pub put_part-requires-clause-room : goal.put_part-requires-clause-room
put_part-requires-clause-room c =
    room_for_part c.args.columns.now c.args.parts.now c.as_slice-part-items.result.now c.args.values.now c.args.out.now c.loop-part.out c.loop-part.part-index c.loop-part.at
    (record { column = 0; descending = false }) c.type_of-ty.result c.loop-part.invariant c.loop-part-test.true c.type_of-ty.ensures (omega (arith, c.requires.room, c.loop-part.auto.out))
