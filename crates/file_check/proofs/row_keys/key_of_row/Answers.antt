use Rattle.std.proofs.Common.{arith, false}
use Rattle.key_codec.proofs.KeyLemmas.{column_of_part}
use Rattle.file_check.proofs.RowKeysLemmas.{has_key_at_part}
use Rattle.file_check.proofs.row_keys.key_of_row.Goals as goal

pub at-requires : goal.at-requires
at-requires c =
    let there = column_of_part c.args.columns.now c.args.parts.now c.as_slice-part-items.result.now c.loop-part.part-index (record { column = 0; descending = false }) c.as_slice-part-items.ensures c.requires.parts.there c.loop-part-test.true in
    omega (arith, there, c.from-place.ensures)

pub at-requires-in-loop-part : goal.at-requires-in-loop-part
at-requires-in-loop-part c =
    let there = column_of_part c.args.columns.now c.args.parts.now c.as_slice-part-items.result.now c.loop-part.part-index (record { column = 0; descending = false }) c.as_slice-part-items.ensures c.requires.parts.there c.loop-part-test.true in
    (c.requires.keyed.each c.from-place.result (omega (arith, there, c.from-place.ensures))).0

pub push_key_part-requires : goal.push_key_part-requires
push_key_part-requires c =
    let there = column_of_part c.args.columns.now c.args.parts.now c.as_slice-part-items.result.now c.loop-part.part-index (record { column = 0; descending = false }) c.as_slice-part-items.ensures c.requires.parts.there c.loop-part-test.true in
    has_key_at_part c.args.columns.now c.args.row.now c.from-place.result c.at.result.now c.at-in-loop-part.result.now c.requires.keyed (omega (arith, there, c.from-place.ensures)) c.at.ensures c.at-in-loop-part.ensures
