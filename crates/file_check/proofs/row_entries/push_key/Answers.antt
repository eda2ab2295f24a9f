use Rattle.std.proofs.Common.{◌<◌, length, sym, subst}
use Rattle.key_codec.proofs.KeyLemmas.{column_of_part}
use Rattle.file_check.proofs.RowEntriesLemmas.{read_part_has_key}
use Rattle.file_check.proofs.row_entries.push_key.Goals as goal

pub at-requires : goal.at-requires
at-requires c =
    subst (λ n. n < length c.args.columns.now) (sym c.from-place.ensures)
    (column_of_part c.args.columns.now c.args.parts.now c.as_slice-part-items.result.now c.loop-part.part-index _ c.as_slice-part-items.ensures c.requires.parts.there c.loop-part-test.true)

pub at-requires-in-loop-part : goal.at-requires-in-loop-part
at-requires-in-loop-part c =
    (c.requires.read.each c.from-place.result (subst (λ n. n < length c.args.columns.now) (sym c.from-place.ensures)
    (column_of_part c.args.columns.now c.args.parts.now c.as_slice-part-items.result.now c.loop-part.part-index _ c.as_slice-part-items.ensures c.requires.parts.there c.loop-part-test.true))).0

pub push_key_part-requires : goal.push_key_part-requires
push_key_part-requires c =
    read_part_has_key c.args.columns.now c.args.row.now c.from-place.result c.at.result.now c.at-in-loop-part.result.now c.requires.read
    (subst (λ n. n < length c.args.columns.now) (sym c.from-place.ensures)
    (column_of_part c.args.columns.now c.args.parts.now c.as_slice-part-items.result.now c.loop-part.part-index _ c.as_slice-part-items.ensures c.requires.parts.there c.loop-part-test.true))
    c.at.ensures c.at-in-loop-part.ensures
