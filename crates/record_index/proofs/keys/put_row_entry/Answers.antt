use Rattle.std.proofs.Common.{◌++◌, ap, arith, sym, ◌∙◌}
use Rattle.byteorder.specs.Endian.{big_bytes}
use Rattle.byteorder.specs.Numbers.{length-bytes_high_first}
use Rattle.key_codec.specs.Keys.{key_bytes}
use Rattle.block_index.proofs.CellsLemmas.{put_behind}
use Rattle.block_index.specs.Numbered.{numbered}
use Rattle.record_index.proofs.UnderKeyLemmas.{entry_of_place}
use Rattle.record_index.proofs.keys.put_row_entry.Goals as goal

pub returns-clause-entry : goal.returns-clause-entry
returns-clause-entry c =
    let key = key_bytes c.args.columns.now c.args.parts.now c.args.values.now in
    let end = c.put_row_key-end.result in
    let bytes = big_bytes 6 c.rid_number.result in
    put_behind c.put_row_key-end.new.out c.write_uint.new.buf bytes end 6 (omega (arith, c.put_row_key-end.ensures.end, c.requires.room, c.put_row_key-end.auto.out)) (length-bytes_high_first 6 c.rid_number.result) c.write_uint.ensures
    ∙ (ap (λ front. front ++ bytes) c.put_row_key-end.ensures.key
    ∙ (ap (numbered 6 key) c.rid_number.ensures.number ∙ sym (entry_of_place key c.args.rid (omega (arith, c.rid_number.ensures.place.slot)))))
