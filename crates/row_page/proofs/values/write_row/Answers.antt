-- The three parts of a row, one behind the other.
use Rattle.std.proofs.Common.{◌∙◌, ◌++◌, ap, length, arith}
use Rattle.byteorder.specs.Endian.{big_bytes}
use Rattle.row_page.specs.Row.{columns_bytes, null_bits, row_bytes}
use Rattle.row_page.proofs.RowLemmas.{length-fits_all, row_parts, row_width_of-ge}
use Rattle.row_page.proofs.values.write_row.Goals as goal

pub write_u64-requires : goal.write_u64-requires
write_u64-requires c = omega (arith, row_width_of-ge c.args.columns.now, c.requires.room)

pub write_values-nulls-requires-clause-same : goal.write_values-nulls-requires-clause-same
write_values-nulls-requires-clause-same c = ap length c.as_slice.ensures ∙ length-fits_all c.args.columns.now c.args.row.now.values c.requires.fits

pub write_nulls-requires : goal.write_nulls-requires
write_nulls-requires c = omega (arith, row_width_of-ge c.args.columns.now, c.requires.room, c.write_u64.auto.buf, c.write_values-nulls.auto.out)

pub returns-clause-bytes : goal.returns-clause-bytes
unfolding row_bytes
returns-clause-bytes c =
    row_parts c.args.row.now.number c.write_values-nulls.result c.args.out.now c.write_u64.new.buf (columns_bytes c.args.columns.now c.as_slice.result.now) c.write_values-nulls.new.out c.write_nulls.new.out
    (omega (arith, row_width_of-ge c.args.columns.now, c.requires.room)) c.write_u64.ensures c.write_values-nulls.ensures.bytes c.write_nulls.ensures
    ∙ (ap (λ n. big_bytes 8 c.args.row.now.number ++ big_bytes 2 n ++ columns_bytes c.args.columns.now c.as_slice.result.now) c.write_values-nulls.ensures.nulls
    ∙ ap (λ vs. big_bytes 8 c.args.row.now.number ++ big_bytes 2 (null_bits vs) ++ columns_bytes c.args.columns.now vs) c.as_slice.ensures)
