-- The first i values are written and have their bits.
use Rattle.std.proofs.Common.{◌≡◌, ◌<◌, ◌+◌, ◌∙◌, ◌++◌, Bool, true, false, refl, cond, length, take, drop, ap, sym, arith}
use mir.Val.{bool_byte}
use Rattle.row_page.specs.Row.{columns_bytes}
use Rattle.row_page.proofs.RowLemmas.{row_width_of-step, fits_all-step, columns_bytes-more, columns_bytes-all, null_bits-all, null_bits-more}
use Rattle.row_page.proofs.values.write_values.Goals as goal

one : (b : Bool) → bool_byte b ≡ cond b 1 0
one true = refl
one false = refl

pub loop-i-init : goal.loop-i-init
loop-i-init c = record {
  written = refl;
  bits = omega arith;
  room = omega (arith, c.requires.room);
  fits = c.requires.fits;
}

pub overflow_add-nulls : goal.overflow_add-nulls
overflow_add-nulls c =
    let more = null_bits-more c.args.values.now c.loop-i.i c.loop-i.nulls c.from.result c.index-values-i.result (omega (arith, c.loop-i-test.true, c.requires.same)) (omega (arith, c.requires.same, c.requires.few))
    c.index-values-i.is (c.from.ensures ∙ (one c.is_null.result ∙ ap (λ b. cond b 1 0) c.is_null.ensures)) c.loop-i.invariant.bits in
    omega (arith, more.0)

pub write_value_at-at-requires-clause-room : goal.write_value_at-at-requires-clause-room
write_value_at-at-requires-clause-room c =
    (row_width_of-step c.args.columns.now c.loop-i.i c.loop-i.at _ (length c.loop-i.out) c.index-columns-i.result c.loop-i-test.true c.index-columns-i.is refl c.loop-i.invariant.room).0

pub write_value_at-at-requires-clause-typed : goal.write_value_at-at-requires-clause-typed
write_value_at-at-requires-clause-typed c =
    (fits_all-step c.args.columns.now c.args.values.now c.loop-i.i c.index-columns-i.result c.index-values-i.result
    c.loop-i-test.true (omega (arith, c.requires.same)) c.index-columns-i.is c.index-values-i.is c.loop-i.invariant.fits).0

pub loop-i-preserved : goal.loop-i-preserved
loop-i-preserved c =
    let so = c.loop-i.invariant in
    let lt = c.loop-i-test.true in
    let below : c.loop-i.i < length c.args.values.now = omega (arith, lt, c.requires.same) in
    let room = row_width_of-step c.args.columns.now c.loop-i.i c.loop-i.at _ (length c.loop-i.out) c.index-columns-i.result lt c.index-columns-i.is refl so.room in
    let end = c.write_value_at-at.ensures.end in
    record {
      written = columns_bytes-more c.args.columns.now c.args.values.now c.loop-i.i c.loop-i.at _ c.loop-i.out c.write_value_at-at.new.out _ c.index-columns-i.result c.index-values-i.result
          lt below c.index-columns-i.is c.index-values-i.is refl room.0 so.fits c.write_value_at-at.ensures.bytes so.written
          ∙ ap (λ n. take n c.write_value_at-at.new.out ++ columns_bytes (drop (c.loop-i.i + 1) c.args.columns.now) (drop (c.loop-i.i + 1) c.args.values.now)) (sym end);
      bits = (null_bits-more c.args.values.now c.loop-i.i c.loop-i.nulls c.from.result c.index-values-i.result below (omega (arith, c.requires.same, c.requires.few))
          c.index-values-i.is (c.from.ensures ∙ (one c.is_null.result ∙ ap (λ b. cond b 1 0) c.is_null.ensures)) so.bits).1;
      room = omega (arith, end, room.1, c.write_value_at-at.auto.out);
      fits = (fits_all-step c.args.columns.now c.args.values.now c.loop-i.i c.index-columns-i.result c.index-values-i.result lt below c.index-columns-i.is c.index-values-i.is so.fits).1;
    }

pub returns-clause-bytes : goal.returns-clause-bytes
returns-clause-bytes c = columns_bytes-all c.args.columns.now c.args.values.now c.loop-i.i c.loop-i.at c.loop-i.out _ c.loop-i-test.false c.loop-i.invariant.room c.loop-i.invariant.written

pub returns-clause-nulls : goal.returns-clause-nulls
returns-clause-nulls c = null_bits-all c.args.values.now c.loop-i.i c.loop-i.nulls (omega (arith, c.loop-i-test.false, c.requires.same)) c.loop-i.invariant.bits
