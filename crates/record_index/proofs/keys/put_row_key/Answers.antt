-- Each part is put behind those before it, and ends within the whole key.
use Rattle.std.proofs.Common.{false, refl, ◌+◌, ◌-◌, ◌++◌, ◌≡◌, ◌∙◌, arith, drop, length, length-append, length-drop, take, ap, sym}
use Rattle.std.specs.Prelude.{slice_get, slice_index_or as get_or}
use Rattle.mdc_ast.specs.declared.definition.KeyPart.{KeyPart}
use Rattle.std.proofs.lemmas.List.{length-take}
use Rattle.key_codec.specs.Keys.{key_bytes, part_bytes, part_width}
use Rattle.key_codec.proofs.PartLemmas.{length-part_bytes}
use Rattle.block_index.proofs.CellsLemmas.{put_behind}
use Rattle.record_index.proofs.KeysLemmas.{key_whole, keyed_next, part_within, value_fits}
use Rattle.record_index.proofs.keys.put_row_key.Goals as goal
use borrow.Rule.Slice.PartMut.{put_mid}

pub put_part-requires-clause-room : goal.put_part-requires-clause-room
put_part-requires-clause-room c =
    let key = key_bytes c.args.columns.now c.args.parts.now c.args.values.now in
    let within = part_within c.args.columns.now c.args.values.now key c.as_slice-part-items.result.now c.loop-part.part-index (take c.loop-part.end c.loop-part.out) (record { column = 0; descending = false }) _ c.loop-part.invariant.0 c.loop-part-test.true refl
    c.at.result.now c.at-in-loop-part.result.now (ap (slice_get c.args.columns.now) (sym c.from-place.ensures) ∙ c.at.ensures) (ap (slice_get c.args.values.now) (sym c.from-place.ensures) ∙ c.at-in-loop-part.ensures) in
    omega (
      arith,
      within,
      length-take c.loop-part.end c.loop-part.out,
      length-take (length c.loop-part.out - c.loop-part.end) (drop c.loop-part.end c.loop-part.out),
      length-drop c.loop-part.end c.loop-part.out,
      c.loop-part.invariant.1,
      c.loop-part.auto.out,
      c.requires.room,
    )

pub loop-part-preserved : goal.loop-part-preserved
loop-part-preserved c =
    let key = key_bytes c.args.columns.now c.args.parts.now c.args.values.now in
    let ty = c.at.result.now.ty in
    let part : KeyPart = get_or c.as_slice-part-items.result.now c.loop-part.part-index (record { column = 0; descending = false }) in
    let bytes = part_bytes ty part.descending c.at-in-loop-part.result.now in
    let out = put_mid c.loop-part.end (length c.loop-part.out - c.loop-part.end) c.loop-part.out c.put_part.new.out in
    let column = ap (slice_get c.args.columns.now) (sym c.from-place.ensures) ∙ c.at.ensures in
    let value = ap (slice_get c.args.values.now) (sym c.from-place.ensures) ∙ c.at-in-loop-part.ensures in
    let fits = value_fits c.args.columns.now c.args.values.now key c.as_slice-part-items.result.now c.loop-part.part-index (take c.loop-part.end c.loop-part.out) (record { column = 0; descending = false }) _ c.loop-part.invariant.0 c.loop-part-test.true refl
    c.at.result.now c.at-in-loop-part.result.now column value in
    let wide = length-part_bytes ty part.descending c.at-in-loop-part.result.now fits in
    let put : take (c.loop-part.end + c.from-end.result) out ≡ take c.loop-part.end c.loop-part.out ++ bytes =
    ap (λ w. take (c.loop-part.end + w) out) (c.from-end.ensures ∙ c.part_width.ensures)
    ∙ put_behind c.loop-part.out c.put_part.new.out bytes c.loop-part.end (part_width ty) c.loop-part.invariant.1 wide c.put_part.ensures in (
      keyed_next c.args.columns.now c.args.values.now key c.as_slice-part-items.result.now c.loop-part.part-index (take c.loop-part.end c.loop-part.out) (record { column = 0; descending = false }) _ c.loop-part.invariant.0 c.loop-part-test.true refl
          c.at.result.now c.at-in-loop-part.result.now column value (take (c.loop-part.end + c.from-end.result) out) put,
      omega (
        arith,
        ap length put,
        length-append (take c.loop-part.end c.loop-part.out) bytes,
        wide,
        length-take c.loop-part.end c.loop-part.out,
        length-take (c.loop-part.end + c.from-end.result) out,
        c.loop-part.invariant.1,
        c.from-end.ensures,
        c.part_width.ensures,
      ),
    )

pub returns-clause-key : goal.returns-clause-key
returns-clause-key c =
    key_whole c.args.columns.now c.args.values.now (key_bytes c.args.columns.now c.args.parts.now c.args.values.now) c.as_slice-part-items.result.now c.loop-part.part-index (take c.loop-part.end c.loop-part.out) c.loop-part.invariant.0 c.loop-part-test.false

pub returns-clause-end : goal.returns-clause-end
returns-clause-end c =
    let key = key_bytes c.args.columns.now c.args.parts.now c.args.values.now in
    let whole = key_whole c.args.columns.now c.args.values.now key c.as_slice-part-items.result.now c.loop-part.part-index (take c.loop-part.end c.loop-part.out) c.loop-part.invariant.0 c.loop-part-test.false in
    omega (arith, ap length whole, length-take c.loop-part.end c.loop-part.out, c.loop-part.invariant.1)
