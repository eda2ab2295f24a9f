-- Each part is put behind those before it, and ends within the whole key.
use Rattle.std.proofs.Common.{◌+◌, ◌<◌, ◌-◌, ◌++◌, ◌≡◌, ◌∙◌, arith, drop, length, length-append, length-drop, take, ap, subst, sym}
use Rattle.std.specs.Prelude.{false, slice_get}
use Rattle.std.proofs.lemmas.List.{length-take}
use Rattle.key_codec.specs.Keys.{key_bytes, part_bytes, part_width}
use Rattle.key_codec.proofs.PartLemmas.{length-part_bytes}
use Rattle.table_trees.specs.TableTrees.{rising_parts}
use Rattle.table_trees.proofs.TableTreesLemmas.{place_within}
use Rattle.block_index.proofs.CellsLemmas.{put_behind, row_key_whole, row_keyed_next, row_part_within, row_value_fits}
use Rattle.block_index.proofs.keys.put_row_key.Goals as goal
use borrow.Rule.Slice.PartMut.{put_mid}

pub at-requires : goal.at-requires
at-requires c =
    subst (λ n. n < length c.args.columns.now) (sym c.from-place.ensures) (place_within c.args.columns.now c.args.places.now c.as_slice-place-items.result.now c.loop-place.place-index c.as_slice-place-items.ensures c.requires.parts.there c.loop-place-test.true)

pub put_part-requires-clause-room : goal.put_part-requires-clause-room
put_part-requires-clause-room c =
    let key = key_bytes c.args.columns.now (rising_parts c.args.places.now) c.args.values.now in
    let within = row_part_within c.args.columns.now c.args.values.now (take c.args.start c.args.out.now ++ key) c.as_slice-place-items.result.now c.loop-place.place-index (take c.loop-place.end c.loop-place.out) c.loop-place.invariant.0 c.loop-place-test.true
    c.at.result.now c.at-in-loop-place.result.now (ap (slice_get c.args.columns.now) (sym c.from-place.ensures) ∙ c.at.ensures) (ap (slice_get c.args.values.now) (sym c.from-place.ensures) ∙ c.at-in-loop-place.ensures) in
    omega (
      arith,
      within,
      length-append (take c.args.start c.args.out.now) key,
      length-take c.args.start c.args.out.now,
      length-take c.loop-place.end c.loop-place.out,
      length-take (length c.loop-place.out - c.loop-place.end) (drop c.loop-place.end c.loop-place.out),
      length-drop c.loop-place.end c.loop-place.out,
      c.loop-place.invariant.1,
      c.loop-place.auto.out,
      c.requires.room,
    )

pub loop-place-preserved : goal.loop-place-preserved
loop-place-preserved c =
    let key = key_bytes c.args.columns.now (rising_parts c.args.places.now) c.args.values.now in
    let ty = c.at.result.now.ty in
    let out = put_mid c.loop-place.end (length c.loop-place.out - c.loop-place.end) c.loop-place.out c.put_part.new.out in
    let column = ap (slice_get c.args.columns.now) (sym c.from-place.ensures) ∙ c.at.ensures in
    let value = ap (slice_get c.args.values.now) (sym c.from-place.ensures) ∙ c.at-in-loop-place.ensures in
    let fits = row_value_fits c.args.columns.now c.args.values.now (take c.args.start c.args.out.now ++ key) c.as_slice-place-items.result.now c.loop-place.place-index (take c.loop-place.end c.loop-place.out) c.loop-place.invariant.0 c.loop-place-test.true
    c.at.result.now c.at-in-loop-place.result.now column value in
    let wide = length-part_bytes ty false c.at-in-loop-place.result.now fits in
    let put : take (c.loop-place.end + c.from-end.result) out ≡ take c.loop-place.end c.loop-place.out ++ part_bytes ty false c.at-in-loop-place.result.now =
    ap (λ w. take (c.loop-place.end + w) out) (c.from-end.ensures ∙ c.part_width.ensures)
    ∙ put_behind c.loop-place.out c.put_part.new.out (part_bytes ty false c.at-in-loop-place.result.now) c.loop-place.end (part_width ty) c.loop-place.invariant.1 wide c.put_part.ensures in (
      row_keyed_next c.args.columns.now c.args.values.now (take c.args.start c.args.out.now ++ key) c.as_slice-place-items.result.now c.loop-place.place-index (take c.loop-place.end c.loop-place.out) c.loop-place.invariant.0 c.loop-place-test.true
          c.at.result.now c.at-in-loop-place.result.now column value (take (c.loop-place.end + c.from-end.result) out) put,
      omega (
        arith,
        ap length put,
        length-append (take c.loop-place.end c.loop-place.out) (part_bytes ty false c.at-in-loop-place.result.now),
        wide,
        length-take c.loop-place.end c.loop-place.out,
        length-take (c.loop-place.end + c.from-end.result) out,
        c.loop-place.invariant.1,
        c.from-end.ensures,
        c.part_width.ensures,
      ),
    )

pub returns-clause-end : goal.returns-clause-end
returns-clause-end c =
    let key = key_bytes c.args.columns.now (rising_parts c.args.places.now) c.args.values.now in
    let whole = row_key_whole c.args.columns.now c.args.values.now (take c.args.start c.args.out.now ++ key) c.as_slice-place-items.result.now c.loop-place.place-index (take c.loop-place.end c.loop-place.out) c.loop-place.invariant.0 c.loop-place-test.false in
    omega (arith, ap length whole, length-append (take c.args.start c.args.out.now) key, length-take c.args.start c.args.out.now, length-take c.loop-place.end c.loop-place.out, c.loop-place.invariant.1, c.requires.room)
