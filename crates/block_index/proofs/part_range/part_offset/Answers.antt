use Rattle.std.proofs.Common.{◌<◌, ap, arith, length, subst, sym, ◌∙◌}
use Rattle.std.specs.Prelude.{slice_get}
use Rattle.table_trees.specs.TableTrees.{rising_parts}
use Rattle.table_trees.proofs.TableTreesLemmas.{narrow_enough, place_within}
use Rattle.block_index.proofs.SpansLemmas.{offset_next, offset_short}
use Rattle.block_index.proofs.part_range.part_offset.Goals as goal

pub at-requires : goal.at-requires
at-requires c =
    subst (λ n. n < length c.args.columns.now) (sym c.from.ensures) (place_within c.args.columns.now c.args.places.now c.as_slice-place-items.result.now c.loop-place.place-index c.as_slice-place-items.ensures c.requires.there c.loop-place-test.true)

pub overflow_add-at : goal.overflow_add-at
overflow_add-at c =
    omega (
      arith,
      c.loop-place.invariant,
      c.from-at.ensures,
      offset_next c.args.columns.now c.as_slice-place-items.result.now c.loop-place.place-index c.args.column c.part_width.result c.at.result.now c.loop-place-test.true c.if-place-column.false
          (ap (slice_get c.args.columns.now) (sym c.from.ensures) ∙ c.at.ensures) c.part_width.ensures,
      offset_short c.args.columns.now c.args.places.now c.args.column c.requires.there,
      narrow_enough c.args.columns.now (rising_parts c.args.places.now) c.requires,
    )

pub loop-place-preserved : goal.loop-place-preserved
loop-place-preserved c =
    omega (
      arith,
      c.loop-place.invariant,
      c.from-at.ensures,
      offset_next c.args.columns.now c.as_slice-place-items.result.now c.loop-place.place-index c.args.column c.part_width.result c.at.result.now c.loop-place-test.true c.if-place-column.false
          (ap (slice_get c.args.columns.now) (sym c.from.ensures) ∙ c.at.ensures) c.part_width.ensures,
    )
