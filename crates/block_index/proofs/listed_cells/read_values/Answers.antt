use Rattle.std.proofs.Common.{◌<◌, ap, length, subst, sym, ◌∙◌}
use Rattle.std.specs.Prelude.{slice_get}
use Rattle.std.proofs.lemmas.List.{take_rest}
use Rattle.table_trees.proofs.TableTreesLemmas.{place_within}
use Rattle.block_index.proofs.ListedCellsLemmas.{reads_next_place}
use Rattle.block_index.proofs.listed_cells.read_values.Goals as goal

pub at-requires : goal.at-requires
at-requires c =
    subst (λ n. n < length c.args.columns.now) (sym c.from.ensures) (place_within c.args.columns.now c.args.places.now c.as_slice-place-items.result.now c.loop-place.place-index c.as_slice-place-items.ensures c.requires.parts.there c.loop-place-test.true)

pub loop-place-preserved : goal.loop-place-preserved
loop-place-preserved c =
    reads_next_place c.args.columns.now c.args.places.now c.as_slice-place-items.result.now c.loop-place.place-index c.args.bytes.now c.loop-place.rest.now c.args.values.now c.loop-place.values c.loop-place.invariant c.requires.long
    c.as_slice-place-items.ensures c.requires.parts.there c.loop-place-test.true c.at.result.now (ap (slice_get c.args.columns.now) (sym c.from.ensures) ∙ c.at.ensures)
    c.from-in-loop-place.result (c.from-in-loop-place.ensures ∙ c.part_width.ensures) _ c.in_ok-value.value c.push.new.self c.in_ok-value.ensures c.in_ok-push.ensures.ok (take_rest c.loop-place.rest.now c.from-in-loop-place.result)
