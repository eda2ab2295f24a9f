use Rattle.std.proofs.Common.{rules, ◌∙◌, ◌+◌, drop, arith}
use Rattle.std.specs.Prelude.{flat_map}
use Rattle.mdc_values.specs.declared.value.Value.TheVariants.{Null}
use Rattle.cell_filter.proofs.CellsLemmas.{value_in_cell-behind, value_in_cell-here, value_in_cell-past}
use Rattle.cell_filter.proofs.cells.value_in_cell.Goals as goal

pub returns-then-at-len : goal.returns-then-at-len
returns-then-at-len c = c.loop-place.invariant.0 ∙ value_in_cell-past _ c.args.cell.now.values c.loop-place.at c.args.column (search (rules, arith))

pub returns-then-place-column : goal.returns-then-place-column
returns-then-place-column c =
    c.loop-place.invariant.0
    ∙ value_in_cell-here c.as_slice-place-items.result.now (flat_map (λ dim. dim) (drop (c.loop-dim.dim-index + 1) c.as_slice-dim-items.result.now)) c.args.cell.now.values
    c.loop-place.place-index c.loop-place.at c.args.column 0 c.at.result.now c.loop-place-test.true (omega (arith, c.if-at-len.false, c.len.ensures)) c.if-place-column.true c.at.ensures

pub loop-place-preserved : goal.loop-place-preserved
loop-place-preserved c = (
  c.loop-place.invariant.0
      ∙ value_in_cell-behind c.as_slice-place-items.result.now (flat_map (λ dim. dim) (drop (c.loop-dim.dim-index + 1) c.as_slice-dim-items.result.now)) c.args.cell.now.values
      c.loop-place.place-index c.loop-place.at c.args.column 0 Null c.loop-place-test.true (omega (arith, c.if-at-len.false, c.len.ensures)) c.if-place-column.false,
  omega (arith, c.if-at-len.false, c.len.ensures),
)
