use Rattle.std.proofs.Common.{IsTrue, arith, ◌∙◌}
use Rattle.std.proofs.lemmas.List.{length-drop}
use Rattle.mdc_ast.specs.Truth.{value_at}
use Rattle.row_page.specs.Row.{row_in}
use Rattle.row_page.proofs.RowLemmas.{row_width_of-ge}
use Rattle.block_rows.specs.declared.cell_columns.CellColumn.{CellColumn}
use Rattle.block_rows.proofs.CellColumnsLemmas.{same_at}
use Rattle.block_rows.proofs.cell_columns.is_in_cell.Goals as goal

pub slice_bounds-read_u16-count : goal.slice_bounds-read_u16-count
slice_bounds-read_u16-count c = omega (arith, row_width_of-ge c.args.shape.now.columns.now, c.requires.row)

pub slice_bounds-read_u16-start : goal.slice_bounds-read_u16-start
slice_bounds-read_u16-start c = omega (arith, row_width_of-ge c.args.shape.now.columns.now, c.requires.row)

pub read_u16-nulls-requires : goal.read_u16-nulls-requires
read_u16-nulls-requires c = omega (arith, row_width_of-ge c.args.shape.now.columns.now, c.requires.row, length-drop 8 c.args.row.now)

pub returns-then-not-has_value : goal.returns-then-not-has_value
returns-then-not-has_value c = (
  λ no. absurd cc,
  λ all.
      let yes : IsTrue c.has_value.result = c.has_value.ensures.1
      (same_at (value_at (row_in c.args.shape.now.columns.now c.args.row.now).values) (λ (column : CellColumn). column.place) c.as_slice-values.result.now c.args.columns.now c.loop-i.i c.index-values-i.result _
      (c.as_slice-values.ensures ∙ all) c.loop-i-test.true c.index-values-i.is) in
      let no = c.if-not-has_value.true in
      absurd cc,
)
