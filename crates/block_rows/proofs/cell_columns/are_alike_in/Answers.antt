use Rattle.std.proofs.Common.{◌-◌, arith, drop}
use Rattle.std.proofs.lemmas.List.{length-drop, length-take}
use Rattle.block_rows.proofs.CellColumnsLemmas.{column_end, column_within, same_bit, same_in_column}
use Rattle.row_page.specs.Row.{nulls_in}
use Rattle.block_rows.proofs.cell_columns.are_alike_in.Goals as goal

pub slice_bounds-is_same_value-count : goal.slice_bounds-is_same_value-count
slice_bounds-is_same_value-count c = omega (arith, column_end c.args.shape.now.columns.now c.args.column.now c.requires.column)

pub slice_bounds-is_same_value-start : goal.slice_bounds-is_same_value-start
slice_bounds-is_same_value-start c = omega (arith, column_end c.args.shape.now.columns.now c.args.column.now c.requires.column, column_within c.args.shape.now.columns.now c.args.column.now c.requires.column, c.requires.first)

pub slice_bounds-is_same_value-end : goal.slice_bounds-is_same_value-end
slice_bounds-is_same_value-end c = omega (arith, column_end c.args.shape.now.columns.now c.args.column.now c.requires.column, column_within c.args.shape.now.columns.now c.args.column.now c.requires.column, c.requires.first)

pub slice_bounds-is_same_value-count-2 : goal.slice_bounds-is_same_value-count-2
slice_bounds-is_same_value-count-2 c = omega (arith, column_end c.args.shape.now.columns.now c.args.column.now c.requires.column)

pub slice_bounds-is_same_value-start-2 : goal.slice_bounds-is_same_value-start-2
slice_bounds-is_same_value-start-2 c = omega (arith, column_end c.args.shape.now.columns.now c.args.column.now c.requires.column, column_within c.args.shape.now.columns.now c.args.column.now c.requires.column, c.requires.second)

pub slice_bounds-is_same_value-end-2 : goal.slice_bounds-is_same_value-end-2
slice_bounds-is_same_value-end-2 c = omega (arith, column_end c.args.shape.now.columns.now c.args.column.now c.requires.column, column_within c.args.shape.now.columns.now c.args.column.now c.requires.column, c.requires.second)

pub is_same_value-requires-clause-one : goal.is_same_value-requires-clause-one
is_same_value-requires-clause-one c =
    let s = c.args.column.now.start in
    let e = c.args.column.now.end in
    omega (arith, column_end c.args.shape.now.columns.now c.args.column.now c.requires.column, column_within c.args.shape.now.columns.now c.args.column.now c.requires.column, c.requires.first, length-take (e - s) (drop s c.args.first.now), length-drop s c.args.first.now)

pub is_same_value-requires-clause-other : goal.is_same_value-requires-clause-other
is_same_value-requires-clause-other c =
    let s = c.args.column.now.start in
    let e = c.args.column.now.end in
    omega (arith, column_end c.args.shape.now.columns.now c.args.column.now c.requires.column, column_within c.args.shape.now.columns.now c.args.column.now c.requires.column, c.requires.second, length-take (e - s) (drop s c.args.second.now), length-drop s c.args.second.now)

pub returns : goal.returns
returns c = λ yes.
    same_in_column c.args.shape.now.columns.now c.args.column.now c.requires.column c.args.first.now c.args.second.now
    (same_bit c.args.nulls c.args.others (nulls_in c.args.first.now) (nulls_in c.args.second.now) c.args.column.now.place c.requires.nulls c.requires.others c.if-nulls-others-eq1.false) (c.is_same_value.ensures yes)
