use Rattle.std.proofs.Common.{◌-◌, arith, drop, length}
use Rattle.std.proofs.lemmas.List.{length-drop, length-take}
use Rattle.row_page.proofs.RowLemmas.{row_width_of-ge}
use Rattle.block_rows.proofs.cell_columns.are_alike.Goals as goal

pub slice_bounds-read_u16-count : goal.slice_bounds-read_u16-count
slice_bounds-read_u16-count c = omega (arith, row_width_of-ge c.args.shape.now.columns.now, c.requires.row, c.if-first-second.false)

pub slice_bounds-read_u16-start : goal.slice_bounds-read_u16-start
slice_bounds-read_u16-start c = omega (arith, row_width_of-ge c.args.shape.now.columns.now, c.requires.row, c.if-first-second.false)

pub read_u16-nulls-requires : goal.read_u16-nulls-requires
read_u16-nulls-requires c = omega (arith, row_width_of-ge c.args.shape.now.columns.now, c.requires.row, c.if-first-second.false, length-take (length c.args.first.now - 8) (drop 8 c.args.first.now), length-drop 8 c.args.first.now)

pub slice_bounds-read_u16-count-2 : goal.slice_bounds-read_u16-count-2
slice_bounds-read_u16-count-2 c = omega (arith, row_width_of-ge c.args.shape.now.columns.now, c.requires.row)

pub slice_bounds-read_u16-start-2 : goal.slice_bounds-read_u16-start-2
slice_bounds-read_u16-start-2 c = omega (arith, row_width_of-ge c.args.shape.now.columns.now, c.requires.row)

pub read_u16-others-requires : goal.read_u16-others-requires
read_u16-others-requires c = omega (arith, row_width_of-ge c.args.shape.now.columns.now, c.requires.row, length-take (length c.args.second.now - 8) (drop 8 c.args.second.now), length-drop 8 c.args.second.now)
