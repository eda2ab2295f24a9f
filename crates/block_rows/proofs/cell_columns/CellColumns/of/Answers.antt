use Rattle.std.proofs.Common.{◌<◌, length, subst, sym}
use Rattle.std.specs.List.{AllByRecursion}
use Rattle.block_rows.proofs.CellColumnsLemmas.{dimension_there}
use Rattle.block_rows.proofs.cell_columns.CellColumns.of.Goals as goal

pub push_columns-requires-clause-there : goal.push_columns-requires-clause-there
push_columns-requires-clause-there c =
    subst (AllByRecursion (λ place. place < length c.args.def.now.columns)) (sym c.as_slice.ensures)
    (dimension_there c.args.def.now c.as_slice-dim-items.result.now c.loop-dim.dim-index c.dim-item.result c.requires.defined c.as_slice-dim-items.ensures c.loop-dim-test.true c.dim-item.is)
