use Rattle.std.proofs.Common.{◌<◌, length, subst, sym}
use Rattle.std.specs.List.{AllByRecursion}
use Rattle.block_rows.proofs.CellColumnsLemmas.{dimension_there}
use Rattle.block_rows.proofs.seats.is_of_cell.Goals as goal

pub are_same_in-requires-clause-there : goal.are_same_in-requires-clause-there
are_same_in-requires-clause-there c =
    subst (λ columns. AllByRecursion (λ place. place < length columns) c.as_slice.result.now) (sym c.requires.columns)
    (subst (AllByRecursion (λ place. place < length c.args.def.now.columns)) (sym c.as_slice.ensures)
    (dimension_there c.args.def.now c.as_slice-dim-items.result.now c.loop-dim.dim-index c.dim-item.result c.requires.defined c.as_slice-dim-items.ensures c.loop-dim-test.true c.dim-item.is))
