use Rattle.std.proofs.Common.{arith}
use Rattle.file_check.proofs.CellsLemmas.{other_cell, share_cell}
use Rattle.file_check.proofs.cells.do_rows_share_cell.Goals as goal

pub returns-then-not-are_of_one_cell : goal.returns-then-not-are_of_one_cell
returns-then-not-are_of_one_cell c =
    other_cell c.args.def.now c.args.rows.now c.loop-place.place c.index-rows-0.result c.index-rows-place.result (omega (arith, c.loop-place.auto.place)) c.loop-place-test.true
    (λ same.
    let yes = c.are_of_one_cell.ensures.1 same in
    let wrong = c.if-not-are_of_one_cell.true in
    cc)

pub returns : goal.returns
returns c = share_cell c.args.def.now c.args.rows.now c.loop-place.place c.loop-place-test.false c.loop-place.invariant
