use Rattle.std.proofs.Common.{arith}
use Rattle.block_index.proofs.ListedCellsLemmas.{reads_next_entry}
use Rattle.block_index.proofs.listed_cells.take_cells.Goals as goal

pub loop-i-preserved : goal.loop-i-preserved
loop-i-preserved c =
    reads_next_entry c.args.def.now c.args.entries.now c.loop-i.i c.args.found.now c.loop-i.found c.push.new.self c.in_ok-cell.cell c.at.result.now (omega (arith, c.loop-i-test.true, c.len-i-end.ensures)) c.at.ensures
    c.in_ok-cell.ensures c.in_ok-push.ensures.ok c.loop-i.invariant
