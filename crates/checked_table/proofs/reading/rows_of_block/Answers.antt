use Rattle.checked_table.proofs.EndingLemmas.{end_block_read, exact_where, read_well}
use Rattle.checked_table.proofs.reading.rows_of_block.Goals as goal

pub returns-in-Ok : goal.returns-in-Ok
returns-in-Ok g c =
    record { rows = c.in-Ok.ensures.rows; keyed = c.in-Ok.ensures.keyed; leaves = exact_where (read_well c.args.shape c.args.def.now c.in-Ok.ensures.runs c.rows_of_used_block.ensures.same c.requires.unmarked); once = c.rows_of_used_block.ensures.once }

pub returns-in-Err : goal.returns-in-Err
returns-in-Err g c =
    let judged = c.exact_fault.ensures in
    record { rows = tt; keyed = tt; leaves = end_block_read c.in-Err.ensures.runs c.rows_of_used_block.ensures.same judged.same judged.unmarked judged.steady judged.device judged.exact c.requires.defined c.requires.place; once = tt }
