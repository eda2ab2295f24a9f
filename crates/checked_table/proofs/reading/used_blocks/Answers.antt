use Rattle.checked_table.proofs.EndingLemmas.{end_read, read_well}
use Rattle.checked_table.proofs.reading.used_blocks.Goals as goal

pub returns-in-Ok : goal.returns-in-Ok
returns-in-Ok g c =
    record { listed = c.in-Ok.ensures.listed; leaves = read_well c.args.shape c.args.def.now c.in-Ok.ensures.runs c.used_blocks.ensures.same c.requires.unmarked; brings = c.used_blocks.ensures.runs.brings }

pub returns-in-Err : goal.returns-in-Err
returns-in-Err g c =
    let judged = c.exact_fault.ensures in
    record { listed = tt; leaves = end_read c.in-Err.ensures.runs c.used_blocks.ensures.same judged.same judged.unmarked judged.steady judged.device judged.exact c.requires.defined c.requires.place; brings = tt }
