use Rattle.checked_table.proofs.EndingLemmas.{end_read, read_well}
use Rattle.checked_table.proofs.reading.row_at.Goals as goal

pub returns-in-Ok : goal.returns-in-Ok
returns-in-Ok g c =
    record { found = c.in-Ok.ensures.found; keyed = c.in-Ok.ensures.keyed; leaves = read_well c.args.shape c.args.def.now c.in-Ok.ensures.runs c.row_at.ensures.same c.requires.unmarked; brings = c.row_at.ensures.runs.brings }

pub returns-in-Err : goal.returns-in-Err
returns-in-Err g c =
    let judged = c.exact_fault.ensures in
    record { found = tt; keyed = tt; leaves = end_read c.in-Err.ensures.runs c.row_at.ensures.same judged.same judged.unmarked judged.steady judged.device judged.exact c.requires.defined c.requires.place; brings = tt }
