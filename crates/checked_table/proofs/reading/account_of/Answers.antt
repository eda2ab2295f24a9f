use Rattle.checked_table.proofs.EndingLemmas.{end_read, read_well}
use Rattle.checked_table.proofs.reading.account_of.Goals as goal

pub returns-in-Ok : goal.returns-in-Ok
returns-in-Ok g c =
    record { counts = c.in-Ok.ensures.counts; leaves = read_well c.args.shape c.args.def.now c.in-Ok.ensures.runs c.account_of.ensures.same c.requires.unmarked; brings = c.account_of.ensures.runs.brings }

pub returns-in-Err : goal.returns-in-Err
returns-in-Err g c =
    let judged = c.exact_fault.ensures in
    record { counts = tt; leaves = end_read c.in-Err.ensures.runs c.account_of.ensures.same judged.same judged.unmarked judged.steady judged.device judged.exact c.requires.defined c.requires.place; brings = tt }
