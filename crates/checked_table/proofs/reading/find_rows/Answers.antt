use Rattle.checked_table.proofs.EndingLemmas.{end_read, read_well}
use Rattle.checked_table.proofs.reading.find_rows.Goals as goal

pub returns-in-Ok : goal.returns-in-Ok
returns-in-Ok g c =
    record { finds = c.in-Ok.ensures.finds; seen = c.in-Ok.ensures.seen; keyed = c.in-Ok.ensures.keyed; leaves = read_well c.args.shape c.args.def.now c.in-Ok.ensures.runs c.find_rows.ensures.same c.requires.unmarked; once = c.find_rows.ensures.once; brings = c.find_rows.ensures.runs.brings }

pub returns-in-Err : goal.returns-in-Err
returns-in-Err g c =
    let judged = c.exact_fault.ensures in
    record { finds = tt; seen = tt; keyed = tt; leaves = end_read c.in-Err.ensures.runs c.find_rows.ensures.same judged.same judged.unmarked judged.steady judged.device judged.exact c.requires.defined c.requires.place; once = tt; brings = tt }
