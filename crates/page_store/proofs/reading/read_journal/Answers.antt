-- A journal that was replayed lies within the file, so its start can be read.
use Rattle.std.proofs.Common.{sym, ◌∙◌, arith}
use Rattle.page_file.proofs.RunsLemmas.{runs_on}
use Rattle.page_store.proofs.reading.read_journal.Goals as goal

pub read_number-requires-clause-within : goal.read_number-requires-clause-within
read_number-requires-clause-within g c = λ file is.
    let found = rw c.in-Ok-Some.field-0-is at (c.in-Ok-Some.ensures.found file (sym c.replay.ensures.same ∙ is)) in
    omega (arith, found.1.behind_gates, found.1.within)

pub returns-in_err-start-in-Ok-Some-clause-runs : goal.returns-in_err-start-in-Ok-Some-clause-runs
returns-in_err-start-in-Ok-Some-clause-runs g c = runs_on c.replay.ensures.runs c.read_number.ensures.runs

pub returns-in-Ok-None-clause-counting : goal.returns-in-Ok-None-clause-counting
returns-in-Ok-None-clause-counting g c = λ file is. rw c.in-Ok-None.field-0-is at (c.in-Ok-None.ensures.found file is)

pub returns-in_ok-start-in-Ok-Some-clause-counting : goal.returns-in_ok-start-in-Ok-Some-clause-counting
returns-in_ok-start-in-Ok-Some-clause-counting g c = λ file is.
    let found = rw c.in-Ok-Some.field-0-is at (c.in-Ok-Some.ensures.found file is) in
    (found.0, found.1, found.2, c.in_ok-start-in-Ok-Some.ensures.number file (c.replay.ensures.same ∙ is))

pub returns-in_ok-start-in-Ok-Some-clause-runs : goal.returns-in_ok-start-in-Ok-Some-clause-runs
returns-in_ok-start-in-Ok-Some-clause-runs g c = runs_on c.replay.ensures.runs c.read_number.ensures.runs
