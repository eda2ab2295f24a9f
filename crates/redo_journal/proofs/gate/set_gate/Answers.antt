-- The write tears the byte of the gate, and the sync nothing.
use Rattle.mdc_outside.specs.Disk.{torn}
use Rattle.redo_journal.proofs.TornLemmas.{runs_leave_front, front_torn_gate}
use Rattle.page_file.proofs.RunsLemmas.{runs_within, runs_then_settle}
use Rattle.page_file.specs.declared.layout.TheConstants.{GATE}
use Rattle.redo_journal.proofs.gate.set_gate.Goals as goal

pub returns-in_err-put-clause-runs : goal.returns-in_err-put-clause-runs
returns-in_err-put-clause-runs g c = runs_within c.put.ensures.runs

pub returns-clause-runs : goal.returns-clause-runs
returns-clause-runs g c = runs_then_settle c.put.ensures.runs c.settle.ensures.runs

pub returns-in_err-put-clause-front : goal.returns-in_err-put-clause-front
returns-in_err-put-clause-front g c = runs_leave_front (torn GATE 1) front_torn_gate g.met.D.Disk.sound c.requires.ready (returns-in_err-put-clause-runs g c)

pub returns-clause-front : goal.returns-clause-front
returns-clause-front g c = runs_leave_front (torn GATE 1) front_torn_gate g.met.D.Disk.sound c.requires.ready (returns-clause-runs g c)
