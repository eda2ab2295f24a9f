-- A read or nothing at all.
use Rattle.std.proofs.Common.{rules}
use Rattle.redo_journal.proofs.replaying.is_gate_open.Goals as goal
use Rattle.redo_journal.proofs.replaying.is_gate_open.Goals.{then-end-gt-GATE+in_ok-get, else-end-gt-GATE}

pub returns-clause-runs : goal.returns-clause-runs
returns-clause-runs g c = elim c.if-end-gt-GATE.branch [
  | then-end-gt-GATE+in_ok-get w ↦ rw w.disk-is w.get.ensures.runs
  | else-end-gt-GATE w ↦ rw w.disk-is (search rules)
]
