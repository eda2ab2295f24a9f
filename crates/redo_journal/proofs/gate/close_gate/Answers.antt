-- The byte that was written is not the open gate's.
use Rattle.redo_journal.proofs.GateLemmas.{is_closed}
use Rattle.redo_journal.proofs.gate.close_gate.Goals as goal

pub returns-clause-closed : goal.returns-clause-closed
returns-clause-closed g c = is_closed _ _ _ c.requires.ready c.set_gate.ensures.written
