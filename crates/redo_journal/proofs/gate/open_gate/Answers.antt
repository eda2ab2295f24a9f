-- The byte that was written is the open gate's.
use Rattle.redo_journal.proofs.GateLemmas.{is_opened}
use Rattle.redo_journal.proofs.gate.open_gate.Goals as goal

pub returns-clause-open : goal.returns-clause-open
returns-clause-open g c = is_opened _ _ _ c.requires.ready c.set_gate.ensures.written
