-- Where no record counts, nothing is called.
use Rattle.std.proofs.Common.{arith, refl}
use Rattle.redo_log.proofs.Calls.{log_logged, log_emptied, still_none, still_stands, still_home}
use Rattle.redo_log.proofs.log.RedoLog.checkpoint.Goals as goal

pub bring_home-requires-clause-logged : goal.bring_home-requires-clause-logged
bring_home-requires-clause-logged g c = log_logged c.args.self.now c.from-gates.result (g.D.Disk.file c.args.disk.now) (omega arith) c.requires.log

pub returns-then-gates-eq0-clause-emptied : goal.returns-then-gates-eq0-clause-emptied
returns-then-gates-eq0-clause-emptied g c = still_none c.args.self.now (g.D.Disk.file c.args.disk.now) (omega arith) c.requires.log

pub returns-then-gates-eq0-clause-leaves : goal.returns-then-gates-eq0-clause-leaves
returns-then-gates-eq0-clause-leaves g c = still_stands c.args.self.now.gates c.args.disk.now g.met.D.Disk.sound (log_logged c.args.self.now c.args.self.now.gates (g.D.Disk.file c.args.disk.now) refl c.requires.log)

pub returns-then-gates-eq0-clause-only : goal.returns-then-gates-eq0-clause-only
returns-then-gates-eq0-clause-only g c = still_home c.args.self.now.gates c.args.disk.now g.met.D.Disk.sound (log_logged c.args.self.now c.args.self.now.gates (g.D.Disk.file c.args.disk.now) refl c.requires.log)

pub returns-clause-log : goal.returns-clause-log
returns-clause-log g c = log_emptied c.from-gates.result _ c.bring_home.ensures.leaves c.in_ok-bring_home.ensures.emptied refl refl
