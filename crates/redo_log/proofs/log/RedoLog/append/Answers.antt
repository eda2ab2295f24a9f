-- Where there is no room, nothing is called.
use Rattle.std.proofs.Common.{arith, length, refl}
use Rattle.redo_log.proofs.Calls.{log_logged, log_ends, log_added, still_only}
use Rattle.redo_log.proofs.Homing.{still_leaves}
use Rattle.redo_log.proofs.log.RedoLog.append.Goals as goal

pub returns-then-need-free-clause-leaves : goal.returns-then-need-free-clause-leaves
returns-then-need-free-clause-leaves g c = still_leaves c.args.self.now.gates c.args.images.now c.args.disk.now g.met.D.Disk.sound (log_logged c.args.self.now c.args.self.now.gates (g.D.Disk.file c.args.disk.now) refl c.requires.log)

pub returns-then-need-free-clause-only : goal.returns-then-need-free-clause-only
returns-then-need-free-clause-only g c = still_only c.args.self.now.gates (length c.args.images.now) c.args.disk.now g.met.D.Disk.sound (log_logged c.args.self.now c.args.self.now.gates (g.D.Disk.file c.args.disk.now) refl c.requires.log)

pub add_record-requires-clause-logged : goal.add_record-requires-clause-logged
add_record-requires-clause-logged g c = log_logged c.args.self.now c.from-gates.result (g.D.Disk.file c.args.disk.now) (omega arith) c.requires.log

pub add_record-requires-clause-ends : goal.add_record-requires-clause-ends
add_record-requires-clause-ends g c = log_ends c.args.self.now c.from-gates.result (g.D.Disk.file c.args.disk.now) (omega arith) c.requires.log

pub returns-clause-log : goal.returns-clause-log
returns-clause-log g c =
    log_added c.args.self.now _ c.from-gates.result c.args.images.now c.add_record.ensures.leaves c.in_ok-add_record.ensures.added (omega arith) c.requires.log (omega arith)
    (omega (arith, c.index_len.ensures.pages, c.len-number.ensures.len))
