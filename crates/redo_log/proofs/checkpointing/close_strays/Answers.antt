-- The write tears gates behind one that isn't open.
use Rattle.redo_log.proofs.Strays.{strays_leave, strays_closed, end_within}
use Rattle.redo_log.proofs.checkpointing.close_strays.Goals as goal

pub close_above-requires-clause-within : goal.close_above-requires-clause-within
close_above-requires-clause-within g c = end_within c.args.end (g.D.Disk.file c.args.disk.now) c.requires.ends

pub returns-clause-leaves : goal.returns-clause-leaves
returns-clause-leaves g c = strays_leave c.args.n c.args.end g.met.D.Disk.sound c.requires.synced c.requires.has c.requires.ends c.requires.from c.close_above.ensures.runs

pub returns-clause-closed : goal.returns-clause-closed
returns-clause-closed g c = strays_closed c.close_above.result c.args.n c.args.end g.met.D.Disk.sound c.requires.synced c.requires.has c.requires.ends c.requires.from c.close_above.ensures.runs c.close_above.ensures.written
