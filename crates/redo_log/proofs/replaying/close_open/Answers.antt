-- Where no gate is open behind the records, nothing is called.
use Rattle.std.proofs.Common.{arith}
use Rattle.redo_log.proofs.Finds.{counts_read, gates_end, none_to_close, stray_fits, strays_rest, strays_shut, shut_leaves}
use Rattle.redo_log.proofs.replaying.close_open.Goals as goal

pub close_strays-requires-clause-has : goal.close_strays-requires-clause-has
close_strays-requires-clause-has g c = counts_read c.args.n c.args.gates.now (g.D.Disk.file c.args.disk.now) c.requires.read c.requires.count

pub close_strays-requires-clause-ends : goal.close_strays-requires-clause-ends
close_strays-requires-clause-ends g c = gates_end _ c.args.size (g.D.Disk.file c.args.disk.now) c.requires.size (omega arith)

pub close_strays-requires-clause-from : goal.close_strays-requires-clause-from
close_strays-requires-clause-from g c =
    let fits = stray_fits c.args.n c.args.size c.args.gates.now c.requires.count c.requires.few c.requires.behind (c.has_open.ensures.some c.if-has_open.true) in
    omega (arith, fits)

pub returns-then-has_open-clause-closed : goal.returns-then-has_open-clause-closed
returns-then-has_open-clause-closed g c = strays_shut c.close_strays.result c.args.n c.args.gates.now (g.D.Disk.file c.args.disk.now) (g.D.Disk.file c.close_strays.new.disk) c.requires.read (c.has_open.ensures.some c.if-has_open.true) c.close_strays.ensures.closed

pub returns-then-has_open-clause-leaves : goal.returns-then-has_open-clause-leaves
returns-then-has_open-clause-leaves g c = shut_leaves c.args.n c.args.gates.now c.requires.read (c.has_open.ensures.some c.if-has_open.true) c.close_strays.ensures.leaves

pub returns-clause-closed : goal.returns-clause-closed
returns-clause-closed g c = none_to_close c.args.n c.args.gates.now (g.D.Disk.file c.args.disk.now) c.requires.synced c.requires.read c.requires.count c.requires.few (c.has_open.ensures.none c.if-has_open.false)

pub returns-clause-leaves : goal.returns-clause-leaves
returns-clause-leaves g c = strays_rest c.args.n c.args.disk.now g.met.D.Disk.sound c.requires.synced (counts_read c.args.n c.args.gates.now (g.D.Disk.file c.args.disk.now) c.requires.read c.requires.count)
