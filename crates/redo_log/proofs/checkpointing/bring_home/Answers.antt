-- Each step leaves what the file stood for.
use Rattle.std.proofs.Common.{arith}
use Rattle.page_file.proofs.LeavesLemmas.{leaves_as}
use Rattle.redo_log.proofs.Homing.{ready_again, ready_homed, counts_logged, home_leaves, first_leaves, first_closed, checkpoint_leaves, checkpointed, counts_none, has_none, synced_again, gates_whole}
use Rattle.redo_log.proofs.Reaches.{home_only, gate_only, gate_closed_only, strays_closed_only}
use Rattle.redo_log.proofs.checkpointing.bring_home.Goals as goal

pub home-requires-clause-ready : goal.home-requires-clause-ready
home-requires-clause-ready g c = ready_again c.args.n (g.D.Disk.file c.args.disk.now) (counts_logged c.args.n (g.D.Disk.file c.args.disk.now) c.requires.logged)

pub returns-in_err-home-clause-leaves : goal.returns-in_err-home-clause-leaves
returns-in_err-home-clause-leaves g c =
    leaves_as (home_leaves c.args.n c.args.images.now g.met.D.Disk.sound (counts_logged c.args.n (g.D.Disk.file c.args.disk.now) c.requires.logged) c.requires.overlay c.home.ensures.runs) (λ before image is by. by.stands)

pub returns-in_err-home-clause-only : goal.returns-in_err-home-clause-only
returns-in_err-home-clause-only g c = home_only c.args.n c.args.images.now g.met.D.Disk.sound c.requires.logged c.requires.overlay c.home.ensures.runs

pub set_gate-requires-clause-ready : goal.set_gate-requires-clause-ready
set_gate-requires-clause-ready g c =
    let counting = counts_logged c.args.n (g.D.Disk.file c.args.disk.now) c.requires.logged in
    ready_homed c.args.n c.args.images.now (home_leaves c.args.n c.args.images.now g.met.D.Disk.sound counting c.requires.overlay c.home.ensures.runs) c.in_ok-home.ensures.home

pub returns-in_err-set_gate-clause-leaves : goal.returns-in_err-set_gate-clause-leaves
returns-in_err-set_gate-clause-leaves g c =
    let counting = counts_logged c.args.n (g.D.Disk.file c.args.disk.now) c.requires.logged in
    let homed = home_leaves c.args.n c.args.images.now g.met.D.Disk.sound counting c.requires.overlay c.home.ensures.runs in
    first_leaves c.args.n c.args.images.now g.met.D.Disk.sound counting c.requires.overlay c.requires.some homed c.in_ok-home.ensures.home c.set_gate.ensures.runs

pub returns-in_err-set_gate-clause-only : goal.returns-in_err-set_gate-clause-only
returns-in_err-set_gate-clause-only g c =
    let counting = counts_logged c.args.n (g.D.Disk.file c.args.disk.now) c.requires.logged in
    let homed = home_leaves c.args.n c.args.images.now g.met.D.Disk.sound counting c.requires.overlay c.home.ensures.runs in
    let ready = ready_homed c.args.n c.args.images.now homed c.in_ok-home.ensures.home in
    gate_closed_only c.args.n 0 (omega arith) (home_only c.args.n c.args.images.now g.met.D.Disk.sound c.requires.logged c.requires.overlay c.home.ensures.runs) (gate_only 0 g.met.D.Disk.sound ready (omega arith) c.set_gate.ensures.runs)

pub close_strays-requires-clause-synced : goal.close_strays-requires-clause-synced
close_strays-requires-clause-synced g c =
    let counting = counts_logged c.args.n (g.D.Disk.file c.args.disk.now) c.requires.logged in
    let homed = home_leaves c.args.n c.args.images.now g.met.D.Disk.sound counting c.requires.overlay c.home.ensures.runs in
    synced_again 0 (g.D.Disk.file c.set_gate.new.disk) (counts_none c.args.n
    (first_leaves c.args.n c.args.images.now g.met.D.Disk.sound counting c.requires.overlay c.requires.some homed c.in_ok-home.ensures.home c.set_gate.ensures.runs)
    (first_closed c.args.n c.args.images.now g.met.D.Disk.sound counting c.requires.overlay c.requires.some homed c.in_ok-home.ensures.home c.set_gate.ensures.runs c.in_ok-set_gate.ensures.written))

pub close_strays-requires-clause-has : goal.close_strays-requires-clause-has
close_strays-requires-clause-has g c =
    let counting = counts_logged c.args.n (g.D.Disk.file c.args.disk.now) c.requires.logged in
    let homed = home_leaves c.args.n c.args.images.now g.met.D.Disk.sound counting c.requires.overlay c.home.ensures.runs in
    has_none (g.D.Disk.file c.set_gate.new.disk) (counts_none c.args.n
    (first_leaves c.args.n c.args.images.now g.met.D.Disk.sound counting c.requires.overlay c.requires.some homed c.in_ok-home.ensures.home c.set_gate.ensures.runs)
    (first_closed c.args.n c.args.images.now g.met.D.Disk.sound counting c.requires.overlay c.requires.some homed c.in_ok-home.ensures.home c.set_gate.ensures.runs c.in_ok-set_gate.ensures.written))

pub close_strays-requires-clause-ends : goal.close_strays-requires-clause-ends
close_strays-requires-clause-ends g c =
    let counting = counts_logged c.args.n (g.D.Disk.file c.args.disk.now) c.requires.logged in
    let homed = home_leaves c.args.n c.args.images.now g.met.D.Disk.sound counting c.requires.overlay c.home.ensures.runs in
    gates_whole (g.D.Disk.file c.set_gate.new.disk) (counts_none c.args.n
    (first_leaves c.args.n c.args.images.now g.met.D.Disk.sound counting c.requires.overlay c.requires.some homed c.in_ok-home.ensures.home c.set_gate.ensures.runs)
    (first_closed c.args.n c.args.images.now g.met.D.Disk.sound counting c.requires.overlay c.requires.some homed c.in_ok-home.ensures.home c.set_gate.ensures.runs c.in_ok-set_gate.ensures.written))

pub returns-clause-leaves : goal.returns-clause-leaves
returns-clause-leaves g c =
    let counting = counts_logged c.args.n (g.D.Disk.file c.args.disk.now) c.requires.logged in
    let homed = home_leaves c.args.n c.args.images.now g.met.D.Disk.sound counting c.requires.overlay c.home.ensures.runs in
    checkpoint_leaves c.args.n
    (first_leaves c.args.n c.args.images.now g.met.D.Disk.sound counting c.requires.overlay c.requires.some homed c.in_ok-home.ensures.home c.set_gate.ensures.runs)
    (first_closed c.args.n c.args.images.now g.met.D.Disk.sound counting c.requires.overlay c.requires.some homed c.in_ok-home.ensures.home c.set_gate.ensures.runs c.in_ok-set_gate.ensures.written)
    c.close_strays.ensures.leaves

pub returns-clause-only : goal.returns-clause-only
returns-clause-only g c =
    let counting = counts_logged c.args.n (g.D.Disk.file c.args.disk.now) c.requires.logged in
    let homed = home_leaves c.args.n c.args.images.now g.met.D.Disk.sound counting c.requires.overlay c.home.ensures.runs in
    let ready = ready_homed c.args.n c.args.images.now homed c.in_ok-home.ensures.home in
    strays_closed_only c.args.n
    (gate_closed_only c.args.n 0 (omega arith) (home_only c.args.n c.args.images.now g.met.D.Disk.sound c.requires.logged c.requires.overlay c.home.ensures.runs) (gate_only 0 g.met.D.Disk.sound ready (omega arith) c.set_gate.ensures.runs))
    c.close_strays.ensures.leaves

pub returns-clause-emptied : goal.returns-clause-emptied
returns-clause-emptied g c =
    let counting = counts_logged c.args.n (g.D.Disk.file c.args.disk.now) c.requires.logged in
    let homed = home_leaves c.args.n c.args.images.now g.met.D.Disk.sound counting c.requires.overlay c.home.ensures.runs in
    checkpointed c.close_strays.result c.args.n c.close_strays.new.disk
    (first_leaves c.args.n c.args.images.now g.met.D.Disk.sound counting c.requires.overlay c.requires.some homed c.in_ok-home.ensures.home c.set_gate.ensures.runs)
    (first_closed c.args.n c.args.images.now g.met.D.Disk.sound counting c.requires.overlay c.requires.some homed c.in_ok-home.ensures.home c.set_gate.ensures.runs c.in_ok-set_gate.ensures.written)
    c.close_strays.ensures.closed
