-- The record is written, and then its gate.
use Rattle.std.proofs.Common.{inl, length}
use Rattle.page_file.proofs.LeavesLemmas.{leaves_as}
use Rattle.redo_log.proofs.Appends.{ready_for_record, reaches_end, ready_for_gate, record_leaves, added_leaves, is_added}
use Rattle.redo_log.proofs.Reaches.{record_only, gate_only, added_only}
use Rattle.redo_log.proofs.appending.add_record.Goals as goal

pub write_record-requires-clause-ready : goal.write_record-requires-clause-ready
write_record-requires-clause-ready g c = ready_for_record c.args.n (g.D.Disk.file c.args.disk.now) c.requires.logged

pub write_record-requires-clause-reach : goal.write_record-requires-clause-reach
write_record-requires-clause-reach g c = reaches_end c.args.n c.args.end (g.D.Disk.file c.args.disk.now) c.requires.logged c.requires.ends

pub returns-in_err-write_record-clause-leaves : goal.returns-in_err-write_record-clause-leaves
returns-in_err-write_record-clause-leaves g c =
    leaves_as (record_leaves c.args.n c.args.end c.args.images.now g.met.D.Disk.sound c.requires.logged c.requires.ends c.requires.shut c.requires.few c.requires.room c.write_record.ensures.runs)
    (λ before image is recorded_so. record { either = inl recorded_so.by.stands; stays = recorded_so.by.same })

pub returns-in_err-write_record-clause-only : goal.returns-in_err-write_record-clause-only
returns-in_err-write_record-clause-only g c =
    record_only c.args.n c.args.end (length c.args.images.now) g.met.D.Disk.sound (ready_for_record c.args.n (g.D.Disk.file c.args.disk.now) c.requires.logged) c.requires.ends c.requires.few c.write_record.ensures.runs

pub set_gate-requires-clause-ready : goal.set_gate-requires-clause-ready
set_gate-requires-clause-ready g c = ready_for_gate c.args.n c.args.end c.args.images.now (g.D.Disk.file c.write_record.new.disk) c.requires.behind_gates c.in_ok-write_record.ensures.written

pub returns-clause-leaves : goal.returns-clause-leaves
returns-clause-leaves g c =
    added_leaves c.args.n c.args.end c.args.images.now g.met.D.Disk.sound c.requires.logged c.requires.ends c.requires.shut c.requires.taken c.requires.few c.requires.room c.in_ok-write_record.ensures.rising
    (record_leaves c.args.n c.args.end c.args.images.now g.met.D.Disk.sound c.requires.logged c.requires.ends c.requires.shut c.requires.few c.requires.room c.write_record.ensures.runs)
    c.in_ok-write_record.ensures.written c.set_gate.ensures.runs

pub returns-clause-only : goal.returns-clause-only
returns-clause-only g c =
    added_only c.args.n (length c.args.images.now)
    (record_only c.args.n c.args.end (length c.args.images.now) g.met.D.Disk.sound (ready_for_record c.args.n (g.D.Disk.file c.args.disk.now) c.requires.logged) c.requires.ends c.requires.few c.write_record.ensures.runs)
    (gate_only c.args.n g.met.D.Disk.sound (ready_for_gate c.args.n c.args.end c.args.images.now (g.D.Disk.file c.write_record.new.disk) c.requires.behind_gates c.in_ok-write_record.ensures.written) c.requires.few c.set_gate.ensures.runs)

pub returns-clause-added : goal.returns-clause-added
returns-clause-added g c =
    is_added c.set_gate.result c.args.n c.args.end c.args.images.now g.met.D.Disk.sound c.requires.logged c.requires.ends c.requires.shut c.requires.taken c.requires.few c.requires.room c.in_ok-write_record.ensures.rising
    (record_leaves c.args.n c.args.end c.args.images.now g.met.D.Disk.sound c.requires.logged c.requires.ends c.requires.shut c.requires.few c.requires.room c.write_record.ensures.runs)
    c.in_ok-write_record.ensures.written c.set_gate.ensures.runs c.set_gate.ensures.written
