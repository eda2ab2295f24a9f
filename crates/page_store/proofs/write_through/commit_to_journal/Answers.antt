-- The journal leaves the home pages as they are, and so does its gate.
use Rattle.std.proofs.Common.{length}
use Rattle.page_file.proofs.LeavesLemmas.{sound_image}
use Rattle.page_store.proofs.Calls.{journal_leaves, opened_leaves, opened_counts}
use Rattle.page_store.proofs.Reaches.{journal_reaches, gate_reaches, ready_to_open, reaches_then}
use Rattle.page_store.proofs.write_through.commit_to_journal.Goals as goal

pub returns-in_err-write_journal-clause-leaves : goal.returns-in_err-write_journal-clause-leaves
returns-in_err-write_journal-clause-leaves g c =
    journal_leaves c.args.start (length c.args.images.now) c.args.images.now (λ f is. sound_image _ f (g.met.D.Disk.sound c.write_journal.new.disk) is) c.requires.ready c.write_journal.ensures.runs

pub returns-clause-counts : goal.returns-clause-counts
returns-clause-counts g c =
    opened_counts c.open_gate.result c.args.start (length c.args.images.now) c.args.images.now
    (λ f is. sound_image _ f (g.met.D.Disk.sound c.write_journal.new.disk) is) (λ f is. sound_image _ f (g.met.D.Disk.sound c.open_gate.new.disk) is)
    c.in_ok-write_journal.ensures.rising c.requires.ready c.write_journal.ensures.runs c.in_ok-write_journal.ensures.written c.open_gate.ensures.runs c.open_gate.ensures.written c.open_gate.ensures.open

pub returns-clause-leaves : goal.returns-clause-leaves
returns-clause-leaves g c =
    opened_leaves c.args.start (length c.args.images.now) c.args.images.now
    (λ f is. sound_image _ f (g.met.D.Disk.sound c.write_journal.new.disk) is) (λ f is. sound_image _ f (g.met.D.Disk.sound c.open_gate.new.disk) is)
    c.in_ok-write_journal.ensures.rising c.requires.ready c.write_journal.ensures.runs c.in_ok-write_journal.ensures.written c.open_gate.ensures.runs

pub returns-in_err-write_journal-clause-reach : goal.returns-in_err-write_journal-clause-reach
returns-in_err-write_journal-clause-reach g c =
    journal_reaches c.args.start (length c.args.images.now) (λ f is. sound_image _ f (g.met.D.Disk.sound c.write_journal.new.disk) is) c.requires.behind_gates (λ f is. (c.requires.ready f is).synced) c.write_journal.ensures.runs

pub returns-clause-reach : goal.returns-clause-reach
returns-clause-reach g c =
    reaches_then c.args.start (length c.args.images.now)
    (journal_reaches c.args.start (length c.args.images.now) (λ f is. sound_image _ f (g.met.D.Disk.sound c.write_journal.new.disk) is) c.requires.behind_gates (λ f is. (c.requires.ready f is).synced) c.write_journal.ensures.runs)
    (gate_reaches (λ f is. sound_image _ f (g.met.D.Disk.sound c.open_gate.new.disk) is) (ready_to_open _ c.args.start c.args.images.now c.requires.behind_gates c.in_ok-write_journal.ensures.written) c.open_gate.ensures.runs)
