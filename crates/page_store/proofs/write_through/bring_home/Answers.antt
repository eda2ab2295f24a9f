-- What counts stands still while it is written home.
use Rattle.std.proofs.lemmas.Result.{on_ok_weaker}
use Rattle.page_file.proofs.LeavesLemmas.{leaves_as}
use Rattle.page_file.proofs.LeavesLemmas.{sound_image}
use Rattle.page_store.proofs.BroughtLemmas.{brought}
use Rattle.page_store.proofs.Calls.{home_leaves, closed_leaves, closed_at_rest, ready_to_close}
use Rattle.page_store.proofs.Reaches.{home_reaches, gate_reaches, no_longer_then}
use Rattle.page_store.proofs.write_through.bring_home.Goals as goal

pub returns-in_err-home-clause-leaves : goal.returns-in_err-home-clause-leaves
returns-in_err-home-clause-leaves g c =
    leaves_as (home_leaves c.args.images.now (λ f is. sound_image _ f (g.met.D.Disk.sound c.home.new.disk) is) c.requires.counts c.requires.formed c.home.ensures.runs) (λ before image is stands. stands.2)

pub close_gate-requires-clause-ready : goal.close_gate-requires-clause-ready
close_gate-requires-clause-ready g c =
    ready_to_close c.args.images.now (home_leaves c.args.images.now (λ f is. sound_image _ f (g.met.D.Disk.sound c.home.new.disk) is) c.requires.counts c.requires.formed c.home.ensures.runs) c.in_ok-home.ensures.home

pub returns-clause-closed : goal.returns-clause-closed
returns-clause-closed g c = closed_at_rest c.close_gate.result _ _ c.close_gate.ensures.written c.close_gate.ensures.closed

pub returns-clause-leaves : goal.returns-clause-leaves
returns-clause-leaves g c =
    closed_leaves c.args.images.now (λ f is. sound_image _ f (g.met.D.Disk.sound c.home.new.disk) is) (λ f is. sound_image _ f (g.met.D.Disk.sound c.close_gate.new.disk) is)
    c.requires.counts c.requires.formed c.home.ensures.runs c.in_ok-home.ensures.home c.close_gate.ensures.runs

pub returns-in_err-home-clause-reach : goal.returns-in_err-home-clause-reach
returns-in_err-home-clause-reach g c = home_reaches c.args.images.now (λ f is. sound_image _ f (g.met.D.Disk.sound c.home.new.disk) is) c.requires.counts c.requires.formed c.home.ensures.runs

pub returns-clause-reach : goal.returns-clause-reach
returns-clause-reach g c =
    no_longer_then (home_reaches c.args.images.now (λ f is. sound_image _ f (g.met.D.Disk.sound c.home.new.disk) is) c.requires.counts c.requires.formed c.home.ensures.runs)
    (gate_reaches (λ f is. sound_image _ f (g.met.D.Disk.sound c.close_gate.new.disk) is) (ready_to_close c.args.images.now (home_leaves c.args.images.now (λ f is. sound_image _ f (g.met.D.Disk.sound c.home.new.disk) is) c.requires.counts c.requires.formed c.home.ensures.runs) c.in_ok-home.ensures.home)
    c.close_gate.ensures.runs)

pub returns-clause-brought : goal.returns-clause-brought
returns-clause-brought g c =
    on_ok_weaker c.close_gate.result (brought c.args.images.now (g.D.Disk.file c.close_gate.new.disk) c.home.ensures.runs c.in_ok-home.ensures.written) c.close_gate.ensures.written
