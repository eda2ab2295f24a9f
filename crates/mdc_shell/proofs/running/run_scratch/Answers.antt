use Rattle.std.proofs.Common.{◌∙◌, arith, inl, inr, refl, sym}
use Rattle.session.specs.declared.stop.Stop.TheVariants.{Device}
use Rattle.page_file.proofs.LeavesLemmas.{sound_image}
use Rattle.session.proofs.FetchedRunsLemmas.{fetches_same}
use Rattle.mdc_shell.proofs.CreateLemmas.{left_by_making-told, made_of_nothing, tape_stays}
use Rattle.mdc_shell.proofs.RunsLemmas.{runs_scratch-ended, takes_none}
use Rattle.session.proofs.ToldLemmas.{same-told, told_then}
use Rattle.mdc_shell.proofs.running.run_scratch.Goals as goal

pub returns-in-Ok-clause-runs : goal.returns-in-Ok-clause-runs
returns-in-Ok-clause-runs g c = λ before said is told empty.
    let lies = g.met.H.Host.lies_beside in
    let tape = tape_stays _ _ _ _ c.make_at.ensures.beside (lies c.make_at.new.disk).0 (lies c.args.host).0 ∙ told in
    let after = c.make_at.ensures.told before is in
    let made = c.in-Ok.ensures.made after.0 after.1 in
    let well = (c.made_files_are_well.ensures 4096 4 after.0 refl made.0).0 in
    let run = c.run_attached.ensures.runs after.0 said after.1 tape (well after.0.bytes (sound_image _ after.0 (g.met.H.Disk.sound c.make_at.new.disk) after.1)) in
    let on_scratch = c.scratch_runs.ensures after.0 run.run.shape said _ _ _ run.end_ made.0 made.1 run.run.states_extents run.run.run _ _ run.run.fetches in
    runs_scratch-ended said _ _ _ _ _ c.run_attached.result.status.0 on_scratch (lies c.run_attached.result.host).0 run.status_is

pub returns-in-Ok-clause-full : goal.returns-in-Ok-clause-full
returns-in-Ok-clause-full g c = λ before said is told some.
    let none = made_of_nothing c.make_at.result _ c.in-Ok.is c.make_at.ensures.refused before is in
    absurd (omega (arith, some, none))

pub returns-in-Ok-clause-told : goal.returns-in-Ok-clause-told
returns-in-Ok-clause-told g c =
    let lies = g.met.H.Host.lies_beside in (
      told_then _ _ _ (left_by_making-told 4096 4 _ _ _ c.make_at.ensures.told refl) c.run_attached.ensures.told.0,
      told_then _ _ _ (same-told _ _ (tape_stays _ _ _ _ c.make_at.ensures.beside (lies c.make_at.new.disk).0 (lies c.args.host).0)) c.run_attached.ensures.told.1,
    )

pub returns-in_default-clause-runs : goal.returns-in_default-clause-runs
returns-in_default-clause-runs g c = λ before said is told empty.
    let lies = g.met.H.Host.lies_beside in
    let tape = tape_stays _ _ _ _ c.make_at.ensures.beside (lies c.make_at.new.disk).0 (lies c.args.host).0 ∙ told in
    runs_scratch-ended said _ _ _ _ _ 3 (c.nothing_is_run.ensures.scratch said _ Device tt _) (sym tape) refl

pub returns-in_default-clause-full : goal.returns-in_default-clause-full
returns-in_default-clause-full g c = λ before said is told some.
    let lies = g.met.H.Host.lies_beside in
    let tape = tape_stays _ _ _ _ c.make_at.ensures.beside (lies c.make_at.new.disk).0 (lies c.args.host).0 ∙ told in
    (inr (inr (inl refl, tape)), c.make_at.ensures.untouched before is some, refl)

pub returns-in_default-clause-told : goal.returns-in_default-clause-told
returns-in_default-clause-told g c =
    let lies = g.met.H.Host.lies_beside in (
      left_by_making-told 4096 4 _ _ _ c.make_at.ensures.told refl,
      same-told _ _ (tape_stays _ _ _ _ c.make_at.ensures.beside (lies c.make_at.new.disk).0 (lies c.args.host).0),
    )

pub returns-in-Exists-clause-takes : goal.returns-in-Exists-clause-takes
returns-in-Exists-clause-takes g c =
    let status = c.refuse_scratch.ensures.statuses in
    takes_none (g.I.Source.left c.args.input.now) c.refuse_scratch.result.status.0 (λ e. elim status [ inl is ↦ omega (arith, is, e) | inr is ↦ omega (arith, is, e) ])
    (λ e. elim status [ inl is ↦ omega (arith, is, e) | inr is ↦ omega (arith, is, e) ]) (λ e. elim status [ inl is ↦ omega (arith, is, e) | inr is ↦ omega (arith, is, e) ])

pub returns-in_default-clause-takes : goal.returns-in_default-clause-takes
returns-in_default-clause-takes g c = takes_none (g.I.Source.left c.args.input.now) 3 (λ e. absurd (cc)) (λ e. absurd (cc)) (λ e. absurd (cc))

pub returns-in-Ok-clause-log : goal.returns-in-Ok-clause-log
returns-in-Ok-clause-log g c = c.run_attached.ensures.log

pub returns-in-Exists-clause-log : goal.returns-in-Exists-clause-log
returns-in-Exists-clause-log g c = fetches_same refl

pub returns-in_default-clause-log : goal.returns-in_default-clause-log
returns-in_default-clause-log g c = fetches_same refl
