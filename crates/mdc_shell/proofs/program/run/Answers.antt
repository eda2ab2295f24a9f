use Rattle.std.proofs.Common.{◌∙◌, Err, Some, ap, inl, inr, refl, sym}
use Rattle.mdc_words.specs.Time.{OverTime}
use Rattle.mdc_words.proofs.TimeLemmas.{over_time_none}
use Rattle.page_file.proofs.LeavesLemmas.{sound_image}
use Rattle.page_store.specs.Opened.{file_bytes}
use Rattle.file_verdict.specs.declared.unjudged.Unjudged.TheVariants as unjudged
use Rattle.session.specs.declared.stop.Stop.TheVariants.{Memory}
use Rattle.mdc_shell.specs.Leaving.{LeftByCreate}
use Rattle.mdc_shell.specs.Words.{CheckFile, CreateFile, RunFile, RunScratch}
use Rattle.session.proofs.FetchedRunsLemmas.{fetches_same}
use Rattle.mdc_shell.proofs.AnyRunsLemmas.{runs_any-before}
use Rattle.mdc_shell.proofs.Asking.{one_line}
use Rattle.mdc_shell.proofs.CheckLemmas.{checks_formed-before, checks_path-before, checks_unserved-before}
use Rattle.mdc_shell.proofs.CreateLemmas.{create_line-one}
use Rattle.mdc_shell.proofs.RunsLemmas.{refuses_file-before, reopens_file-before, runs_items-complete, runs_path-before, runs_scratch-ended, says_end-quiet, serves_path-before, takes_none}
use Rattle.page_store.proofs.GrowingLemmas.{grew_not_at_all}
use Rattle.mdc_shell.proofs.program.run.Goals as goal

pub returns-in-Ok-Some-RunScratch-clause-complete : goal.returns-in-Ok-Some-RunScratch-clause-complete
returns-in-Ok-Some-RunScratch-clause-complete g c = λ no_disk no_read no_say within before said is told asks.
    let a = c.in-Ok-Some-RunScratch in
    let asked = rw (a.field-0-is, a.field-0-0-is, c.as_slice.ensures.value) at a.ensures in
    elim asks [
      | inl file ↦ absurd (let e = one_line _ RunScratch (RunFile file.0) asked file.1 in cc)
      | inr scratch ↦
          let run = c.run_scratch.ensures.runs before said is told scratch.1 in
          runs_items-complete said _ _ _ run.end_ c.run_scratch.result.status.0 run.run run.status_is within
          (λ e. no_disk (c.run_scratch.ensures.disk.rose e)) (λ e. no_read (c.run_scratch.ensures.reads.rose e)) (λ e. no_say (c.run_scratch.ensures.says.rose e))
    ]

pub returns-in-Ok-Some-RunFile-clause-complete : goal.returns-in-Ok-Some-RunFile-clause-complete
returns-in-Ok-Some-RunFile-clause-complete g c = λ no_disk no_read no_say within before said is told asks.
    let a = c.in-Ok-Some-RunFile in
    let asked = rw (a.field-0-is, a.field-0-0-is, c.as_slice.ensures.value) at a.ensures in
    elim asks [
      | inl file ↦
          let run = c.run_path.ensures.runs before said is told file.2 in
          runs_items-complete said _ _ _ run.end_ c.run_path.result.status.0 run.run.run run.status_is within
          (λ e. no_disk (c.run_path.ensures.disk.rose e)) (λ e. no_read (c.run_path.ensures.reads.rose e)) (λ e. no_say (c.run_path.ensures.says.rose e))
      | inr scratch ↦ absurd (let e = one_line _ (RunFile a.path.now) RunScratch asked scratch.0 in cc)
    ]

pub returns-in-Ok-Some-Check-clause-complete : goal.returns-in-Ok-Some-Check-clause-complete
returns-in-Ok-Some-Check-clause-complete g c = λ no_disk no_read no_say within before said is told asks.
    let a = c.in-Ok-Some-Check in
    let asked = rw (a.field-0-is, a.field-0-0-is, c.as_slice.ensures.value) at a.ensures in
    elim asks [
      | inl file ↦ absurd (let e = one_line _ (CheckFile a.path.now) (RunFile file.0) asked file.1 in cc)
      | inr scratch ↦ absurd (let e = one_line _ (CheckFile a.path.now) RunScratch asked scratch.0 in cc)
    ]

pub returns-in-Ok-Some-Create-clause-created_time : goal.returns-in-Ok-Some-Create-clause-created_time
returns-in-Ok-Some-Create-clause-created_time g c = λ path extents extent_pages line before said is told.
    let a = c.in-Ok-Some-Create in
    let asked = rw (a.field-0-is, a.field-0-0-is, c.as_slice.ensures.value) at a.ensures in
    create_line-one _ a.path.now path a.shape.extents a.shape.extent_pages extents extent_pages
    (λ n m. OverTime g.H.Disk.clock g.H.Disk.moment (LeftByCreate n m before said) c.args.host c.create_file.result.host) asked line (c.create_file.ensures.time before said is told)

pub returns-in-Ok-None-clause-served : goal.returns-in-Ok-None-clause-served
returns-in-Ok-None-clause-served g c = λ path line.
    let asked = rw (c.in-Ok-None.field-0-is, c.as_slice.ensures.value) at c.in-Ok-None.ensures in
    absurd (asked (RunFile path) line)

pub returns-in-Ok-None-clause-runs : goal.returns-in-Ok-None-clause-runs
returns-in-Ok-None-clause-runs g c = λ path line.
    let asked = rw (c.in-Ok-None.field-0-is, c.as_slice.ensures.value) at c.in-Ok-None.ensures in
    absurd (asked (RunFile path) line)

pub returns-in-Ok-None-clause-runs_any : goal.returns-in-Ok-None-clause-runs_any
returns-in-Ok-None-clause-runs_any g c = λ path line.
    let asked = rw (c.in-Ok-None.field-0-is, c.as_slice.ensures.value) at c.in-Ok-None.ensures in
    absurd (asked (RunFile path) line)

pub returns-in-Ok-None-clause-reopens : goal.returns-in-Ok-None-clause-reopens
returns-in-Ok-None-clause-reopens g c = λ path line.
    let asked = rw (c.in-Ok-None.field-0-is, c.as_slice.ensures.value) at c.in-Ok-None.ensures in
    absurd (asked (RunFile path) line)

pub returns-in-Ok-None-clause-refuses : goal.returns-in-Ok-None-clause-refuses
returns-in-Ok-None-clause-refuses g c = λ path line.
    let asked = rw (c.in-Ok-None.field-0-is, c.as_slice.ensures.value) at c.in-Ok-None.ensures in
    absurd (asked (RunFile path) line)

pub returns-in-Ok-None-clause-scratch : goal.returns-in-Ok-None-clause-scratch
returns-in-Ok-None-clause-scratch g c = λ line.
    let asked = rw (c.in-Ok-None.field-0-is, c.as_slice.ensures.value) at c.in-Ok-None.ensures in
    absurd (asked RunScratch line)

pub returns-in-Ok-None-clause-scratch_full : goal.returns-in-Ok-None-clause-scratch_full
returns-in-Ok-None-clause-scratch_full g c = λ line.
    let asked = rw (c.in-Ok-None.field-0-is, c.as_slice.ensures.value) at c.in-Ok-None.ensures in
    absurd (asked RunScratch line)

pub returns-in-Ok-None-clause-scratch_any : goal.returns-in-Ok-None-clause-scratch_any
returns-in-Ok-None-clause-scratch_any g c = λ line.
    let asked = rw (c.in-Ok-None.field-0-is, c.as_slice.ensures.value) at c.in-Ok-None.ensures in
    absurd (asked RunScratch line)

pub returns-in-Ok-None-clause-created : goal.returns-in-Ok-None-clause-created
returns-in-Ok-None-clause-created g c = λ path extents extent_pages line.
    let asked = rw (c.in-Ok-None.field-0-is, c.as_slice.ensures.value) at c.in-Ok-None.ensures in
    absurd (asked (CreateFile path extents extent_pages) line)

pub returns-in-Ok-None-clause-created_time : goal.returns-in-Ok-None-clause-created_time
returns-in-Ok-None-clause-created_time g c = λ path extents extent_pages line.
    let asked = rw (c.in-Ok-None.field-0-is, c.as_slice.ensures.value) at c.in-Ok-None.ensures in
    absurd (asked (CreateFile path extents extent_pages) line)

pub returns-in-Ok-None-clause-makes_well : goal.returns-in-Ok-None-clause-makes_well
returns-in-Ok-None-clause-makes_well g c = λ path extents extent_pages line.
    let asked = rw (c.in-Ok-None.field-0-is, c.as_slice.ensures.value) at c.in-Ok-None.ensures in
    absurd (asked (CreateFile path extents extent_pages) line)

pub returns-in-Ok-None-clause-completes : goal.returns-in-Ok-None-clause-completes
returns-in-Ok-None-clause-completes g c = λ path extents extent_pages line.
    let asked = rw (c.in-Ok-None.field-0-is, c.as_slice.ensures.value) at c.in-Ok-None.ensures in
    absurd (asked (CreateFile path extents extent_pages) line)

pub returns-in-Ok-None-clause-complete : goal.returns-in-Ok-None-clause-complete
returns-in-Ok-None-clause-complete g c = λ no_disk no_read no_say within before said is told asks.
    let asked = rw (c.in-Ok-None.field-0-is, c.as_slice.ensures.value) at c.in-Ok-None.ensures in
    elim asks [ inl file ↦ absurd (asked (RunFile file.0) file.1) | inr scratch ↦ absurd (asked RunScratch scratch.0) ]

pub returns-in-Err-clause-served : goal.returns-in-Err-clause-served
returns-in-Err-clause-served g c = λ path line. (serves_path-before _ _ _ _ Memory tt refl, inr refl, inr (inr (inr (inr (inr (inr (inr (inl refl))))))))

pub returns-in-Err-clause-runs : goal.returns-in-Err-clause-runs
returns-in-Err-clause-runs g c = λ path line before said is told well.
    runs_path-before g.H.Disk before said _ c.args.host c.args.host Memory well (c.nothing_is_run.ensures.well before.bytes said _ Memory tt well) refl
    ((g.met.H.Host.lies_beside c.args.host).0 ∙ told) over_time_none

pub returns-in-Err-clause-runs_any : goal.returns-in-Err-clause-runs_any
returns-in-Err-clause-runs_any g c = λ path line before said is told served.
    runs_any-before g.H.Disk before said _ _ c.args.host c.args.host Memory tt (says_end-quiet (Some said) _ Memory tt told) over_time_none

pub returns-in-Err-clause-reopens : goal.returns-in-Err-clause-reopens
returns-in-Err-clause-reopens g c = λ path line before said is told formed. reopens_file-before g.H.Disk before said _ _ c.args.host c.args.host Memory tt told over_time_none

pub returns-in-Err-clause-refuses : goal.returns-in-Err-clause-refuses
returns-in-Err-clause-refuses g c = λ path line before said is told not_served. (refuses_file-before g.H.Disk before said _ c.args.host c.args.host Memory tt told over_time_none, refl)

pub returns-in-Err-clause-scratch : goal.returns-in-Err-clause-scratch
returns-in-Err-clause-scratch g c = λ line before said is told empty. runs_scratch-ended said _ _ _ _ _ 8 (c.nothing_is_run.ensures.scratch said _ Memory tt _) (sym told) refl

pub returns-in-Ok-None-clause-keeps_refused : goal.returns-in-Ok-None-clause-keeps_refused
returns-in-Ok-None-clause-keeps_refused g c = λ path line.
    let asked = rw (c.in-Ok-None.field-0-is, c.as_slice.ensures.value) at c.in-Ok-None.ensures in
    absurd (asked (RunFile path) line)

pub returns-in-Err-clause-keeps_refused : goal.returns-in-Err-clause-keeps_refused
returns-in-Err-clause-keeps_refused g c = λ path line before is not_served.
    (before, is, sound_image (g.H.Disk.file c.args.host) before (g.met.H.Disk.sound c.args.host) is, λ not_failed. refl)

pub returns-in-Ok-None-clause-takes : goal.returns-in-Ok-None-clause-takes
returns-in-Ok-None-clause-takes g c = λ path line.
    let asked = rw (c.in-Ok-None.field-0-is, c.as_slice.ensures.value) at c.in-Ok-None.ensures in
    absurd (asked (RunFile path) line)

pub returns-in-Ok-None-clause-scratch_takes : goal.returns-in-Ok-None-clause-scratch_takes
returns-in-Ok-None-clause-scratch_takes g c = λ line.
    let asked = rw (c.in-Ok-None.field-0-is, c.as_slice.ensures.value) at c.in-Ok-None.ensures in
    absurd (asked RunScratch line)

pub returns-in-Err-clause-takes : goal.returns-in-Err-clause-takes
returns-in-Err-clause-takes g c = λ path line. takes_none (g.I.Source.left c.args.input.now) 8 (λ e. absurd (cc)) (λ e. absurd (cc)) (λ e. absurd (cc))

pub returns-in-Err-clause-scratch_takes : goal.returns-in-Err-clause-scratch_takes
returns-in-Err-clause-scratch_takes g c = λ line. takes_none (g.I.Source.left c.args.input.now) 8 (λ e. absurd (cc)) (λ e. absurd (cc)) (λ e. absurd (cc))

-- ---- a check

pub returns-in-Ok-None-clause-checks : goal.returns-in-Ok-None-clause-checks
returns-in-Ok-None-clause-checks g c = λ path line.
    let asked = rw (c.in-Ok-None.field-0-is, c.as_slice.ensures.value) at c.in-Ok-None.ensures in
    absurd (asked (CheckFile path) line)

pub returns-in-Ok-None-clause-checks_sound : goal.returns-in-Ok-None-clause-checks_sound
returns-in-Ok-None-clause-checks_sound g c = λ path line.
    let asked = rw (c.in-Ok-None.field-0-is, c.as_slice.ensures.value) at c.in-Ok-None.ensures in
    absurd (asked (CheckFile path) line)

pub returns-in-Ok-None-clause-checks_formed : goal.returns-in-Ok-None-clause-checks_formed
returns-in-Ok-None-clause-checks_formed g c = λ path line.
    let asked = rw (c.in-Ok-None.field-0-is, c.as_slice.ensures.value) at c.in-Ok-None.ensures in
    absurd (asked (CheckFile path) line)

pub returns-in-Ok-None-clause-checks_writes : goal.returns-in-Ok-None-clause-checks_writes
returns-in-Ok-None-clause-checks_writes g c = λ path line.
    let asked = rw (c.in-Ok-None.field-0-is, c.as_slice.ensures.value) at c.in-Ok-None.ensures in
    absurd (asked (CheckFile path) line)

pub returns-in-Ok-None-clause-checks_stands : goal.returns-in-Ok-None-clause-checks_stands
returns-in-Ok-None-clause-checks_stands g c = λ path line.
    let asked = rw (c.in-Ok-None.field-0-is, c.as_slice.ensures.value) at c.in-Ok-None.ensures in
    absurd (asked (CheckFile path) line)

pub returns-in-Ok-None-clause-found_sound : goal.returns-in-Ok-None-clause-found_sound
returns-in-Ok-None-clause-found_sound g c = λ path line.
    let asked = rw (c.in-Ok-None.field-0-is, c.as_slice.ensures.value) at c.in-Ok-None.ensures in
    absurd (asked (CheckFile path) line)

pub returns-in-Ok-None-clause-found_well : goal.returns-in-Ok-None-clause-found_well
returns-in-Ok-None-clause-found_well g c = λ path line.
    let asked = rw (c.in-Ok-None.field-0-is, c.as_slice.ensures.value) at c.in-Ok-None.ensures in
    absurd (asked (CheckFile path) line)

pub returns-in-Ok-None-clause-check_stays_sound : goal.returns-in-Ok-None-clause-check_stays_sound
returns-in-Ok-None-clause-check_stays_sound g c = λ path line.
    let asked = rw (c.in-Ok-None.field-0-is, c.as_slice.ensures.value) at c.in-Ok-None.ensures in
    absurd (asked (CheckFile path) line)

pub returns-in-Ok-None-clause-check_stays_well : goal.returns-in-Ok-None-clause-check_stays_well
returns-in-Ok-None-clause-check_stays_well g c = λ path line.
    let asked = rw (c.in-Ok-None.field-0-is, c.as_slice.ensures.value) at c.in-Ok-None.ensures in
    absurd (asked (CheckFile path) line)

pub returns-in-Ok-None-clause-checks_unserved : goal.returns-in-Ok-None-clause-checks_unserved
returns-in-Ok-None-clause-checks_unserved g c = λ path line.
    let asked = rw (c.in-Ok-None.field-0-is, c.as_slice.ensures.value) at c.in-Ok-None.ensures in
    absurd (asked (CheckFile path) line)

pub returns-in-Ok-None-clause-keeps_unserved : goal.returns-in-Ok-None-clause-keeps_unserved
returns-in-Ok-None-clause-keeps_unserved g c = λ path line.
    let asked = rw (c.in-Ok-None.field-0-is, c.as_slice.ensures.value) at c.in-Ok-None.ensures in
    absurd (asked (CheckFile path) line)

pub returns-in-Ok-None-clause-check_completes : goal.returns-in-Ok-None-clause-check_completes
returns-in-Ok-None-clause-check_completes g c = λ path line.
    let asked = rw (c.in-Ok-None.field-0-is, c.as_slice.ensures.value) at c.in-Ok-None.ensures in
    absurd (asked (CheckFile path) line)

pub returns-in-Err-clause-checks : goal.returns-in-Err-clause-checks
returns-in-Err-clause-checks g c = λ path line. (checks_path-before _ _ _ (Err unjudged.Memory) tt refl, inr refl, inr (inr (inr (inr (inl refl)))), refl)

pub returns-in-Err-clause-checks_sound : goal.returns-in-Err-clause-checks_sound
returns-in-Err-clause-checks_sound g c = λ path line before is sound. inr (inr (inr refl))

pub returns-in-Err-clause-checks_formed : goal.returns-in-Err-clause-checks_formed
returns-in-Err-clause-checks_formed g c = λ path line before said is told formed. checks_formed-before g.H.Disk before said _ c.args.host c.args.host (Err unjudged.Memory) tt told over_time_none

pub returns-in-Err-clause-checks_writes : goal.returns-in-Err-clause-checks_writes
returns-in-Err-clause-checks_writes g c = λ path line file is. record { at_most = λ not_failed. inl (ap file_bytes is); opened = λ settled served. absurd (settled (inr refl)) }

pub returns-in-Err-clause-checks_stands : goal.returns-in-Err-clause-checks_stands
returns-in-Err-clause-checks_stands g c = λ path line before said is told formed settled. absurd (settled (inr refl))

pub returns-in-Err-clause-check_stays_sound : goal.returns-in-Err-clause-check_stays_sound
returns-in-Err-clause-check_stays_sound g c = λ path line before said is told sound. (before, is, sound)

pub returns-in-Err-clause-check_stays_well : goal.returns-in-Err-clause-check_stays_well
returns-in-Err-clause-check_stays_well g c = λ path line before said is told well. (before, is, well)

pub returns-in-Err-clause-checks_unserved : goal.returns-in-Err-clause-checks_unserved
returns-in-Err-clause-checks_unserved g c = λ path line before said is told not_served. checks_unserved-before g.H.Disk before said _ c.args.host c.args.host (Err unjudged.Memory) tt told over_time_none

pub returns-in-Err-clause-keeps_unserved : goal.returns-in-Err-clause-keeps_unserved
returns-in-Err-clause-keeps_unserved g c = λ path line before is not_served.
    (before, is, sound_image (g.H.Disk.file c.args.host) before (g.met.H.Disk.sound c.args.host) is, λ not_failed. refl)

pub returns-in-Err-clause-check_completes : goal.returns-in-Err-clause-check_completes
returns-in-Err-clause-check_completes g c = λ path line no_disk no_say. inr (inr (inl refl))

-- ---- what becomes of the file

pub returns-in-Ok-Some-RunScratch-clause-grew : goal.returns-in-Ok-Some-RunScratch-clause-grew
returns-in-Ok-Some-RunScratch-clause-grew g c = λ other.
    let a = c.in-Ok-Some-RunScratch in
    let asked = rw (a.field-0-is, a.field-0-0-is, c.as_slice.ensures.value) at a.ensures in
    absurd (other asked)

pub returns-in-Ok-Some-RunFile-clause-grew : goal.returns-in-Ok-Some-RunFile-clause-grew
returns-in-Ok-Some-RunFile-clause-grew g c = λ other. c.run_path.ensures.grew

pub returns-in-Ok-Some-Check-clause-grew : goal.returns-in-Ok-Some-Check-clause-grew
returns-in-Ok-Some-Check-clause-grew g c = λ other. c.check_path.ensures.grew

pub returns-in-Ok-Some-Create-clause-grew : goal.returns-in-Ok-Some-Create-clause-grew
returns-in-Ok-Some-Create-clause-grew g c = λ other. c.create_file.ensures.grew

pub returns-in-Ok-None-clause-grew : goal.returns-in-Ok-None-clause-grew
returns-in-Ok-None-clause-grew g c = λ other before after is now. grew_not_at_all before after c.say_usage.ensures.disk.same_file is now

pub returns-in-Err-clause-grew : goal.returns-in-Err-clause-grew
returns-in-Err-clause-grew g c = λ other before after is now. grew_not_at_all before after refl is now

-- ---- the log

pub returns-in-Ok-Some-RunScratch-clause-log : goal.returns-in-Ok-Some-RunScratch-clause-log
returns-in-Ok-Some-RunScratch-clause-log g c = c.run_scratch.ensures.log

pub returns-in-Ok-Some-RunFile-clause-log : goal.returns-in-Ok-Some-RunFile-clause-log
returns-in-Ok-Some-RunFile-clause-log g c = c.run_path.ensures.log

pub returns-in-Ok-Some-Check-clause-log : goal.returns-in-Ok-Some-Check-clause-log
returns-in-Ok-Some-Check-clause-log g c = fetches_same refl

pub returns-in-Ok-Some-Create-clause-log : goal.returns-in-Ok-Some-Create-clause-log
returns-in-Ok-Some-Create-clause-log g c = fetches_same refl

pub returns-in-Ok-None-clause-log : goal.returns-in-Ok-None-clause-log
returns-in-Ok-None-clause-log g c = fetches_same refl

pub returns-in-Err-clause-log : goal.returns-in-Err-clause-log
returns-in-Err-clause-log g c = fetches_same refl

pub returns-in-Ok-Some-RunScratch-clause-unfetched : goal.returns-in-Ok-Some-RunScratch-clause-unfetched
returns-in-Ok-Some-RunScratch-clause-unfetched g c = λ path line.
    let a = c.in-Ok-Some-RunScratch in
    let asked = rw (a.field-0-is, a.field-0-0-is, c.as_slice.ensures.value) at a.ensures in
    absurd (let e = one_line _ RunScratch (RunFile path) asked line in cc)

pub returns-in-Ok-Some-RunFile-clause-unfetched : goal.returns-in-Ok-Some-RunFile-clause-unfetched
returns-in-Ok-Some-RunFile-clause-unfetched g c = λ path line. c.run_path.ensures.unfetched

pub returns-in-Ok-Some-Check-clause-unfetched : goal.returns-in-Ok-Some-Check-clause-unfetched
returns-in-Ok-Some-Check-clause-unfetched g c = λ path line file is unserved. refl

pub returns-in-Ok-Some-Create-clause-unfetched : goal.returns-in-Ok-Some-Create-clause-unfetched
returns-in-Ok-Some-Create-clause-unfetched g c = λ path line file is unserved. refl

pub returns-in-Ok-None-clause-unfetched : goal.returns-in-Ok-None-clause-unfetched
returns-in-Ok-None-clause-unfetched g c = λ path line file is unserved. refl

pub returns-in-Err-clause-unfetched : goal.returns-in-Err-clause-unfetched
returns-in-Err-clause-unfetched g c = λ path line file is unserved. refl

pub returns-in-Ok-Some-RunScratch-clause-unlogged : goal.returns-in-Ok-Some-RunScratch-clause-unlogged
returns-in-Ok-Some-RunScratch-clause-unlogged g c = λ no_file no_scratch.
    let a = c.in-Ok-Some-RunScratch in
    let asked = rw (a.field-0-is, a.field-0-0-is, c.as_slice.ensures.value) at a.ensures in
    absurd (no_scratch asked)

pub returns-in-Ok-Some-RunFile-clause-unlogged : goal.returns-in-Ok-Some-RunFile-clause-unlogged
returns-in-Ok-Some-RunFile-clause-unlogged g c = λ no_file no_scratch.
    let a = c.in-Ok-Some-RunFile in
    let asked = rw (a.field-0-is, a.field-0-0-is, c.as_slice.ensures.value) at a.ensures in
    absurd (no_file a.path.now asked)

pub returns-in-Ok-Some-Check-clause-unlogged : goal.returns-in-Ok-Some-Check-clause-unlogged
returns-in-Ok-Some-Check-clause-unlogged g c = λ no_file no_scratch. refl

pub returns-in-Ok-Some-Create-clause-unlogged : goal.returns-in-Ok-Some-Create-clause-unlogged
returns-in-Ok-Some-Create-clause-unlogged g c = λ no_file no_scratch. refl

pub returns-in-Ok-None-clause-unlogged : goal.returns-in-Ok-None-clause-unlogged
returns-in-Ok-None-clause-unlogged g c = λ no_file no_scratch. refl

pub returns-in-Err-clause-unlogged : goal.returns-in-Err-clause-unlogged
returns-in-Err-clause-unlogged g c = λ no_file no_scratch. refl
