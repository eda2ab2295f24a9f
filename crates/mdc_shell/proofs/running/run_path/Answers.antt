use Rattle.std.proofs.Common.{◌∙◌, Some, ap, refl}
use Rattle.std.specs.Option.{option_map}
use Rattle.page_file.proofs.LeavesLemmas.{sound_image}
use Rattle.mdc_words.proofs.TimeLemmas.{over_time_wider}
use Rattle.mdc_outside.specs.Disk.{opened}
use Rattle.session.specs.declared.stop.Stop.TheVariants.{Device}
use Rattle.session.proofs.FetchedRunsLemmas.{fetches_same}
use Rattle.mdc_shell.proofs.AnyRunsLemmas.{runs_any-before, runs_any-opened}
use Rattle.mdc_shell.proofs.CreateLemmas.{tape_stays}
use Rattle.mdc_shell.proofs.RunsLemmas.{attach_failed, could_be_left-quiet, refuses_file-before, refuses_file-opened, reopens_file-before, reopens_file-opened, runs_path-before, runs_path-opened, says_end-quiet, serves_path-before, serves_path-opened, takes_none}
use Rattle.page_store.proofs.GrowingLemmas.{grew_not_at_all}
use Rattle.mdc_shell.proofs.running.run_path.Goals as goal

pub returns-in-Ok-clause-runs : goal.returns-in-Ok-clause-runs
returns-in-Ok-clause-runs g c = λ before said is told well.
    let lies = g.met.H.Host.lies_beside in
    let tape = tape_stays _ _ _ _ c.attach.ensures.beside (lies c.attach.new.self).0 (lies c.args.host).0 ∙ told in
    let meanwhile = over_time_wider c.attach.ensures.time (could_be_left-quiet _ _ before said is ((lies c.args.host).0 ∙ told)) in
    let run = c.run_attached.ensures.runs (opened before) said (c.in-Ok.ensures.opened ∙ ap (option_map opened) is) tape well in
    runs_path-opened g.H.Disk before said _ _ c.args.host c.attach.new.self c.run_attached.result.host c.run_attached.result.status.0 meanwhile run

pub returns-in-Ok-clause-stays_well : goal.returns-in-Ok-clause-stays_well
returns-in-Ok-clause-stays_well g c = λ before said is told well.
    let lies = g.met.H.Host.lies_beside in
    let tape = tape_stays _ _ _ _ c.attach.ensures.beside (lies c.attach.new.self).0 (lies c.args.host).0 ∙ told in
    c.run_attached.ensures.stays_well (opened before) said (c.in-Ok.ensures.opened ∙ ap (option_map opened) is) tape well

pub returns-in-Ok-clause-reopens : goal.returns-in-Ok-clause-reopens
returns-in-Ok-clause-reopens g c = λ before said is told formed.
    let lies = g.met.H.Host.lies_beside in
    let tape = tape_stays _ _ _ _ c.attach.ensures.beside (lies c.attach.new.self).0 (lies c.args.host).0 ∙ told in
    let meanwhile = over_time_wider c.attach.ensures.time (could_be_left-quiet _ _ before said is ((lies c.args.host).0 ∙ told)) in
    let run = c.run_attached.ensures.reopens (opened before) said (c.in-Ok.ensures.opened ∙ ap (option_map opened) is) tape formed in
    reopens_file-opened g.H.Disk before said _ _ _ c.args.host c.attach.new.self c.run_attached.result.host c.run_attached.result.status.0 meanwhile run

pub returns-in-Ok-clause-runs_any : goal.returns-in-Ok-clause-runs_any
returns-in-Ok-clause-runs_any g c = λ before said is told served.
    let lies = g.met.H.Host.lies_beside in
    let tape = tape_stays _ _ _ _ c.attach.ensures.beside (lies c.attach.new.self).0 (lies c.args.host).0 ∙ told in
    let meanwhile = over_time_wider c.attach.ensures.time (could_be_left-quiet _ _ before said is ((lies c.args.host).0 ∙ told)) in
    let run = c.run_attached.ensures.runs_any (opened before) said (c.in-Ok.ensures.opened ∙ ap (option_map opened) is) tape served in
    runs_any-opened g.H.Disk before said _ _ _ c.args.host c.attach.new.self c.run_attached.result.host c.run_attached.result.status.0 meanwhile run

pub returns-in-Ok-clause-stays_formed : goal.returns-in-Ok-clause-stays_formed
returns-in-Ok-clause-stays_formed g c = λ before said is told formed.
    let lies = g.met.H.Host.lies_beside in
    let tape = tape_stays _ _ _ _ c.attach.ensures.beside (lies c.attach.new.self).0 (lies c.args.host).0 ∙ told in
    c.run_attached.ensures.stays_formed (opened before) said (c.in-Ok.ensures.opened ∙ ap (option_map opened) is) tape formed

pub returns-in-Ok-clause-refuses : goal.returns-in-Ok-clause-refuses
returns-in-Ok-clause-refuses g c = λ before said is told not_served.
    let lies = g.met.H.Host.lies_beside in
    let tape = tape_stays _ _ _ _ c.attach.ensures.beside (lies c.attach.new.self).0 (lies c.args.host).0 ∙ told in
    let meanwhile = over_time_wider c.attach.ensures.time (could_be_left-quiet _ _ before said is ((lies c.args.host).0 ∙ told)) in
    let refuses = c.run_attached.ensures.refuses (opened before) said (c.in-Ok.ensures.opened ∙ ap (option_map opened) is) tape not_served in
    (refuses_file-opened g.H.Disk before said _ c.args.host c.attach.new.self c.run_attached.result.host c.run_attached.result.status.0 meanwhile refuses.0, refuses.1)

pub returns-in-Ok-clause-served : goal.returns-in-Ok-clause-served
returns-in-Ok-clause-served g c =
    let lies = g.met.H.Host.lies_beside in
    serves_path-opened _ _ _ _ _ _ _ _ c.in-Ok.ensures.opened (tape_stays _ _ _ _ c.attach.ensures.beside (lies c.attach.new.self).0 (lies c.args.host).0) c.run_attached.ensures.served

pub returns-in-Err-clause-served : goal.returns-in-Err-clause-served
returns-in-Err-clause-served g c =
    let lies = g.met.H.Host.lies_beside in
    serves_path-before _ _ _ _ Device tt (tape_stays _ _ _ _ c.attach.ensures.beside (lies c.attach.new.self).0 (lies c.args.host).0)

pub returns-in-Err-clause-runs : goal.returns-in-Err-clause-runs
returns-in-Err-clause-runs g c = λ before said is told well.
    let lies = g.met.H.Host.lies_beside in
    let meanwhile = over_time_wider c.attach.ensures.time (could_be_left-quiet _ _ before said is ((lies c.args.host).0 ∙ told)) in
    runs_path-before g.H.Disk before said _ c.args.host c.attach.new.self Device well (c.nothing_is_run.ensures.well before.bytes said _ Device tt well) refl
    (ap (λ b. b.tape) c.attach.ensures.beside ∙ ((lies c.args.host).0 ∙ told)) meanwhile

pub returns-in-Err-clause-stays_well : goal.returns-in-Err-clause-stays_well
returns-in-Err-clause-stays_well g c = λ before said is told well. (before, attach_failed _ _ c.in-Err.ensures.file_failed ∙ is, well)

pub returns-in-Err-clause-reopens : goal.returns-in-Err-clause-reopens
returns-in-Err-clause-reopens g c = λ before said is told formed.
    let lies = g.met.H.Host.lies_beside in
    let tape = tape_stays _ _ _ _ c.attach.ensures.beside (lies c.attach.new.self).0 (lies c.args.host).0 ∙ told in
    let meanwhile = over_time_wider c.attach.ensures.time (could_be_left-quiet _ _ before said is ((lies c.args.host).0 ∙ told)) in
    reopens_file-before g.H.Disk before said _ _ c.args.host c.attach.new.self Device tt tape meanwhile

pub returns-in-Err-clause-runs_any : goal.returns-in-Err-clause-runs_any
returns-in-Err-clause-runs_any g c = λ before said is told served.
    let lies = g.met.H.Host.lies_beside in
    let tape = tape_stays _ _ _ _ c.attach.ensures.beside (lies c.attach.new.self).0 (lies c.args.host).0 ∙ told in
    let meanwhile = over_time_wider c.attach.ensures.time (could_be_left-quiet _ _ before said is ((lies c.args.host).0 ∙ told)) in
    runs_any-before g.H.Disk before said _ _ c.args.host c.attach.new.self Device tt (says_end-quiet (Some said) _ Device tt tape) meanwhile

pub returns-in-Err-clause-stays_formed : goal.returns-in-Err-clause-stays_formed
returns-in-Err-clause-stays_formed g c = λ before said is told formed. (before, attach_failed _ _ c.in-Err.ensures.file_failed ∙ is, formed)

pub returns-in-Err-clause-refuses : goal.returns-in-Err-clause-refuses
returns-in-Err-clause-refuses g c = λ before said is told not_served.
    let lies = g.met.H.Host.lies_beside in
    let tape = tape_stays _ _ _ _ c.attach.ensures.beside (lies c.attach.new.self).0 (lies c.args.host).0 ∙ told in
    let meanwhile = over_time_wider c.attach.ensures.time (could_be_left-quiet _ _ before said is ((lies c.args.host).0 ∙ told)) in
    (refuses_file-before g.H.Disk before said _ c.args.host c.attach.new.self Device tt tape meanwhile, refl)

pub returns-in-Ok-clause-keeps_refused : goal.returns-in-Ok-clause-keeps_refused
returns-in-Ok-clause-keeps_refused g c = λ before is not_served. c.run_attached.ensures.keeps_refused (opened before) (c.in-Ok.ensures.opened ∙ ap (option_map opened) is) not_served

pub returns-in-Err-clause-keeps_refused : goal.returns-in-Err-clause-keeps_refused
returns-in-Err-clause-keeps_refused g c = λ before is not_served.
    (before, attach_failed _ _ c.in-Err.ensures.file_failed ∙ is, sound_image (g.H.Disk.file c.args.host) before (g.met.H.Disk.sound c.args.host) is, λ not_failed. refl)

pub returns-in-Err-clause-takes : goal.returns-in-Err-clause-takes
returns-in-Err-clause-takes g c = takes_none (g.I.Source.left c.args.input.now) 3 (λ e. absurd (cc)) (λ e. absurd (cc)) (λ e. absurd (cc))

pub returns-in-Ok-clause-grew : goal.returns-in-Ok-clause-grew
returns-in-Ok-clause-grew g c = λ before after is now. c.run_attached.ensures.grew (opened before) after (c.in-Ok.ensures.opened ∙ ap (option_map opened) is) now

pub returns-in-Err-clause-grew : goal.returns-in-Err-clause-grew
returns-in-Err-clause-grew g c = λ before after is now. grew_not_at_all before after (attach_failed _ _ c.in-Err.ensures.file_failed) is now

pub returns-in-Ok-clause-log : goal.returns-in-Ok-clause-log
returns-in-Ok-clause-log g c = c.run_attached.ensures.log

pub returns-in-Err-clause-log : goal.returns-in-Err-clause-log
returns-in-Err-clause-log g c = fetches_same refl

pub returns-in-Ok-clause-unfetched : goal.returns-in-Ok-clause-unfetched
returns-in-Ok-clause-unfetched g c = λ file is unserved. c.run_attached.ensures.unfetched (opened file) (c.in-Ok.ensures.opened ∙ ap (option_map opened) is) unserved

pub returns-in-Err-clause-unfetched : goal.returns-in-Err-clause-unfetched
returns-in-Err-clause-unfetched g c = λ file is unserved. refl
