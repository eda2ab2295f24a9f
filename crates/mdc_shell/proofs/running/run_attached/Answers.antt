use Rattle.std.proofs.Common.{◌⊎◌, ◌++◌, ℕ, List, Option, sym, subst, ◌∙◌, ap, refl}
use Rattle.page_file.proofs.LeavesLemmas.{sound_image}
use Rattle.session.specs.script.Told.{TellsMore}
use Rattle.session.specs.file.AnyServing.{RunsOnServed}
use Rattle.session.specs.file.Ending.{IsRefused}
use Rattle.mdc_shell.specs.Status.{SaysEnd, line_of_end, status_of}
use Rattle.mdc_shell.proofs.AnyRunsLemmas.{runs_any-said}
use Rattle.mdc_shell.proofs.RunsLemmas.{refused_time, reopens_file-said, runs_items-quiet, runs_path-ended, same_bytes, status_either, takes_by_status}
use Rattle.session.proofs.ToldLemmas.{same-told, tells_more-told, told_behind, told_then}
use Rattle.mdc_shell.proofs.GrowingLemmas.{grew_as}
use Rattle.mdc_shell.proofs.running.run_attached.Goals as goal

pub returns-clause-runs : goal.returns-clause-runs
returns-clause-runs g c = λ before said is told well.
    let run = c.serve_file-ended.ensures.runs before said is ((g.met.H.Host.lies_beside c.args.host).0 ∙ told) well in
    let quiet = c.end_run.ensures.quiet (runs_items-quiet run.run) in
    runs_path-ended g.H.Disk before said _ _ c.args.host c.serve_file-ended.result.host c.end_run.result.host c.serve_file-ended.result.end c.end_run.result.status.0 run quiet.0 quiet.1

pub returns-clause-served : goal.returns-clause-served
returns-clause-served g c =
    let lies = g.met.H.Host.lies_beside in
    let mid = c.serve_file-ended.result.host in
    let end_ = c.serve_file-ended.result.end in
    let script = g.I.Source.left c.args.input.now in
    let left = g.I.Source.left c.serve_file-ended.new.input in
    let first = (g.H.Disk.beside c.args.host).tape in
    let line_tape = g.H.Host.tape mid in
    record {
      end_ = end_;
      cause = c.serve_file-ended.ensures.cause;
      before_line = line_tape;
      kept = subst (λ (t : Option (List ℕ)). TellsMore t line_tape) (lies c.args.host).0 (subst (λ (t : Option (List ℕ)). TellsMore first t) (lies mid).0 c.serve_file-ended.ensures.told.1);
      any = subst (λ (t : Option (List ℕ)). IsRefused end_ ⊎ RunsOnServed (g.H.Disk.file c.args.host) script left t line_tape end_) (lies c.args.host).0
          (subst (λ (t : Option (List ℕ)). IsRefused end_ ⊎ RunsOnServed (g.H.Disk.file c.args.host) script left first t end_) (lies mid).0 c.serve_file-ended.ensures.any);
      ends = c.end_run.ensures.ends;
    }

pub returns-clause-stays_well : goal.returns-clause-stays_well
returns-clause-stays_well g c = λ before said is told well.
    let after = c.serve_file-ended.ensures.stays_well before said is ((g.met.H.Host.lies_beside c.args.host).0 ∙ told) well in
    (after.0, c.end_run.ensures.disk.same_file ∙ after.1, after.2)

pub returns-clause-reopens : goal.returns-clause-reopens
returns-clause-reopens g c = λ before said is told formed.
    let lies = g.met.H.Host.lies_beside in
    let disk = g.met.H.Disk in
    let mid = c.serve_file-ended.result.host in
    let served = c.serve_file-ended.ensures in
    let beside = (lies c.args.host).0 ∙ told in
    let after = served.told.0 before is in
    let heard = told_behind (g.H.Disk.beside c.args.host).tape (g.H.Disk.beside mid).tape served.told.1.0 said beside served.told.1.1 in
    reopens_file-said g.H.Disk before after.0 said (said ++ served.told.1.0) (g.I.Source.left c.args.input.now) (g.I.Source.left c.serve_file-ended.new.input) c.args.host mid c.end_run.result.host (g.H.Host.tape mid) (g.H.Host.tape c.end_run.result.host) c.serve_file-ended.result.end
    c.end_run.result.status.0 (disk.only_now c.args.host) (disk.only_now mid) (disk.earlier mid) is beside after.1 (sound_image (g.H.Disk.file mid) after.0 (disk.sound mid) after.1) heard
    (sym (lies mid).0 ∙ heard) (served.cause before is) c.end_run.ensures.ends c.end_run.ensures.time (served.reopens before said is beside formed)

pub returns-clause-runs_any : goal.returns-clause-runs_any
returns-clause-runs_any g c = λ before said is told is_served.
    let lies = g.met.H.Host.lies_beside in
    let disk = g.met.H.Disk in
    let mid = c.serve_file-ended.result.host in
    let served = c.serve_file-ended.ensures in
    let beside = (lies c.args.host).0 ∙ told in
    let after = served.told.0 before is in
    let heard = told_behind (g.H.Disk.beside c.args.host).tape (g.H.Disk.beside mid).tape served.told.1.0 said beside served.told.1.1 in
    runs_any-said g.H.Disk before said (g.I.Source.left c.args.input.now) (g.I.Source.left c.serve_file-ended.new.input) after.0 (said ++ served.told.1.0) c.args.host mid c.end_run.result.host (g.H.Host.tape mid)
    (g.H.Host.tape c.end_run.result.host) c.serve_file-ended.result.end c.end_run.result.status.0 (disk.only_now c.args.host) (disk.only_now mid) (disk.earlier mid) is beside after.1
    (sound_image (g.H.Disk.file mid) after.0 (disk.sound mid) after.1) heard (sym (lies mid).0 ∙ heard) c.end_run.ensures.ends c.end_run.ensures.time c.end_run.ensures.disk.same_file (served.runs_any before said is beside is_served)

pub returns-clause-stays_formed : goal.returns-clause-stays_formed
returns-clause-stays_formed g c = λ before said is told formed.
    let after = c.serve_file-ended.ensures.stays_formed before said is ((g.met.H.Host.lies_beside c.args.host).0 ∙ told) formed in
    (after.0, c.end_run.ensures.disk.same_file ∙ after.1, after.2)

pub returns-clause-refuses : goal.returns-clause-refuses
returns-clause-refuses g c = λ before said is told not_served.
    let lies = g.met.H.Host.lies_beside in
    let mid = c.serve_file-ended.result.host in
    let unopened = c.serve_file-ended.ensures.unopened before is not_served in
    let beside = (lies c.args.host).0 ∙ told in
    let tape = sym (lies mid).0 ∙ (unopened.2 ∙ beside) in (
      record {
        end_ = c.serve_file-ended.result.end;
        unopened = unopened.0;
        cause = c.serve_file-ended.ensures.cause before is;
        ends = subst (λ (t : Option (List ℕ)). SaysEnd t (g.H.Host.tape c.end_run.result.host) c.end_run.result.status.0 c.serve_file-ended.result.end) tape c.end_run.ensures.ends;
        time = refused_time g.H.Disk before said (line_of_end c.serve_file-ended.result.end) c.args.host mid c.end_run.result.host is beside (g.H.Host.tape mid) tape
            (c.serve_file-ended.ensures.left_alone before is not_served).0 c.end_run.ensures.time;
      },
      unopened.1,
    )

pub returns-clause-told : goal.returns-clause-told
returns-clause-told g c =
    let lies = g.met.H.Host.lies_beside in (
      told_then _ _ _ c.serve_file-ended.ensures.told.0 (same-told _ _ c.end_run.ensures.disk.same_file),
      λ was is. let mid = tells_more-told _ _ c.serve_file-ended.ensures.told.1 was ((lies c.args.host).0 ∙ is) in c.end_run.ensures.told mid.0 (sym (lies c.serve_file-ended.result.host).0 ∙ mid.1),
    )

pub returns-clause-keeps_refused : goal.returns-clause-keeps_refused
returns-clause-keeps_refused g c = λ before is not_served.
    let alone = c.serve_file-ended.ensures.left_alone before is not_served in
    let after = alone.0.told before is in (
      after.0,
      c.end_run.ensures.disk.same_file ∙ after.1,
      after.2,
      λ not_failed. same_bytes _ _ before after.0 is after.1 (alone.1 (λ ends. not_failed ((c.end_run.ensures.quiet (ap line_of_end ends)).1 ∙ ap status_of ends))),
    )

pub returns-clause-takes : goal.returns-clause-takes
returns-clause-takes g c =
    let left = g.I.Source.left in
    let end_ = c.serve_file-ended.result.end in
    takes_by_status (left c.args.input.now) (left c.serve_file-ended.new.input) end_ c.end_run.result.status.0 (λ refused. ap left (c.serve_file-ended.ensures.refused refused).0) c.serve_file-ended.ensures.takes
    (status_either _ _ c.end_run.result.status.0 end_ c.end_run.ensures.ends) (λ none. (c.end_run.ensures.quiet none).1)

pub serve_file-ended-requires-clause-origin : goal.serve_file-ended-requires-clause-origin
serve_file-ended-requires-clause-origin g c = refl

pub returns-clause-grew : goal.returns-clause-grew
returns-clause-grew g c = λ before after is now.
    grew_as before after.bytes (λ ends. (c.end_run.ensures.quiet (ap line_of_end ends)).1 ∙ ap status_of ends)
    (c.serve_file-ended.ensures.grew before after is (sym c.end_run.ensures.disk.same_file ∙ now))

pub returns-clause-log : goal.returns-clause-log
returns-clause-log g c = c.serve_file-ended.ensures.log

pub returns-clause-unfetched : goal.returns-clause-unfetched
returns-clause-unfetched g c = c.serve_file-ended.ensures.unfetched
