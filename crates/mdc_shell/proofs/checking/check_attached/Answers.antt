-- What is said of the verdict, and then its line.
use Rattle.std.proofs.Common.{◌≡◌, ◌∙◌, ℕ, List, Option, Some, ap, subst, sym}
use Rattle.mdc_outside.specs.Disk.{File, IsImage}
use Rattle.page_file.proofs.LeavesLemmas.{sound_image}
use Rattle.page_store.specs.Opened.{file_bytes}
use Rattle.page_store.specs.Standing.{IsFormed}
use Rattle.session.proofs.ToldLemmas.{same-told, told_then}
use Rattle.file_verdict.specs.Resting.{StandsAsBefore}
use Rattle.file_verdict.specs.SoundFile.{IsSoundFile}
use Rattle.file_verdict.specs.Written.{IsSameOrOpened}
use Rattle.file_verdict.proofs.RestingLemmas.{each_since, leaves_since}
use Rattle.file_verdict.proofs.SoundFilesLemmas.{sound_standing}
use Rattle.session.specs.file.Well.{IsWell}
use Rattle.mdc_shell.specs.Check.{IsUnsettled, SaysVerdict, line_of_verdict, status_of_verdict}
use Rattle.mdc_shell.proofs.CheckLemmas.{checks_formed-said, done-sound, done_settled, no_verdict-quiet, no_verdict-unsettled, status-device, status-on_sound, status-one_of, status-unsaid, well_standing}
use Rattle.mdc_shell.proofs.CreateLemmas.{tape_stays}
use Rattle.mdc_shell.proofs.RunsLemmas.{refused_time, same_bytes}
use Rattle.mdc_shell.proofs.GrowingLemmas.{grew_as}
use Rattle.mdc_shell.proofs.checking.check_attached.Given.{Over}
use Rattle.mdc_shell.proofs.checking.check_attached.Goals as goal

-- the judge says nothing
same_tape : (g : Over) (c : goal.After-say_verdict g) → g.H.Host.tape c.judge_file-judged.result.host ≡ g.H.Host.tape c.args.host
same_tape g c =
    let lies = g.met.H.Host.lies_beside in
    tape_stays _ _ _ _ c.judge_file-judged.ensures.beside (lies c.judge_file-judged.result.host).0 (lies c.args.host).0

pub returns-clause-checks : goal.returns-clause-checks
returns-clause-checks g c = record {
  verdict = c.judge_file-judged.result.verdict;
  is_its = c.judge_file-judged.ensures.verdict;
  says = subst (λ (t : Option (List ℕ)). SaysVerdict t (g.H.Host.tape c.say_verdict.result.host) c.say_verdict.result.status.0 c.judge_file-judged.result.verdict) (same_tape g c) c.say_verdict.ensures.says;
}

pub returns-clause-statuses : goal.returns-clause-statuses
returns-clause-statuses g c = status-one_of _ _ c.say_verdict.result.status.0 c.judge_file-judged.result.verdict c.say_verdict.ensures.says

pub returns-clause-sound : goal.returns-clause-sound
returns-clause-sound g c = λ before is sound. status-on_sound _ _ c.say_verdict.result.status.0 c.judge_file-judged.result.verdict (c.judge_file-judged.ensures.sound before is sound) c.say_verdict.ensures.says

pub returns-clause-formed : goal.returns-clause-formed
returns-clause-formed g c = λ before said is told formed.
    let lies = g.met.H.Host.lies_beside in
    let disk = g.met.H.Disk in
    let judged = c.judge_file-judged.ensures in
    let mid = c.judge_file-judged.result.host in
    let beside = (lies c.args.host).0 ∙ told in
    let after = judged.told before is in
    checks_formed-said g.H.Disk before after.0 said c.args.host mid c.say_verdict.result.host (g.H.Host.tape mid) (g.H.Host.tape c.say_verdict.result.host) c.judge_file-judged.result.verdict c.say_verdict.result.status.0
    (disk.only_now mid) (disk.earlier mid) after.1 (ap (λ b. b.tape) judged.beside ∙ beside) (same_tape g c ∙ told) (judged.verdict before is) c.say_verdict.ensures.says c.say_verdict.ensures.quiet c.say_verdict.ensures.time
    (judged.rests before said is beside formed)

pub returns-clause-unserved : goal.returns-clause-unserved
returns-clause-unserved g c = λ before said is told not_served.
    let judged = c.judge_file-judged.ensures in
    let verdict = c.judge_file-judged.result.verdict in
    let mid = c.judge_file-judged.result.host in
    let tape = same_tape g c ∙ told in
    record {
      verdict = verdict;
      is_its = judged.verdict before is;
      says = subst (λ (t : Option (List ℕ)). SaysVerdict t (g.H.Host.tape c.say_verdict.result.host) c.say_verdict.result.status.0 verdict) tape c.say_verdict.ensures.says;
      time = refused_time g.H.Disk before said (line_of_verdict verdict) c.args.host mid c.say_verdict.result.host is ((g.met.H.Host.lies_beside c.args.host).0 ∙ told) (g.H.Host.tape mid) tape
          (judged.left_alone before is not_served).0 c.say_verdict.ensures.time;
    }

pub returns-clause-keeps_unserved : goal.returns-clause-keeps_unserved
returns-clause-keeps_unserved g c = λ before is not_served.
    let alone = c.judge_file-judged.ensures.left_alone before is not_served in
    let after = alone.0.told before is in (
      after.0,
      c.say_verdict.ensures.disk.same_file ∙ after.1,
      after.2,
      λ not_failed. same_bytes _ _ before after.0 is after.1 (alone.1 (λ e. not_failed ((c.say_verdict.ensures.quiet (ap line_of_verdict e)).1 ∙ ap status_of_verdict e))),
    )

pub returns-clause-writes : goal.returns-clause-writes
returns-clause-writes g c = λ file is.
    let verdict = c.judge_file-judged.result.verdict in
    let judged = c.judge_file-judged.ensures.writes file is in
    let same = ap file_bytes c.say_verdict.ensures.disk.same_file in
    record {
      at_most = λ not_failed.
          subst (IsSameOrOpened file.bytes) (sym same) (judged.at_most (λ e. not_failed ((c.say_verdict.ensures.quiet (ap line_of_verdict e)).1 ∙ ap status_of_verdict e)));
      opened = λ settled served.
          same ∙ judged.opened (λ none. settled (subst IsUnsettled (sym (c.say_verdict.ensures.quiet (no_verdict-quiet verdict none)).1) (no_verdict-unsettled verdict none))) served;
    }

pub returns-clause-stands : goal.returns-clause-stands
returns-clause-stands g c = λ before said is told formed settled.
    let verdict = c.judge_file-judged.result.verdict in
    let after = c.judge_file-judged.ensures.leaves before said is ((g.met.H.Host.lies_beside c.args.host).0 ∙ told) formed
    (λ none. settled (subst IsUnsettled (sym (c.say_verdict.ensures.quiet (no_verdict-quiet verdict none)).1) (no_verdict-unsettled verdict none))) in
    (after.0, c.say_verdict.ensures.disk.same_file ∙ after.1, after.2)

pub returns-clause-found_sound : goal.returns-clause-found_sound
returns-clause-found_sound g c = λ before said is told zero.
    let sound = done-sound before.bytes _ _ c.say_verdict.result.status.0 c.judge_file-judged.result.verdict zero c.say_verdict.ensures.says (c.judge_file-judged.ensures.verdict before is) in
    let after = returns-clause-stands g c before said is told sound.formed (λ unsettled. done_settled zero unsettled) in
    (after.0, after.1, λ image left. sound_standing before.bytes image (after.2 image left) sound)

pub returns-clause-found_well : goal.returns-clause-found_well
returns-clause-found_well g c = λ before said is told zero well.
    let after = returns-clause-stands g c before said is told well.formed (λ unsettled. done_settled zero unsettled) in
    (after.0, after.1, λ image left. well_standing before.bytes image (after.2 image left) well)

-- where each image is of a kind that what stands for the file keeps, each is so behind the check
each_kept : (g : Over) (c : goal.After-say_verdict g) (Kind : List ℕ → Type 0) → (before : File) (said : List ℕ) → g.H.Disk.file c.args.host ≡ Some before → g.H.Host.tape c.args.host ≡ Some said → IsFormed before.bytes
    → ((image : List ℕ) → StandsAsBefore before.bytes image → Kind image) → ((image : List ℕ) → IsImage before.since image → Kind image)
    → (after : File) × (g.H.Disk.file c.say_verdict.result.host ≡ Some after) × ((image : List ℕ) → IsImage after.since image → Kind image)
each_kept g c Kind before said is told formed keeps were =
    let lies = g.met.H.Host.lies_beside in
    let disk = g.met.H.Disk in
    let judged = c.judge_file-judged.ensures in
    let mid = c.judge_file-judged.result.host in
    let beside = (lies c.args.host).0 ∙ told in
    let after = judged.told before is in (
      after.0,
      c.say_verdict.ensures.disk.same_file ∙ after.1,
      each_since g.H.Disk Kind before after.0 said said c.args.host mid (λ image tape. StandsAsBefore before.bytes image × (tape ≡ said)) (disk.only_now c.args.host) (disk.only_now mid) (disk.earlier mid) is beside after.1
          (ap (λ b. b.tape) judged.beside ∙ beside) (λ image tape left. keeps image left.0) were (leaves_since g.H.Disk before said _ c.args.host mid (judged.rests before said is beside formed)),
    )

pub returns-clause-stays_sound : goal.returns-clause-stays_sound
returns-clause-stays_sound g c = λ before said is told sound.
    let first = sound before.bytes (sound_image (g.H.Disk.file c.args.host) before (g.met.H.Disk.sound c.args.host) is) in
    each_kept g c IsSoundFile before said is told first.formed (λ image stands. sound_standing before.bytes image stands first) sound

pub returns-clause-stays_well : goal.returns-clause-stays_well
returns-clause-stays_well g c = λ before said is told well.
    let first = well before.bytes (sound_image (g.H.Disk.file c.args.host) before (g.met.H.Disk.sound c.args.host) is) in
    each_kept g c IsWell before said is told first.formed (λ image stands. well_standing before.bytes image stands first) well

pub returns-clause-disk : goal.returns-clause-disk
returns-clause-disk g c = status-device _ _ c.say_verdict.result.status.0 c.judge_file-judged.result.verdict _ _ _ c.say_verdict.ensures.says (λ none. (c.say_verdict.ensures.quiet none).1) c.say_verdict.ensures.disk.same_faults
    c.judge_file-judged.ensures.device

pub returns-clause-says : goal.returns-clause-says
returns-clause-says g c =
    let lies = g.met.H.Host.lies_beside in
    status-unsaid c.judge_file-judged.result.verdict c.say_verdict.result.status.0 _ _ _ (sym (lies c.judge_file-judged.result.host).1 ∙ (ap (λ b. b.say_faults) c.judge_file-judged.ensures.beside ∙ (lies c.args.host).1))
    (λ none. let quiet = c.say_verdict.ensures.quiet none in (ap (λ host. g.H.Host.say_faults host) quiet.0, quiet.1)) c.say_verdict.ensures.unsaid

pub returns-clause-told : goal.returns-clause-told
returns-clause-told g c = (
  told_then _ _ _ c.judge_file-judged.ensures.told (same-told _ _ c.say_verdict.ensures.disk.same_file),
  λ was is. c.say_verdict.ensures.told was (same_tape g c ∙ is),
)

pub returns-clause-grew : goal.returns-clause-grew
returns-clause-grew g c = λ before after is now.
    grew_as before after.bytes (λ failed. (c.say_verdict.ensures.quiet (ap line_of_verdict failed)).1 ∙ ap status_of_verdict failed)
    (c.judge_file-judged.ensures.grew before after is (sym c.say_verdict.ensures.disk.same_file ∙ now))
