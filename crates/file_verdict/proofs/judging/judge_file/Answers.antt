-- The verdict on the store that was opened, or that of a refusal.
use Rattle.std.proofs.Common.{◌≡◌, ℕ, List, Option, Some, ap, inl, inr, refl, subst, ◌∙◌, arith}
use Rattle.std.specs.Option.{option_map}
use Rattle.mdc_words.proofs.FaultsLemmas.{counts_fault_as, counts_fault_then}
use Rattle.mdc_outside.specs.Disk.{File, IsImage}
use Rattle.store_api.specs.declared.shape.Shape.{Shape}
use Rattle.table_trees.specs.ToldPages.{PageList}
use Rattle.page_store.proofs.Judged.{served_formed}
use Rattle.page_store.specs.Faults.{MayComeFirst}
use Rattle.page_store.specs.Opened.{file_bytes, opened_bytes}
use Rattle.page_store.specs.Standing.{pages_in}
use Rattle.file_verdict.specs.Resting.{ComesToRest, StandsAsBefore}
use Rattle.file_verdict.specs.SoundFile.{StatesExtents}
use Rattle.file_verdict.specs.Verdict.{IsNoVerdict, IsVerdictOnPages}
use Rattle.file_verdict.proofs.GrowingLemmas.{grew_opened, grew_unopened}
use Rattle.file_verdict.proofs.JudgingLemmas.{answer_on_sound, judged_left, no_verdict_on_sound, verdict_on_file}
use Rattle.file_verdict.proofs.RestingLemmas.{goes_on, kept_beside, left_at_rest, rests_on_file, rests_refused, stays_attached, stays_file}
use Rattle.file_verdict.proofs.SoundFilesLemmas.{refused_served, sound_is_served, stands_before, states_stood}
use Rattle.file_verdict.proofs.judging.judge_file.Given.{Over}
use Rattle.file_verdict.proofs.judging.judge_file.Goals as goal

-- ---- a store was opened

-- the verdict on the pages of the file
pages_judged : (g : Over) (c : goal.After-judge_store g) (before : File) → g.H.Disk.file c.args.host ≡ Some before
    → (shape : Shape) × StatesExtents before.bytes shape × IsVerdictOnPages shape (pages_in before.bytes) c.judge_store.result.verdict
pages_judged g c before is =
    let opened = c.in-Ok.ensures in
    let after = opened.opens.told before is in
    let served = opened.served before is in
    let judged = c.judge_store.ensures.judges after.0 after.1 in
    let work = ap (λ state. state.work) opened.just_opened ∙ served.1 in (
      judged.0,
      states_stood before.bytes after.0.bytes (pages_in before.bytes) judged.0 (after.2.1 (served_formed before.bytes served.0)) judged.1,
      subst (λ (pages : PageList). IsVerdictOnPages judged.0 pages c.judge_store.result.verdict) work judged.2,
    )

-- the check comes to rest
rests : (g : Over) (c : goal.After-judge_store g) (before : File) (said : List ℕ) → g.H.Disk.file c.args.host ≡ Some before → (g.H.Disk.beside c.args.host).tape ≡ Some said
    → ComesToRest g.H.Disk before said (λ image tape. StandsAsBefore before.bytes image × (tape ≡ said)) c.args.host c.judge_store.result.host
rests g c before said is told =
    let opened = c.in-Ok.ensures in
    let store = c.in-Ok.store in
    let after = opened.opens.told before is in
    let served = opened.served before is in
    let stands = after.2.1 (served_formed before.bytes served.0) in
    let leaves = c.judge_store.ensures.leaves after.0 said after.1 (ap (λ b. b.tape) opened.opens.beside ∙ told) in
    rests_on_file g.H.Disk _ store before said (λ image tape. StandsAsBefore before.bytes image × (tape ≡ said)) c.args.host store.host c.judge_store.result.host
    (judged_left _ g.H.Disk store c.judge_store.result.host before.bytes after.0.bytes said (served_formed before.bytes served.0) stands served.1 leaves)
    (opened.opens.crash before said is told) refl c.judge_store.ensures.later (λ t pages heard left. (left.4, left.5)) (opened.base_since before is said)

pub returns-in-Ok-clause-verdict : goal.returns-in-Ok-clause-verdict
returns-in-Ok-clause-verdict g c = λ before is.
    let judged = pages_judged g c before is in
    verdict_on_file before.bytes judged.0 c.judge_store.result.verdict (c.in-Ok.ensures.served before is).0 judged.1 judged.2

pub returns-in-Ok-clause-sound : goal.returns-in-Ok-clause-sound
returns-in-Ok-clause-sound g c = λ before is sound.
    let judged = pages_judged g c before is in
    answer_on_sound c.sound_pages_break_no_rule.ensures before.bytes judged.0 c.judge_store.result.verdict judged.1 judged.2 sound

pub returns-in-Ok-clause-rests : goal.returns-in-Ok-clause-rests
returns-in-Ok-clause-rests g c = λ before said is told formed. inl (rests g c before said is told)

pub returns-in-Ok-clause-beside : goal.returns-in-Ok-clause-beside
returns-in-Ok-clause-beside g c = c.judge_store.ensures.beside ∙ c.in-Ok.ensures.opens.beside

pub returns-in-Ok-clause-told : goal.returns-in-Ok-clause-told
returns-in-Ok-clause-told g c = λ before is.
    let half = c.in-Ok.ensures.opens.told before is in
    c.judge_store.ensures.told half.0 half.1

-- each image that is left at the end stands for the file
at_rest : (g : Over) (c : goal.After-judge_store g) (before : File) (said : List ℕ) → g.H.Disk.file c.args.host ≡ Some before → (g.H.Disk.beside c.args.host).tape ≡ Some said
    → (after : File) → g.H.Disk.file c.judge_store.result.host ≡ Some after → (image : List ℕ) → IsImage after.since image → StandsAsBefore before.bytes image
at_rest g c before said is told after is_after image left =
    let new = c.judge_store.result.host in
    (left_at_rest g.H.Disk before after said said c.args.host new (λ image tape. StandsAsBefore before.bytes image × (tape ≡ said)) (g.met.H.Disk.only_now new) (g.met.H.Disk.earlier new)
    is_after (ap (λ b. b.tape) (c.judge_store.ensures.beside ∙ c.in-Ok.ensures.opens.beside) ∙ told) (rests g c before said is told) image left).0

pub returns-in-Ok-clause-leaves : goal.returns-in-Ok-clause-leaves
returns-in-Ok-clause-leaves g c = λ before said is told formed judged.
    let after = returns-in-Ok-clause-told g c before is in
    (after.0, after.1, at_rest g c before said is told after.0 after.1)

pub returns-in-Ok-clause-left_alone : goal.returns-in-Ok-clause-left_alone
returns-in-Ok-clause-left_alone g c = λ file is unserved. absurd (unserved (c.in-Ok.ensures.served file is).0)

pub returns-in-Ok-clause-writes : goal.returns-in-Ok-clause-writes
returns-in-Ok-clause-writes g c = λ file is.
    let opened = c.in-Ok.ensures in
    let after : file_bytes (g.H.Disk.file c.judge_store.result.host) ≡ Some (opened_bytes file.bytes) =
    c.judge_store.ensures.same_bytes ∙ (opened.writes ∙ ap (λ (told : Option File). option_map opened_bytes (file_bytes told)) is) in
    record { at_most = λ other. inr ((opened.served file is).0, after); opened = λ judged served. after }

pub returns-in-Ok-clause-grew : goal.returns-in-Ok-clause-grew
returns-in-Ok-clause-grew g c = grew_opened g.H.Disk c.args.host c.in-Ok.store.host c.judge_store.result.host c.in-Ok.ensures.opens c.judge_store.ensures.same_bytes

pub returns-in-Ok-clause-device : goal.returns-in-Ok-clause-device
returns-in-Ok-clause-device g c = counts_fault_then c.in-Ok.ensures.count c.judge_store.ensures.device

pub returns-in-Ok-clause-attaches : goal.returns-in-Ok-clause-attaches
returns-in-Ok-clause-attaches g c = c.judge_store.ensures.attaches ∙ c.in-Ok.ensures.opens.listed

pub returns-in-Ok-clause-later : goal.returns-in-Ok-clause-later
returns-in-Ok-clause-later g c = omega (arith, c.in-Ok.ensures.opens.later, c.judge_store.ensures.later)

-- ---- none was opened

pub returns-in-Err-clause-verdict : goal.returns-in-Err-clause-verdict
returns-in-Err-clause-verdict g c = λ before is. c.verdict_of_opening.ensures.is_its before.bytes (c.in-Err.ensures.refused before is)

pub returns-in-Err-clause-sound : goal.returns-in-Err-clause-sound
returns-in-Err-clause-sound g c = λ before is sound.
    no_verdict_on_sound c.verdict_of_opening.result
    (c.verdict_of_opening.ensures.no_verdict (refused_served c.in-Err.field-0.fault before.bytes (sound_is_served before.bytes sound) (c.in-Err.ensures.refused before is)))

pub returns-in-Err-clause-rests : goal.returns-in-Err-clause-rests
returns-in-Err-clause-rests g c = λ before said is told formed.
    rests_refused g.H.Disk before said (λ image tape. StandsAsBefore before.bytes image × (tape ≡ said)) c.args.host c.in-Err.field-0.host (MayComeFirst c.in-Err.field-0.fault) (IsNoVerdict c.verdict_of_opening.result)
    (λ image heard stands same. (stands_before before.bytes image formed (stands.1 formed), same)) c.verdict_of_opening.ensures.no_verdict is told c.in-Err.ensures.opens_or_leaves

pub returns-in-Err-clause-told : goal.returns-in-Err-clause-told
returns-in-Err-clause-told g c = stays_file g.H.Disk c.args.host c.in-Err.field-0.host (MayComeFirst c.in-Err.field-0.fault) c.in-Err.ensures.opens_or_leaves

pub returns-in-Err-clause-leaves : goal.returns-in-Err-clause-leaves
returns-in-Err-clause-leaves g c = λ before said is told formed judged. elim c.in-Err.ensures.opens_or_leaves [
  | inl opens ↦ let after = opens.told before is in (after.0, after.1, λ image left. stands_before before.bytes image formed ((after.3 image left).1 formed))
  | inr first ↦ absurd (judged (c.verdict_of_opening.ensures.no_verdict first.0))
]

pub returns-in-Err-clause-left_alone : goal.returns-in-Err-clause-left_alone
returns-in-Err-clause-left_alone g c = λ file is unserved. (c.in-Err.ensures.unserved file is unserved, λ other. c.in-Err.ensures.untouched (λ fault. other (c.verdict_of_opening.ensures.device.1 fault)))

pub returns-in-Err-clause-writes : goal.returns-in-Err-clause-writes
returns-in-Err-clause-writes g c = λ file is. record {
  at_most = λ other. inl (c.in-Err.ensures.untouched (λ fault. other (c.verdict_of_opening.ensures.device.1 fault)) ∙ ap file_bytes is);
  opened = λ judged served. absurd (judged (c.verdict_of_opening.ensures.no_verdict (refused_served c.in-Err.field-0.fault file.bytes served (c.in-Err.ensures.refused file is))));
}

pub returns-in-Err-clause-grew : goal.returns-in-Err-clause-grew
returns-in-Err-clause-grew g c = grew_unopened g.H.Disk c.args.host c.in-Err.field-0.host c.in-Err.field-0.fault c.verdict_of_opening.ensures.device.1 c.in-Err.ensures.untouched c.in-Err.ensures.opens_or_leaves

pub returns-in-Err-clause-device : goal.returns-in-Err-clause-device
returns-in-Err-clause-device g c = counts_fault_as c.verdict_of_opening.ensures.device.0 c.verdict_of_opening.ensures.device.1 c.in-Err.ensures.cause

pub returns-in-Err-clause-beside : goal.returns-in-Err-clause-beside
returns-in-Err-clause-beside g c = kept_beside g.H.Disk c.args.host c.in-Err.field-0.host (MayComeFirst c.in-Err.field-0.fault) c.in-Err.ensures.opens_or_leaves

pub returns-in-Err-clause-attaches : goal.returns-in-Err-clause-attaches
returns-in-Err-clause-attaches g c = stays_attached g.H.Disk c.args.host c.in-Err.field-0.host (MayComeFirst c.in-Err.field-0.fault) c.in-Err.ensures.opens_or_leaves

pub returns-in-Err-clause-later : goal.returns-in-Err-clause-later
returns-in-Err-clause-later g c = goes_on g.H.Disk c.args.host c.in-Err.field-0.host (MayComeFirst c.in-Err.field-0.fault) c.in-Err.ensures.opens_or_leaves
