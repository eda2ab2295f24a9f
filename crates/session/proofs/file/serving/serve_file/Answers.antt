-- A run on the store that was opened, or a refusal.
use Rattle.std.proofs.Common.{◌++◌, Err, List, Option, ap, inl, inr, refl, subst, sym, ℕ, ◌∙◌}
use Rattle.mdc_words.proofs.FaultsLemmas.{counts_fault_then}
use Rattle.mdc_outside.specs.Disk.{File}
use Rattle.page_file.proofs.LeavesLemmas.{one_file, sound_image}
use Rattle.page_store.proofs.FrontAgreesLemmas.{front_agrees_stays}
use Rattle.page_store.proofs.GrowingLemmas.{grew_where}
use Rattle.page_store.proofs.Judged.{served_formed}
use Rattle.page_store.specs.Faults.{MayComeFirst}
use Rattle.page_store.specs.Opened.{file_bytes}
use Rattle.page_store.specs.Standing.{FrontAgrees, pages_in}
use Rattle.session.specs.script.Told.{TellsMore}
use Rattle.session.proofs.FetchedRunsLemmas.{fetches_more_then, fetches_same}
use Rattle.session.proofs.ToldLemmas.{same-tells_more, told_behind}
use Rattle.session.proofs.AnyFileRunsLemmas.{any_refused_on_file, any_run_opened, any_served_on_file, any_unopened, tells_still}
use Rattle.session.proofs.CausesLemmas.{cause_of_opening, cause_of_script, not_device}
use Rattle.session.proofs.FirstEndsLemmas.{takes_unopened}
use Rattle.session.proofs.FileRunsLemmas.{refused_on_file, run_on_file, stays_well}
use Rattle.session.proofs.FormedRunsLemmas.{formed_after, formed_on_file, formed_refused, rests_or_before}
use Rattle.session.proofs.GrowingLemmas.{grew_picked, picked_as_read, stops_for_device, told_first}
use Rattle.file_verdict.proofs.GrowingLemmas.{grew_unopened}
use Rattle.file_verdict.proofs.RestingLemmas.{kept_beside, stays_file}
use Rattle.file_verdict.proofs.SoundFilesLemmas.{states_standing}
use Rattle.file_verdict.proofs.ToldLemmas.{test_by_told}
use Rattle.session.proofs.WellFilesLemmas.{sound_opened, stop_of_well, well_is_served}
use Rattle.session.proofs.file.serving.serve_file.Goals as goal

pub returns-in-Ok-clause-runs : goal.returns-in-Ok-clause-runs
returns-in-Ok-clause-runs g c = λ before said is told well.
    let opened = c.in-Ok.ensures in
    let store = c.in-Ok.store in
    let after = opened.opens.told before is in
    let base = (opened.served before is).1 in
    let states = states_standing before.bytes after.0.bytes (pages_in before.bytes) well.shape (after.2.1 well.formed) well.states in
    let tells = test_by_told (g.H.Disk.file c.args.host) before is in
    let sound = sound_opened _ store before.bytes _ (g.H.Host.tape c.args.host) store.desk.shape (g.H.Disk.attaches c.args.host) (g.L.FetchLog.told c.take.result) well tells opened.just_opened base in
    let serves = c.serve_store.ensures.runs after.0 said after.1 (ap (λ b. b.tape) opened.opens.beside ∙ told) well.shape states sound in
    run_on_file g.H.Disk _ store before said (g.I.Source.left c.args.input.now) (g.I.Source.left c.serve_store.new.input) c.args.host store.host c.serve_store.result.host well.shape c.serve_store.result.end
    (g.L.FetchLog.told c.args.log.now) (g.L.FetchLog.told c.serve_store.new.log) well.states serves (ap (λ state. state.fetched) opened.just_opened ∙ c.take.ensures) base (g.met.H.Disk.only_now c.args.host) is told (opened.opens.crash before said is told) refl c.serve_store.ensures.later (λ t pages heard left. (left.4, left.5)) (opened.base_since before is said)

pub returns-in-Ok-clause-told : goal.returns-in-Ok-clause-told
returns-in-Ok-clause-told g c =
    let opens = c.in-Ok.ensures.opens in
    let Tells : Option (List ℕ) → Type 0 = λ tape. TellsMore tape (g.H.Disk.beside c.serve_store.result.host).tape in (
      λ was is. let half = opens.told was is in c.serve_store.ensures.told.0 half.0 half.1,
      subst Tells (ap (λ b. b.tape) opens.beside) c.serve_store.ensures.told.1,
    )

pub returns-in-Ok-clause-stays_well : goal.returns-in-Ok-clause-stays_well
returns-in-Ok-clause-stays_well g c = λ before said is told well.
    let new = c.serve_store.result.host in
    let after = (returns-in-Ok-clause-told g c).0 before is in
    let first = well before.bytes (sound_image (g.H.Disk.file c.args.host) before (g.met.H.Disk.sound c.args.host) is) in (
      after.0,
      after.1,
      stays_well g.H.Disk before after.0 said (g.I.Source.left c.args.input.now) (g.I.Source.left c.serve_store.new.input) c.args.host new c.serve_store.result.end
          (g.met.H.Disk.only_now c.args.host) (g.met.H.Disk.only_now new) (g.met.H.Disk.earlier new) is told after.1 well (returns-in-Ok-clause-runs g c before said is told first),
    )

pub returns-in-Ok-clause-cause : goal.returns-in-Ok-clause-cause
returns-in-Ok-clause-cause g c = λ before is.
    let opened = c.in-Ok.ensures in
    let after = opened.opens.told before is in
    let tells = test_by_told (g.H.Disk.file c.args.host) before is in
    cause_of_script before.bytes c.serve_store.result.end (opened.served before is).0 c.serve_store.ensures.takes.0 (λ damage ends well.
    c.serve_store.ensures.damaged damage ends after.0 after.1 well.shape (states_standing before.bytes after.0.bytes (pages_in before.bytes) well.shape (after.2.1 well.formed) well.states)
    (sound_opened _ c.in-Ok.store before.bytes _ (g.H.Host.tape c.args.host) c.in-Ok.store.desk.shape (g.H.Disk.attaches c.args.host) (g.L.FetchLog.told c.take.result) well tells opened.just_opened (opened.served before is).1))

pub returns-in-Ok-clause-log : goal.returns-in-Ok-clause-log
returns-in-Ok-clause-log g c = fetches_more_then (fetches_same (ap (λ state. state.fetched) c.in-Ok.ensures.just_opened ∙ c.take.ensures)) c.serve_store.ensures.log

pub returns-in-Err-clause-log : goal.returns-in-Err-clause-log
returns-in-Err-clause-log g c = fetches_same (c.in-Err.ensures.unnoted ∙ c.take.ensures)

pub returns-in-Ok-clause-unfetched : goal.returns-in-Ok-clause-unfetched
returns-in-Ok-clause-unfetched g c = λ file is unserved. absurd (unserved (c.in-Ok.ensures.served file is).0)

pub returns-in-Err-clause-unfetched : goal.returns-in-Err-clause-unfetched
returns-in-Err-clause-unfetched g c = λ file is unserved. c.in-Err.ensures.unnoted ∙ c.take.ensures

pub returns-in-Ok-clause-unopened : goal.returns-in-Ok-clause-unopened
returns-in-Ok-clause-unopened g c = λ file is unserved. absurd (unserved (c.in-Ok.ensures.served file is).0)

pub returns-in-Ok-clause-left_alone : goal.returns-in-Ok-clause-left_alone
returns-in-Ok-clause-left_alone g c = λ file is unserved. absurd (unserved (c.in-Ok.ensures.served file is).0)

pub returns-in-Ok-clause-takes : goal.returns-in-Ok-clause-takes
returns-in-Ok-clause-takes g c = inr c.serve_store.ensures.takes

pub returns-in-Ok-clause-unsaid : goal.returns-in-Ok-clause-unsaid
returns-in-Ok-clause-unsaid g c =
    counts_fault_then (sym (g.met.H.Host.lies_beside c.in-Ok.store.host).1 ∙ (ap (λ b. b.say_faults) c.in-Ok.ensures.opens.beside ∙ (g.met.H.Host.lies_beside c.args.host).1)) c.serve_store.ensures.unsaid

pub returns-in-Err-clause-runs : goal.returns-in-Err-clause-runs
returns-in-Err-clause-runs g c = λ before said is told well.
    let stop = stop_of_well c.in-Err.field-0.fault c.stop_of_opening.result before.bytes (well_is_served before.bytes well) (c.in-Err.ensures.refused before is) c.stop_of_opening.ensures in
    refused_on_file g.H.Disk (record { stand = c.sound_pages_stand.ensures; lists = c.goes_on_lists.ensures }) before said (g.I.Source.left c.args.input.now) c.args.host c.in-Err.field-0.host
    (MayComeFirst c.in-Err.field-0.fault) c.stop_of_opening.result _ _ (c.in-Err.ensures.unnoted ∙ c.take.ensures) well stop (g.met.H.Disk.only_now c.args.host) is told c.in-Err.ensures.opens_or_leaves

pub returns-in-Err-clause-told : goal.returns-in-Err-clause-told
returns-in-Err-clause-told g c =
    let first = MayComeFirst c.in-Err.field-0.fault in
    let new = c.in-Err.field-0.host in
    let leaves = c.in-Err.ensures.opens_or_leaves in (
      stays_file g.H.Disk c.args.host new first leaves,
      same-tells_more (g.H.Disk.beside c.args.host).tape (g.H.Disk.beside new).tape (ap (λ b. b.tape) (kept_beside g.H.Disk c.args.host new first leaves)),
    )

pub returns-in-Err-clause-stays_well : goal.returns-in-Err-clause-stays_well
returns-in-Err-clause-stays_well g c = λ before said is told well.
    let script = g.I.Source.left c.args.input.now in
    let new = c.in-Err.field-0.host in
    let after = (returns-in-Err-clause-told g c).0 before is in
    let first = well before.bytes (sound_image (g.H.Disk.file c.args.host) before (g.met.H.Disk.sound c.args.host) is) in (
      after.0,
      after.1,
      stays_well g.H.Disk before after.0 said script script c.args.host new (Err c.stop_of_opening.result)
          (g.met.H.Disk.only_now c.args.host) (g.met.H.Disk.only_now new) (g.met.H.Disk.earlier new) is told after.1 well (returns-in-Err-clause-runs g c before said is told first),
    )

pub returns-in-Err-clause-cause : goal.returns-in-Err-clause-cause
returns-in-Err-clause-cause g c = λ before is. cause_of_opening before.bytes c.in-Err.field-0.fault c.stop_of_opening.result (c.in-Err.ensures.refused before is) c.stop_of_opening.ensures

pub returns-in-Err-clause-left_alone : goal.returns-in-Err-clause-left_alone
returns-in-Err-clause-left_alone g c = λ file is unserved. (
  c.in-Err.ensures.unserved file is unserved,
  λ other. c.in-Err.ensures.untouched (not_device c.in-Err.field-0.fault c.stop_of_opening.result c.stop_of_opening.ensures (λ e. other (ap Err e))),
)

pub returns-in-Err-clause-takes : goal.returns-in-Err-clause-takes
returns-in-Err-clause-takes g c = takes_unopened (g.I.Source.left c.args.input.now) c.in-Err.field-0.fault c.stop_of_opening.result c.stop_of_opening.ensures

pub returns-in-Ok-clause-reopens : goal.returns-in-Ok-clause-reopens
returns-in-Ok-clause-reopens g c = λ before said is told formed.
    let opened = c.in-Ok.ensures in
    let store = c.in-Ok.store in
    let after = opened.opens.told before is in
    let leaves = c.serve_store.ensures.reopens after.0 said after.1 (ap (λ b. b.tape) opened.opens.beside ∙ told) in
    inl (formed_on_file g.H.Disk _ store before after.0 said c.args.host store.host c.serve_store.result.host formed after.2 leaves (opened.opens.crash before said is told) refl c.serve_store.ensures.later
    (λ t pages heard left. (left.4, left.5)) (opened.base_since before is said))

pub returns-in-Err-clause-reopens : goal.returns-in-Err-clause-reopens
returns-in-Err-clause-reopens g c = λ before said is told formed.
    formed_refused g.H.Disk before said (g.I.Source.left c.args.input.now) c.args.host c.in-Err.field-0.host (MayComeFirst c.in-Err.field-0.fault) formed is told c.in-Err.ensures.opens_or_leaves

pub returns-in-Ok-clause-stays_formed : goal.returns-in-Ok-clause-stays_formed
returns-in-Ok-clause-stays_formed g c = λ before said is told formed.
    let new = c.serve_store.result.host in
    let tells = returns-in-Ok-clause-told g c in
    let after = tells.0 before is in
    let first = formed before.bytes (sound_image (g.H.Disk.file c.args.host) before (g.met.H.Disk.sound c.args.host) is) in (
      after.0,
      after.1,
      formed_after g.H.Disk before after.0 said (said ++ tells.1.0) c.args.host new (g.met.H.Disk.only_now c.args.host) (g.met.H.Disk.only_now new) (g.met.H.Disk.earlier new) is told after.1
          (told_behind (g.H.Disk.beside c.args.host).tape (g.H.Disk.beside new).tape tells.1.0 said told tells.1.1) formed (rests_or_before g.H.Disk before said (returns-in-Ok-clause-reopens g c before said is told first)),
    )

pub returns-in-Err-clause-stays_formed : goal.returns-in-Err-clause-stays_formed
returns-in-Err-clause-stays_formed g c = λ before said is told formed.
    let new = c.in-Err.field-0.host in
    let tells = returns-in-Err-clause-told g c in
    let after = tells.0 before is in
    let first = formed before.bytes (sound_image (g.H.Disk.file c.args.host) before (g.met.H.Disk.sound c.args.host) is) in (
      after.0,
      after.1,
      formed_after g.H.Disk before after.0 said (said ++ tells.1.0) c.args.host new (g.met.H.Disk.only_now c.args.host) (g.met.H.Disk.only_now new) (g.met.H.Disk.earlier new) is told after.1
          (told_behind (g.H.Disk.beside c.args.host).tape (g.H.Disk.beside new).tape tells.1.0 said told tells.1.1) formed (rests_or_before g.H.Disk before said (returns-in-Err-clause-reopens g c before said is told first)),
    )

-- ---- whatever the pages are

pub returns-in-Ok-clause-any : goal.returns-in-Ok-clause-any
returns-in-Ok-clause-any g c =
    let opened = c.in-Ok.ensures in
    let store = c.in-Ok.store in
    let serves = c.serve_store.ensures.any (sym (ap (λ state. state.work) opened.just_opened)) opened.rests in
    inr (any_served_on_file _ g.H.Disk store (g.I.Source.left c.args.input.now) (g.I.Source.left c.serve_store.new.input) c.serve_store.result.host c.serve_store.result.end
    (g.H.Disk.file c.args.host) (g.H.Disk.file store.host) (g.H.Disk.beside c.args.host).tape serves
    (tells_still (g.H.Disk.file c.args.host) (g.H.Disk.file store.host) opened.opens.untold (λ before is. let after = opened.opens.told before is in (after.0, after.1)))
    (ap (λ b. b.tape) opened.opens.beside)
    (λ before is. let served = opened.served before is in let after = opened.opens.told before is in let formed = served_formed before.bytes served.0 in (served.1, formed, after.0, after.1, after.2.1 formed)))

pub returns-in-Err-clause-any : goal.returns-in-Err-clause-any
returns-in-Err-clause-any g c =
    let new = c.in-Err.field-0.host in
    any_unopened (g.H.Disk.file c.args.host) (g.I.Source.left c.args.input.now) (g.H.Disk.beside c.args.host).tape (g.H.Disk.beside new).tape c.in-Err.field-0.fault c.stop_of_opening.result c.in-Err.ensures.refused c.stop_of_opening.ensures
    (ap (λ b. b.tape) (kept_beside g.H.Disk c.args.host new (MayComeFirst c.in-Err.field-0.fault) c.in-Err.ensures.opens_or_leaves))

pub returns-in-Ok-clause-runs_any : goal.returns-in-Ok-clause-runs_any
returns-in-Ok-clause-runs_any g c = λ before said is told served.
    let opened = c.in-Ok.ensures in
    let store = c.in-Ok.store in
    let new = c.serve_store.result.host in
    let after = opened.opens.told before is in
    let formed = served_formed before.bytes served in
    let script = g.I.Source.left c.args.input.now in
    let left = g.I.Source.left c.serve_store.new.input in
    let serves = c.serve_store.ensures.any (sym (ap (λ state. state.work) opened.just_opened)) opened.rests in
    any_run_opened _ g.H.Disk store script left new c.serve_store.result.end (g.H.Disk.file store.host) before after.0 said store.host c.args.host serves after.1 (opened.served before is).1
    (ap (λ b. b.tape) opened.opens.beside ∙ told) (g.met.H.Disk.only_now new) (g.met.H.Disk.earlier new) formed after.2 (opened.opens.crash before said is told) refl c.serve_store.ensures.later
    (λ t pages heard left. (left.4, left.5)) (opened.base_since before is said)

pub returns-in-Err-clause-runs_any : goal.returns-in-Err-clause-runs_any
returns-in-Err-clause-runs_any g c = λ before said is told served.
    let fault = c.in-Err.field-0.fault in
    let refuses = c.in-Err.ensures.refused before is in
    let stop = stop_of_well fault c.stop_of_opening.result before.bytes served refuses c.stop_of_opening.ensures in
    any_refused_on_file g.H.Disk before said (g.I.Source.left c.args.input.now) c.args.host c.in-Err.field-0.host (MayComeFirst fault) fault c.stop_of_opening.result (served_formed before.bytes served) is told
    stop refuses c.stop_of_opening.ensures c.in-Err.ensures.opens_or_leaves

-- ---- what becomes of the file beside its pages

pub open-requires-clause-origin : goal.open-requires-clause-origin
open-requires-clause-origin g c = picked_as_read g.O.Origin.first (g.H.Disk.file c.args.host) c.requires.origin

pub serve_store-requires-clause-origin : goal.serve_store-requires-clause-origin
serve_store-requires-clause-origin g c = λ after now.
    let opened = c.in-Ok.ensures in
    let before = told_first (g.H.Disk.file c.args.host) (g.H.Disk.file c.in-Ok.store.host) opened.opens.untold after now in
    let formed = served_formed before.0.bytes (opened.served before.0 before.1).0 in
    let there = opened.opens.told before.0 before.1 in
    let front = subst (λ (f : File). FrontAgrees before.0.bytes f.bytes) (one_file there.1 now) (front_agrees_stays formed there.2.0) in
    (before.0.bytes, c.requires.origin ∙ ap file_bytes before.1, formed, front)

pub returns-in-Ok-clause-grew : goal.returns-in-Ok-clause-grew
returns-in-Ok-clause-grew g c = λ before after is now.
    grew_where before after.bytes (λ whole. whole)
    (grew_picked _ g.O.Origin.first before.bytes (c.requires.origin ∙ ap file_bytes is) (c.serve_store.ensures.grew (sym (ap (λ state. state.work) c.in-Ok.ensures.just_opened))) after now)

pub returns-in-Err-clause-grew : goal.returns-in-Err-clause-grew
returns-in-Err-clause-grew g c =
    grew_unopened g.H.Disk c.args.host c.in-Err.field-0.host c.in-Err.field-0.fault (λ device. ap Err (stops_for_device c.in-Err.field-0.fault c.stop_of_opening.result c.stop_of_opening.ensures device))
    c.in-Err.ensures.untouched c.in-Err.ensures.opens_or_leaves
