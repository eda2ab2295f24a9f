use Rattle.std.proofs.Common.{◌∙◌, Err, refl, ap, sym}
use Rattle.mdc_words.proofs.TimeLemmas.{over_time_then, over_time_wider}
use Rattle.mdc_shell.proofs.CreateLemmas.{completes_made, creates_exists, creates_failed, creates_made, left_by_making-told, made_of_nothing, says_end-told, tape_stays}
use Rattle.session.proofs.ToldLemmas.{same-told}
use Rattle.mdc_shell.proofs.LeavingLemmas.{left_by_create-exists, left_by_create-made, left_by_create-making}
use Rattle.mdc_shell.proofs.GrowingLemmas.{grew_as, refused_not_failed}
use Rattle.mdc_shell.proofs.create.create.Goals as goal

pub returns-in-Ok-clause-creates : goal.returns-in-Ok-clause-creates
returns-in-Ok-clause-creates g c =
    let lies = g.met.H.Host.lies_beside in
    creates_made c.args.shape.extents c.args.shape.extent_pages _ _ _ _ _ _ c.end_with.result (made_of_nothing c.make_at.result _ c.in-Ok.is c.make_at.ensures.refused) c.in-Ok.ensures.made c.end_with.ensures.file
    (tape_stays _ _ _ _ c.make_at.ensures.beside (lies c.make_at.new.disk).0 (lies c.args.host.now).0) c.end_with.ensures.said

pub returns-in-Ok-clause-time : goal.returns-in-Ok-clause-time
returns-in-Ok-clause-time g c = λ before said is told.
    let lies = g.met.H.Host.lies_beside in
    let n = c.args.shape.extents in
    let k = c.args.shape.extent_pages in
    let made = over_time_wider (c.make_at.ensures.time before said is ((lies c.args.host.now).0 ∙ told)) (left_by_create-making n k before said) in
    let held = c.make_at.ensures.told before is in
    let none = made_of_nothing c.make_at.result _ c.in-Ok.is c.make_at.ensures.refused before is in
    let tape = tape_stays _ _ _ _ c.make_at.ensures.beside (lies c.make_at.new.disk).0 (lies c.args.host.now).0 ∙ told in
    over_time_then made (over_time_wider c.end_with.ensures.time (left_by_create-made n k _ _ before held.0 said held.1 tape none (c.in-Ok.ensures.made held.0 held.1).0))

pub returns-in-Ok-clause-complete : goal.returns-in-Ok-clause-complete
returns-in-Ok-clause-complete g c = λ _ not_unsaid.
    completes_made _ _ _ c.end_with.result (made_of_nothing c.make_at.result _ c.in-Ok.is c.make_at.ensures.refused) c.end_with.ensures.said not_unsaid

pub returns-in-Exists-clause-creates : goal.returns-in-Exists-clause-creates
returns-in-Exists-clause-creates g c =
    let lies = g.met.H.Host.lies_beside in
    creates_exists c.args.shape.extents c.args.shape.extent_pages _ _ _ _ _ _ c.end_with-in-Exists.result (c.in-Err.ensures.exists (ap Err c.in-Exists.is)) c.end_with-in-Exists.ensures.file
    (tape_stays _ _ _ _ c.make_at.ensures.beside (lies c.make_at.new.disk).0 (lies c.args.host.now).0) c.end_with-in-Exists.ensures.said

pub returns-in-Exists-clause-time : goal.returns-in-Exists-clause-time
returns-in-Exists-clause-time g c = λ before said is told.
    let lies = g.met.H.Host.lies_beside in
    let n = c.args.shape.extents in
    let k = c.args.shape.extent_pages in
    let made = over_time_wider (c.make_at.ensures.time before said is ((lies c.args.host.now).0 ∙ told)) (left_by_create-making n k before said) in
    let stays = c.in-Err.ensures.exists (ap Err c.in-Exists.is) in
    let tape = tape_stays _ _ _ _ c.make_at.ensures.beside (lies c.make_at.new.disk).0 (lies c.args.host.now).0 ∙ told in
    over_time_then made (over_time_wider c.end_with-in-Exists.ensures.time (left_by_create-exists n k _ _ before said (stays.1 ∙ is) tape (stays.0 before is)))

pub returns-in_default-clause-creates : goal.returns-in_default-clause-creates
returns-in_default-clause-creates g c =
    let lies = g.met.H.Host.lies_beside in
    creates_failed c.args.shape.extents c.args.shape.extent_pages _ _ _ _ (tape_stays _ _ _ _ c.make_at.ensures.beside (lies c.make_at.new.disk).0 (lies c.args.host.now).0) c.make_at.ensures.untouched c.make_at.ensures.told

pub returns-in_default-clause-time : goal.returns-in_default-clause-time
returns-in_default-clause-time g c = λ before said is told.
    over_time_wider (c.make_at.ensures.time before said is ((g.met.H.Host.lies_beside c.args.host.now).0 ∙ told)) (left_by_create-making c.args.shape.extents c.args.shape.extent_pages before said)

pub returns-in-Ok-clause-told : goal.returns-in-Ok-clause-told
returns-in-Ok-clause-told g c =
    let lies = g.met.H.Host.lies_beside in (
      left_by_making-told c.args.shape.extents c.args.shape.extent_pages _ _ _ c.make_at.ensures.told c.end_with.ensures.file,
      says_end-told _ _ _ _ _ c.end_with.result (tape_stays _ _ _ _ c.make_at.ensures.beside (lies c.make_at.new.disk).0 (lies c.args.host.now).0) c.end_with.ensures.said,
    )

pub returns-in-Exists-clause-told : goal.returns-in-Exists-clause-told
returns-in-Exists-clause-told g c =
    let lies = g.met.H.Host.lies_beside in (
      left_by_making-told c.args.shape.extents c.args.shape.extent_pages _ _ _ c.make_at.ensures.told c.end_with-in-Exists.ensures.file,
      says_end-told _ _ _ _ _ c.end_with-in-Exists.result (tape_stays _ _ _ _ c.make_at.ensures.beside (lies c.make_at.new.disk).0 (lies c.args.host.now).0) c.end_with-in-Exists.ensures.said,
    )

pub returns-in_default-clause-told : goal.returns-in_default-clause-told
returns-in_default-clause-told g c =
    let lies = g.met.H.Host.lies_beside in (
      left_by_making-told c.args.shape.extents c.args.shape.extent_pages _ _ _ c.make_at.ensures.told refl,
      same-told _ _ (tape_stays _ _ _ _ c.make_at.ensures.beside (lies c.make_at.new.disk).0 (lies c.args.host.now).0),
    )

pub returns-in-Ok-clause-grew : goal.returns-in-Ok-clause-grew
returns-in-Ok-clause-grew g c = λ before after is now.
    grew_as before after.bytes (λ failed. absurd (let ok = c.in-Ok.is in cc)) (c.make_at.ensures.grew before after is (sym c.end_with.ensures.file ∙ now))

pub returns-in-Exists-clause-grew : goal.returns-in-Exists-clause-grew
returns-in-Exists-clause-grew g c = λ before after is now.
    grew_as before after.bytes (λ failed. absurd (refused_not_failed (Err c.in-Err.fault) c.in-Err.fault refl c.in-Exists.is failed)) (c.in-Err.ensures.grew before after is (sym c.end_with-in-Exists.ensures.file ∙ now))

pub returns-in_default-clause-grew : goal.returns-in_default-clause-grew
returns-in_default-clause-grew g c = λ before after is now. grew_as before after.bytes (λ failed. refl) (c.make_at.ensures.grew before after is now)
