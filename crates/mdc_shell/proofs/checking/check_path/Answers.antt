-- What an attach in front of a check changes of what is said of it.
use Rattle.std.proofs.Common.{◌∙◌, Err, ap, inl, refl}
use Rattle.std.specs.Option.{option_map}
use Rattle.mdc_words.proofs.TimeLemmas.{over_time_wider}
use Rattle.mdc_outside.specs.Disk.{opened}
use Rattle.page_file.proofs.LeavesLemmas.{sound_image}
use Rattle.session.proofs.ToldLemmas.{same-told, told_then}
use Rattle.file_verdict.specs.declared.unjudged.Unjudged.TheVariants.{Device}
use Rattle.mdc_shell.proofs.CheckLemmas.{checks_formed-before, checks_formed-opened, checks_path-before, checks_path-opened, checks_unserved-before, checks_unserved-opened}
use Rattle.mdc_shell.proofs.CreateLemmas.{tape_stays}
use Rattle.mdc_shell.proofs.RunsLemmas.{attach_failed, could_be_left-quiet}
use Rattle.page_store.proofs.GrowingLemmas.{grew_not_at_all}
use Rattle.mdc_shell.proofs.checking.check_path.Goals as goal

pub returns-in-Ok-clause-checks : goal.returns-in-Ok-clause-checks
returns-in-Ok-clause-checks g c =
    let lies = g.met.H.Host.lies_beside in
    checks_path-opened _ _ _ _ _ _ c.in-Ok.ensures.opened (tape_stays _ _ _ _ c.attach.ensures.beside (lies c.attach.new.self).0 (lies c.args.host).0) c.check_attached.ensures.checks

pub returns-in-Ok-clause-sound : goal.returns-in-Ok-clause-sound
returns-in-Ok-clause-sound g c = λ before is sound. c.check_attached.ensures.sound (opened before) (c.in-Ok.ensures.opened ∙ ap (option_map opened) is) sound

pub returns-in-Ok-clause-formed : goal.returns-in-Ok-clause-formed
returns-in-Ok-clause-formed g c = λ before said is told formed.
    let lies = g.met.H.Host.lies_beside in
    let tape = tape_stays _ _ _ _ c.attach.ensures.beside (lies c.attach.new.self).0 (lies c.args.host).0 ∙ told in
    let meanwhile = over_time_wider c.attach.ensures.time (could_be_left-quiet _ _ before said is ((lies c.args.host).0 ∙ told)) in
    checks_formed-opened g.H.Disk before said _ c.args.host c.attach.new.self c.check_attached.result.host c.check_attached.result.status.0 meanwhile
    (c.check_attached.ensures.formed (opened before) said (c.in-Ok.ensures.opened ∙ ap (option_map opened) is) tape formed)

pub returns-in-Ok-clause-unserved : goal.returns-in-Ok-clause-unserved
returns-in-Ok-clause-unserved g c = λ before said is told not_served.
    let lies = g.met.H.Host.lies_beside in
    let tape = tape_stays _ _ _ _ c.attach.ensures.beside (lies c.attach.new.self).0 (lies c.args.host).0 ∙ told in
    let meanwhile = over_time_wider c.attach.ensures.time (could_be_left-quiet _ _ before said is ((lies c.args.host).0 ∙ told)) in
    checks_unserved-opened g.H.Disk before said _ c.args.host c.attach.new.self c.check_attached.result.host c.check_attached.result.status.0 meanwhile
    (c.check_attached.ensures.unserved (opened before) said (c.in-Ok.ensures.opened ∙ ap (option_map opened) is) tape not_served)

pub returns-in-Ok-clause-keeps_unserved : goal.returns-in-Ok-clause-keeps_unserved
returns-in-Ok-clause-keeps_unserved g c = λ before is not_served. c.check_attached.ensures.keeps_unserved (opened before) (c.in-Ok.ensures.opened ∙ ap (option_map opened) is) not_served

pub returns-in-Ok-clause-writes : goal.returns-in-Ok-clause-writes
returns-in-Ok-clause-writes g c = λ file is. c.check_attached.ensures.writes (opened file) (c.in-Ok.ensures.opened ∙ ap (option_map opened) is)

pub returns-in-Ok-clause-stands : goal.returns-in-Ok-clause-stands
returns-in-Ok-clause-stands g c = λ before said is told formed settled.
    let lies = g.met.H.Host.lies_beside in
    let tape = tape_stays _ _ _ _ c.attach.ensures.beside (lies c.attach.new.self).0 (lies c.args.host).0 ∙ told in
    c.check_attached.ensures.stands (opened before) said (c.in-Ok.ensures.opened ∙ ap (option_map opened) is) tape formed settled

pub returns-in-Ok-clause-found_sound : goal.returns-in-Ok-clause-found_sound
returns-in-Ok-clause-found_sound g c = λ before said is told zero.
    let lies = g.met.H.Host.lies_beside in
    let tape = tape_stays _ _ _ _ c.attach.ensures.beside (lies c.attach.new.self).0 (lies c.args.host).0 ∙ told in
    c.check_attached.ensures.found_sound (opened before) said (c.in-Ok.ensures.opened ∙ ap (option_map opened) is) tape zero

pub returns-in-Ok-clause-found_well : goal.returns-in-Ok-clause-found_well
returns-in-Ok-clause-found_well g c = λ before said is told zero well.
    let lies = g.met.H.Host.lies_beside in
    let tape = tape_stays _ _ _ _ c.attach.ensures.beside (lies c.attach.new.self).0 (lies c.args.host).0 ∙ told in
    c.check_attached.ensures.found_well (opened before) said (c.in-Ok.ensures.opened ∙ ap (option_map opened) is) tape zero well

pub returns-in-Ok-clause-stays_sound : goal.returns-in-Ok-clause-stays_sound
returns-in-Ok-clause-stays_sound g c = λ before said is told sound.
    let lies = g.met.H.Host.lies_beside in
    let tape = tape_stays _ _ _ _ c.attach.ensures.beside (lies c.attach.new.self).0 (lies c.args.host).0 ∙ told in
    c.check_attached.ensures.stays_sound (opened before) said (c.in-Ok.ensures.opened ∙ ap (option_map opened) is) tape sound

pub returns-in-Ok-clause-stays_well : goal.returns-in-Ok-clause-stays_well
returns-in-Ok-clause-stays_well g c = λ before said is told well.
    let lies = g.met.H.Host.lies_beside in
    let tape = tape_stays _ _ _ _ c.attach.ensures.beside (lies c.attach.new.self).0 (lies c.args.host).0 ∙ told in
    c.check_attached.ensures.stays_well (opened before) said (c.in-Ok.ensures.opened ∙ ap (option_map opened) is) tape well

pub returns-in-Ok-clause-told : goal.returns-in-Ok-clause-told
returns-in-Ok-clause-told g c =
    let lies = g.met.H.Host.lies_beside in (
      λ before is. c.check_attached.ensures.told.0 (opened before) (c.in-Ok.ensures.opened ∙ ap (option_map opened) is),
      told_then _ _ _ (same-told _ _ (tape_stays _ _ _ _ c.attach.ensures.beside (lies c.attach.new.self).0 (lies c.args.host).0)) c.check_attached.ensures.told.1,
    )

pub returns-in-Err-clause-checks : goal.returns-in-Err-clause-checks
returns-in-Err-clause-checks g c =
    let lies = g.met.H.Host.lies_beside in
    checks_path-before _ _ _ (Err Device) tt (tape_stays _ _ _ _ c.attach.ensures.beside (lies c.attach.new.self).0 (lies c.args.host).0)

pub returns-in-Err-clause-formed : goal.returns-in-Err-clause-formed
returns-in-Err-clause-formed g c = λ before said is told formed.
    let lies = g.met.H.Host.lies_beside in
    let tape = tape_stays _ _ _ _ c.attach.ensures.beside (lies c.attach.new.self).0 (lies c.args.host).0 ∙ told in
    let meanwhile = over_time_wider c.attach.ensures.time (could_be_left-quiet _ _ before said is ((lies c.args.host).0 ∙ told)) in
    checks_formed-before g.H.Disk before said _ c.args.host c.attach.new.self (Err Device) tt tape meanwhile

pub returns-in-Err-clause-unserved : goal.returns-in-Err-clause-unserved
returns-in-Err-clause-unserved g c = λ before said is told not_served.
    let lies = g.met.H.Host.lies_beside in
    let tape = tape_stays _ _ _ _ c.attach.ensures.beside (lies c.attach.new.self).0 (lies c.args.host).0 ∙ told in
    let meanwhile = over_time_wider c.attach.ensures.time (could_be_left-quiet _ _ before said is ((lies c.args.host).0 ∙ told)) in
    checks_unserved-before g.H.Disk before said _ c.args.host c.attach.new.self (Err Device) tt tape meanwhile

pub returns-in-Err-clause-keeps_unserved : goal.returns-in-Err-clause-keeps_unserved
returns-in-Err-clause-keeps_unserved g c = λ before is not_served.
    (before, attach_failed _ _ c.in-Err.ensures.file_failed ∙ is, sound_image (g.H.Disk.file c.args.host) before (g.met.H.Disk.sound c.args.host) is, λ not_failed. refl)

pub returns-in-Err-clause-writes : goal.returns-in-Err-clause-writes
returns-in-Err-clause-writes g c = λ file is. record { at_most = λ not_failed. absurd (not_failed refl); opened = λ settled served. absurd (settled (inl refl)) }

pub returns-in-Err-clause-stands : goal.returns-in-Err-clause-stands
returns-in-Err-clause-stands g c = λ before said is told formed settled. absurd (settled (inl refl))

pub returns-in-Err-clause-stays_sound : goal.returns-in-Err-clause-stays_sound
returns-in-Err-clause-stays_sound g c = λ before said is told sound. (before, attach_failed _ _ c.in-Err.ensures.file_failed ∙ is, sound)

pub returns-in-Err-clause-stays_well : goal.returns-in-Err-clause-stays_well
returns-in-Err-clause-stays_well g c = λ before said is told well. (before, attach_failed _ _ c.in-Err.ensures.file_failed ∙ is, well)

pub returns-in-Ok-clause-grew : goal.returns-in-Ok-clause-grew
returns-in-Ok-clause-grew g c = λ before after is now. c.check_attached.ensures.grew (opened before) after (c.in-Ok.ensures.opened ∙ ap (option_map opened) is) now

pub returns-in-Err-clause-grew : goal.returns-in-Err-clause-grew
returns-in-Err-clause-grew g c = λ before after is now. grew_not_at_all before after (attach_failed _ _ c.in-Err.ensures.file_failed) is now
