use Rattle.std.proofs.Common.{◌<◌, length, ap, ◌∙◌, true}
use Rattle.std.specs.Option.{ForSome, option_map}
use Rattle.mdc_outside.specs.Disk.{opened}
use Rattle.mdc_words.proofs.TimeLemmas.{over_time_then, over_time_wider}
use Rattle.mdc_shell.proofs.CreateLemmas.{both_made, left_by_attach, left_by_making, opens_as_it_was, stays_opened}
use Rattle.mdc_shell.proofs.LeavingLemmas.{of_making-quiet}
use Rattle.mdc_shell.proofs.GrowingLemmas.{grew_attached}
use Rattle.mdc_shell.proofs.create.make_at.Goals as goal

pub returns-in_err-attach-clause-time : goal.returns-in_err-attach-clause-time
returns-in_err-attach-clause-time g c = λ before said is told.
    over_time_wider c.attach.ensures.time (of_making-quiet c.args.extents c.args.extent_pages _ _ before said is told)

pub returns-clause-made : goal.returns-clause-made
returns-clause-made g c = both_made c.make.result c.args.extents c.args.extent_pages _ c.make.ensures.made c.make.ensures.empty

pub returns-clause-refused : goal.returns-clause-refused
returns-clause-refused g c = λ before is. c.make.ensures.refused (opened before) (c.in_ok-attach.ensures.opened ∙ ap (option_map opened) is)

pub returns-clause-time : goal.returns-clause-time
returns-clause-time g c = λ before said is told.
    over_time_then (over_time_wider c.attach.ensures.time (of_making-quiet c.args.extents c.args.extent_pages _ _ before said is told))
    (c.make.ensures.leaves.crash (opened before) said (c.in_ok-attach.ensures.opened ∙ ap (option_map opened) is) (ap (λ b. b.tape) c.attach.ensures.beside ∙ told))

pub returns-clause-exists : goal.returns-clause-exists
returns-clause-exists g c = λ is.
    let some : ForSome (g.D.Disk.file c.args.disk.now) (λ f. 0 < length f.bytes) = λ before there. c.make.ensures.exists is (opened before) (c.in_ok-attach.ensures.opened ∙ ap (option_map opened) there) in
    (some, c.make.ensures.as_before is ∙ opens_as_it_was _ _ (g.met.D.Disk.sound c.args.disk.now) c.in_ok-attach.ensures.opened some)

pub returns-in_err-attach-clause-told : goal.returns-in_err-attach-clause-told
returns-in_err-attach-clause-told g c = left_by_attach c.args.extents c.args.extent_pages _ _ true (g.met.D.Disk.sound c.args.disk.now) c.in_err-attach.ensures.file_failed

pub returns-clause-told : goal.returns-clause-told
returns-clause-told g c = left_by_making c.args.extents c.args.extent_pages _ _ _ c.in_ok-attach.ensures.opened
    (λ before is. let left = c.make.ensures.leaves.told before is in (left.0, left.1, left.2))

pub returns-clause-untouched : goal.returns-clause-untouched
returns-clause-untouched g c = stays_opened _ _ _ (g.met.D.Disk.sound c.args.disk.now) c.in_ok-attach.ensures.opened c.make.ensures.untouched

pub returns-in_err-attach-clause-grew : goal.returns-in_err-attach-clause-grew
returns-in_err-attach-clause-grew g c = grew_attached (g.D.Disk.file c.args.disk.now) (g.D.Disk.file c.attach.new.self) true c.in_err-attach.ensures.file_failed

pub returns-clause-grew : goal.returns-clause-grew
returns-clause-grew g c = λ before after is now. c.make.ensures.grew (opened before) after (c.in_ok-attach.ensures.opened ∙ ap (option_map opened) is) now
