use Rattle.std.proofs.Common.{ap, Ok, Err, Some}
use Rattle.mdc_outside.specs.declared.call.Event.TheVariants.{Attach}
use Rattle.mdc_outside.proofs.Answering.{on_err, state-done, same-beside, mild-time, attach-listed, attach-listed_failed, attach-file_failed}
use Rattle.mdc_outside.proofs.Replaying.{over_time-with_file}
use Rattle.mdc_outside.proofs.mem_host.MemHostDisk.attach.Goals as goal

pub returns-in_err-open-clause-file_failed : goal.returns-in_err-open-clause-file_failed
returns-in_err-open-clause-file_failed c =
    on_err c.from_residual.result (attach-file_failed c.args.path.now c.args.make c.args.self.now c.open.new.self c.in_err-open.field-0.0 c.in_err-open.ensures.answer)

pub returns-in_err-open-clause-listed_failed : goal.returns-in_err-open-clause-listed_failed
returns-in_err-open-clause-listed_failed c =
    on_err c.from_residual.result (attach-listed_failed c.args.path.now c.args.make c.args.self.now c.open.new.self c.in_err-open.field-0.0 c.in_err-open.ensures.answer)

pub returns-in_err-open-clause-beside : goal.returns-in_err-open-clause-beside
returns-in_err-open-clause-beside c = same-beside (Attach c.args.path.now c.args.make) (Err c.in_err-open.field-0.0) c.args.self.now c.open.new.self tt c.in_err-open.ensures.answer

pub returns-in_err-open-clause-time : goal.returns-in_err-open-clause-time
returns-in_err-open-clause-time c = mild-time (Attach c.args.path.now c.args.make) (Err c.in_err-open.field-0.0) c.args.self.now c.open.new.self tt c.in_err-open.ensures.answer

pub returns-clause-opened : goal.returns-clause-opened
returns-clause-opened c = rw c.mark_attached.ensures (ap (λ state. Some state.file) (state-done (Attach c.args.path.now c.args.make) c.args.self.now c.open.new.self c.in_ok-open.ensures.answer))

pub returns-clause-listed : goal.returns-clause-listed
returns-clause-listed c = rw c.mark_attached.ensures (ap Some (attach-listed c.args.path.now c.args.make c.args.self.now c.open.new.self c.in_ok-open.ensures.answer))

pub returns-clause-beside : goal.returns-clause-beside
returns-clause-beside c = rw c.mark_attached.ensures (same-beside (Attach c.args.path.now c.args.make) (Ok c.in_ok-open.field-0) c.args.self.now c.open.new.self tt c.in_ok-open.ensures.answer)

pub returns-clause-time : goal.returns-clause-time
returns-clause-time c =
    rw c.mark_attached.ensures (over_time-with_file (mild-time (Attach c.args.path.now c.args.make) (Ok c.in_ok-open.field-0) c.args.self.now c.open.new.self tt c.in_ok-open.ensures.answer))
