use Rattle.std.proofs.Common.{ap, refl, ◌∙◌, length, take, drop, Ok, Err, Some}
use Rattle.mdc_outside.specs.declared.call.Event.TheVariants.{Read}
use Rattle.mdc_outside.proofs.Answering.{same-read, same-attaches, same-beside, mild-time}
use Rattle.mdc_outside.proofs.mem_host.MemHostDisk.read.Goals as goal

pub returns-in_err-note-clause-file : goal.returns-in_err-note-clause-file
returns-in_err-note-clause-file c = ap (λ state. Some state.file) (same-read (Read c.args.at) (Err c.in_err-note.field-0.0) c.args.self.now c.note.new.self tt c.in_err-note.ensures.answer)

pub returns-in_err-note-clause-listed : goal.returns-in_err-note-clause-listed
returns-in_err-note-clause-listed c = ap Some (same-attaches (Read c.args.at) (Err c.in_err-note.field-0.0) c.args.self.now c.note.new.self refl c.in_err-note.ensures.answer)

pub returns-in_err-note-clause-beside : goal.returns-in_err-note-clause-beside
returns-in_err-note-clause-beside c = same-beside (Read c.args.at) (Err c.in_err-note.field-0.0) c.args.self.now c.note.new.self tt c.in_err-note.ensures.answer

pub returns-in_err-note-clause-time : goal.returns-in_err-note-clause-time
returns-in_err-note-clause-time c = mild-time (Read c.args.at) (Err c.in_err-note.field-0.0) c.args.self.now c.note.new.self tt c.in_err-note.ensures.answer

pub returns-clause-file : goal.returns-clause-file
returns-clause-file c = ap (λ state. Some state.file) (same-read (Read c.args.at) (Ok c.in_ok-note.field-0) c.args.self.now c.note.new.self tt c.in_ok-note.ensures.answer)

pub returns-clause-listed : goal.returns-clause-listed
returns-clause-listed c = ap Some (same-attaches (Read c.args.at) (Ok c.in_ok-note.field-0) c.args.self.now c.note.new.self refl c.in_ok-note.ensures.answer)

pub returns-clause-beside : goal.returns-clause-beside
returns-clause-beside c = same-beside (Read c.args.at) (Ok c.in_ok-note.field-0) c.args.self.now c.note.new.self tt c.in_ok-note.ensures.answer

pub returns-clause-time : goal.returns-clause-time
returns-clause-time c = mild-time (Read c.args.at) (Ok c.in_ok-note.field-0) c.args.self.now c.note.new.self tt c.in_ok-note.ensures.answer

pub copy_out-requires : goal.copy_out-requires
copy_out-requires c =
    let same = c.bytes.ensures ∙ ap (λ state. state.file.bytes) (same-read (Read c.args.at) (Ok c.in_ok-note.field-0) c.args.self.now c.note.new.self tt c.in_ok-note.ensures.answer) in
    rw same (c.requires.within _ refl)

pub returns-clause-read : goal.returns-clause-read
returns-clause-read c =
    let same = c.bytes.ensures ∙ ap (λ state. state.file.bytes) (same-read (Read c.args.at) (Ok c.in_ok-note.field-0) c.args.self.now c.note.new.self tt c.in_ok-note.ensures.answer) in
    c.copy_out.ensures ∙ ap (λ bytes. take (length c.args.out.now) (drop c.args.at bytes)) same
