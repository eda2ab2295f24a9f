use Rattle.std.proofs.Common.{ap, refl, ◌∙◌, length, Ok, Err, Some}
use Rattle.mdc_outside.specs.declared.call.Event.TheVariants.{Len}
use Rattle.mdc_outside.proofs.Answering.{same-read, same-attaches, same-beside, mild-time}
use Rattle.mdc_outside.proofs.mem_host.MemHostDisk.len.Goals as goal

pub returns-in_err-note-clause-file : goal.returns-in_err-note-clause-file
returns-in_err-note-clause-file c = ap (λ state. Some state.file) (same-read Len (Err c.in_err-note.field-0.0) c.args.self.now c.note.new.self tt c.in_err-note.ensures.answer)

pub returns-in_err-note-clause-listed : goal.returns-in_err-note-clause-listed
returns-in_err-note-clause-listed c = ap Some (same-attaches Len (Err c.in_err-note.field-0.0) c.args.self.now c.note.new.self refl c.in_err-note.ensures.answer)

pub returns-in_err-note-clause-beside : goal.returns-in_err-note-clause-beside
returns-in_err-note-clause-beside c = same-beside Len (Err c.in_err-note.field-0.0) c.args.self.now c.note.new.self tt c.in_err-note.ensures.answer

pub returns-in_err-note-clause-time : goal.returns-in_err-note-clause-time
returns-in_err-note-clause-time c = mild-time Len (Err c.in_err-note.field-0.0) c.args.self.now c.note.new.self tt c.in_err-note.ensures.answer

pub returns-clause-file : goal.returns-clause-file
returns-clause-file c = ap (λ state. Some state.file) (same-read Len (Ok c.in_ok-note.field-0) c.args.self.now c.note.new.self tt c.in_ok-note.ensures.answer)

pub returns-clause-listed : goal.returns-clause-listed
returns-clause-listed c = ap Some (same-attaches Len (Ok c.in_ok-note.field-0) c.args.self.now c.note.new.self refl c.in_ok-note.ensures.answer)

pub returns-clause-beside : goal.returns-clause-beside
returns-clause-beside c = same-beside Len (Ok c.in_ok-note.field-0) c.args.self.now c.note.new.self tt c.in_ok-note.ensures.answer

pub returns-clause-time : goal.returns-clause-time
returns-clause-time c = mild-time Len (Ok c.in_ok-note.field-0) c.args.self.now c.note.new.self tt c.in_ok-note.ensures.answer

pub returns-clause-len : goal.returns-clause-len
returns-clause-len c =
    ap length (c.bytes.ensures ∙ ap (λ state. state.file.bytes) (same-read Len (Ok c.in_ok-note.field-0) c.args.self.now c.note.new.self tt c.in_ok-note.ensures.answer))
