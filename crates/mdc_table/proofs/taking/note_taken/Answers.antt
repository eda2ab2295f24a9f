use Rattle.std.proofs.Common.{arith, refl}
use Rattle.mdc_table.specs.LoweredNotes.NotesRowTaken.{lowered, stay}
use Rattle.mdc_table.proofs.taking.note_taken.Goals as goal

pub returns-then-left-slots : goal.returns-then-left-slots
returns-then-left-slots c = record { notes = stay (omega arith) (omega arith) refl }

pub returns : goal.returns
returns c = record { notes = lowered c.lower_note.ensures.lowers }
