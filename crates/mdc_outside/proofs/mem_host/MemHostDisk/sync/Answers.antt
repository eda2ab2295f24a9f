use Rattle.std.proofs.Common.{ap, refl, Some}
use Rattle.mdc_outside.specs.declared.call.Event.TheVariants.{Sync}
use Rattle.mdc_outside.proofs.Answering.{sync-settled, sync-unsettled, same-attaches, same-beside, mild-time}
use Rattle.mdc_outside.proofs.mem_host.MemHostDisk.sync.Goals as goal

pub returns-clause-settled : goal.returns-clause-settled
returns-clause-settled c = sync-settled c.note.result c.args.self.now c.note.new.self c.note.ensures.answer

pub returns-clause-file_failed : goal.returns-clause-file_failed
returns-clause-file_failed c = sync-unsettled c.note.result c.args.self.now c.note.new.self c.note.ensures.answer

pub returns-clause-listed : goal.returns-clause-listed
returns-clause-listed c = ap Some (same-attaches Sync c.note.result c.args.self.now c.note.new.self refl c.note.ensures.answer)

pub returns-clause-beside : goal.returns-clause-beside
returns-clause-beside c = same-beside Sync c.note.result c.args.self.now c.note.new.self tt c.note.ensures.answer

pub returns-clause-time : goal.returns-clause-time
returns-clause-time c = mild-time Sync c.note.result c.args.self.now c.note.new.self tt c.note.ensures.answer
