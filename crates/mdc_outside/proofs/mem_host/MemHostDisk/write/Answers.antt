use Rattle.std.proofs.Common.{ap, refl, Some}
use Rattle.mdc_outside.specs.declared.call.Event.TheVariants.{Write}
use Rattle.mdc_outside.proofs.Answering.{write-written, write-torn, same-attaches, same-beside, write-time}
use Rattle.mdc_outside.proofs.mem_host.MemHostDisk.write.Goals as goal

pub returns-clause-written : goal.returns-clause-written
returns-clause-written c = write-written c.args.at c.args.bytes.now c.put.result c.args.self.now c.put.new.self c.put.ensures.answer

pub returns-clause-file_failed : goal.returns-clause-file_failed
returns-clause-file_failed c = write-torn c.args.at c.args.bytes.now c.put.result c.args.self.now c.put.new.self c.put.ensures.answer

pub returns-clause-listed : goal.returns-clause-listed
returns-clause-listed c = ap Some (same-attaches (Write c.args.at c.args.bytes.now) c.put.result c.args.self.now c.put.new.self refl c.put.ensures.answer)

pub returns-clause-beside : goal.returns-clause-beside
returns-clause-beside c = same-beside (Write c.args.at c.args.bytes.now) c.put.result c.args.self.now c.put.new.self tt c.put.ensures.answer

pub returns-clause-time : goal.returns-clause-time
returns-clause-time c = write-time c.args.at c.args.bytes.now c.put.result c.args.self.now c.put.new.self c.put.ensures.answer
