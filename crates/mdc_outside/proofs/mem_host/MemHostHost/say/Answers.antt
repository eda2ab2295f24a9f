use Rattle.std.proofs.Common.{ap, Some}
use Rattle.mdc_outside.proofs.Answering.{say-takes, say-takes_part, say-file, say-attaches, say-time, say-parts, say-parts_failed}
use Rattle.mdc_outside.proofs.mem_host.MemHostHost.say.Goals as goal

pub returns-clause-said : goal.returns-clause-said
returns-clause-said c = say-takes c.args.bytes.now c.utter.result c.args.self.now c.utter.new.self c.utter.ensures.said

pub returns-clause-part : goal.returns-clause-part
returns-clause-part c = say-takes_part c.args.bytes.now c.utter.result c.args.self.now c.utter.new.self c.utter.ensures.said

pub returns-clause-file : goal.returns-clause-file
returns-clause-file c = ap Some (say-file c.args.bytes.now c.utter.result c.args.self.now c.utter.new.self c.utter.ensures.said)

pub returns-clause-listed : goal.returns-clause-listed
returns-clause-listed c = ap Some (say-attaches c.args.bytes.now c.utter.result c.args.self.now c.utter.new.self c.utter.ensures.said)

pub returns-clause-time : goal.returns-clause-time
returns-clause-time c = say-time c.args.bytes.now c.utter.result c.args.self.now c.utter.new.self c.utter.ensures.said

pub returns-clause-parts : goal.returns-clause-parts
returns-clause-parts c = say-parts c.args.bytes.now c.utter.result c.args.self.now c.utter.new.self c.utter.ensures.said

pub returns-clause-parts_failed : goal.returns-clause-parts_failed
returns-clause-parts_failed c = say-parts_failed c.args.bytes.now c.utter.result c.args.self.now c.utter.new.self c.utter.ensures.said
