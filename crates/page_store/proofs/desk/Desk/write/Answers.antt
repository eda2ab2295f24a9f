use Rattle.page_store.proofs.Desks.{writes}
use Rattle.page_store.proofs.desk.Desk.write.Goals as goal

pub returns-in-Ok-clause-ok : goal.returns-in-Ok-clause-ok
returns-in-Ok-clause-ok c = λ told kept. writes told c.args.self.now c.args.p c.args.bytes.now c.write.new.self c.in-Ok.ensures.ok c.in-Ok.ensures.marked
