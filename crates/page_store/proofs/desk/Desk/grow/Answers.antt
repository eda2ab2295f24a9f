use Rattle.page_store.proofs.Desks.{grows}
use Rattle.page_store.proofs.desk.Desk.grow.Goals as goal

pub returns-clause-does : goal.returns-clause-does
returns-clause-does c = λ told kept going. grows told c.args.self.now c.args.n c.grow.new.self kept.count.0 going c.grow.ensures.now c.grow.ensures.marked
