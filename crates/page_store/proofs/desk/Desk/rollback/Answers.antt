use Rattle.page_store.proofs.Desks.{rolls_back}
use Rattle.page_store.proofs.desk.Desk.rollback.Goals as goal

pub returns-clause-does : goal.returns-clause-does
returns-clause-does c = λ told kept going. rolls_back told c.args.self.now c.clear.new.self going c.clear.ensures
