-- The pages that were written are those that make the work.
use Rattle.page_store.proofs.Prepared.{kept_prepared}
use Rattle.page_store.proofs.desk.Desk.prepare.Goals as goal

pub returns-in-Ok-clause-kept : goal.returns-in-Ok-clause-kept
returns-in-Ok-clause-kept c = λ told kept counted going.
    kept_prepared told c.args.self.now c.prepare.new.self kept going counted c.prepare.ensures.now c.prepare.ensures.marked c.prepare.ensures.base
    c.in-Ok.ensures.below c.in-Ok.ensures.grown c.in-Ok.ensures.rising c.in-Ok.ensures.found
