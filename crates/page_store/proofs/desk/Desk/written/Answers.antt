use Rattle.std.proofs.Common.{arith, ◌∙◌, sym}
use Rattle.page_store.proofs.Desks.{differing_work}
use Rattle.page_store.proofs.desk.Desk.written.Goals as goal

pub returns-clause-enough : goal.returns-clause-enough
returns-clause-enough c = λ told kept going.
    let enough = differing_work told c.args.self.now kept going (sym c.kept.ensures.kept ∙ c.kept.ensures.changed) (λ p le lt. c.kept.ensures.grown p (omega (arith, le, kept.based)) lt) in
    omega (arith, enough, c.kept.ensures.kept)
