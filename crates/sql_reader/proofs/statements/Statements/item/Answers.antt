use Rattle.sql_reader.proofs.Standings.{kept_told, long_told, if_ok_as}
use Rattle.sql_reader.proofs.statements.Statements.item.Goals as goal

pub returns-then-self : goal.returns-then-self
returns-then-self c = rw (← c.self.view_is) (λ piece covers. long_told _ _ piece _ c.if-self.true c.too_long.ensures covers)

pub returns : goal.returns
returns c =
    rw (← c.self.view_is) (if_ok_as c.item_in.result _ _ c.item_in.ensures
    (λ found item piece covers. kept_told _ _ piece found c.if-self.false (rw (← c.deref.ensures.value) item) covers))
