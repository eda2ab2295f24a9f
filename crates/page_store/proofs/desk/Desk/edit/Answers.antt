use Rattle.std.proofs.Common.{refl}
use Rattle.page_store.proofs.desk.Desk.edit.Goals as goal

pub returns : goal.returns
returns g c = ((refl, (λ w. let h = c.edit.follows.holds w in (record { changes = h.0; shape = refl; base = refl; cache = refl; hand = refl; prepared = refl; halt = refl }, h.1)), (let h = c.edit.follows.holds-at-none in (record { changes = h.0; shape = refl; base = refl; cache = refl; hand = refl; prepared = refl; halt = refl }, h.1))), record { lends = tt; noted = c.edit.ensures.noted; unnoted = c.edit.ensures.unnoted; page = c.edit.ensures.page; memory = c.edit.ensures.memory })
