use Rattle.std.proofs.Common.{Some}
use Rattle.page_store.proofs.Desks.{brings_page, image_page, same_page, fetches_on_ok}
use Rattle.page_store.proofs.desk.Desk.find.Goals as goal

pub returns-in-Some-clause-ok : goal.returns-in-Some-clause-ok
returns-in-Some-clause-ok g c =
    let placed = c.in-Some.ensures in
    brings_page _ c.args.self.now (Some c.in-Some.hand) c.args.self.now.cache c.args.p placed.0 placed.1
    (image_page _ c.args.self.now c.args.p placed.0 c.requires.going c.requires.within placed.2)

pub returns-in-None-clause-ok : goal.returns-in-None-clause-ok
returns-in-None-clause-ok g c =
    fetches_on_ok c.find_committed.result _ _ c.args.self.now c.find_committed.new.self c.args.p
    (same_page _ c.args.self.now c.args.p c.requires.going c.requires.within c.in-None.ensures.1) c.find_committed.ensures.ok
