use Rattle.std.proofs.Common.{◌≡◌, None, slice_index_or, rules}
use Rattle.page_store.proofs.Desks.{unplaced}
use Rattle.page_store.proofs.desk.Desk.place_of.Goals as goal

pub returns-else-is_some : goal.returns-else-is_some
returns-else-is_some c =
    let none : slice_index_or c.args.self.now.changes.now c.args.p None ≡ None = search rules in
    unplaced c.args.self.now c.args.p c.requires.based none c.get.ensures.grown
