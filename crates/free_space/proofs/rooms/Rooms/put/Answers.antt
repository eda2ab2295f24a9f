use Rattle.std.proofs.Common.{rules, IsTrue, subst}
use Rattle.free_space.proofs.RoomNotesLemmas.{noted_by, noted_where_ok}
use Rattle.free_space.proofs.rooms.Rooms.put.Goals as goal

pub returns-in-Some : goal.returns-in-Some
returns-in-Some c done = noted_by c.args.key.now c.args.room c.args.self.now _ ((c.get_mut.follows.holds c.args.room).3 (search rules))

pub returns : goal.returns
returns c done =
    noted_where_ok c.args.key.now c.in-Ok.key.items c.args.room c.args.self.now _ _ c.insert.result c.in-Ok.ensures.items c.get_mut.follows.holds-at-none (subst IsTrue c.is_ok.ensures.value done) c.insert.ensures.updates
