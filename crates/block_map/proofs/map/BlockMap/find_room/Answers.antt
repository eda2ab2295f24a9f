use Rattle.block_map.proofs.CountingLemmas.{finds_with_room, full_where_lacking, full_where_none}
use Rattle.block_map.proofs.map.BlockMap.find_room.Goals as goal

pub returns-then-lacks_room-clause-full : goal.returns-then-lacks_room-clause-full
returns-then-lacks_room-clause-full g c =
    let found = c.in_ok-found.ensures in
    full_where_lacking g.P.Pages c.args.pages.now c.find_row.new.pages c.args.self.now.tree c.args.block c.args.most c.in_ok-found.found found.lacks found.found found.named found.stands (c.lacks_room.ensures.lacks c.if-lacks_room.true)

pub returns-clause-full : goal.returns-clause-full
returns-clause-full g c = full_where_none g.P.Pages c.args.pages.now c.find_row.new.pages c.args.self.now.tree c.args.block c.args.most c.in_ok-found.found c.in_ok-found.ensures.lacks

pub returns-clause-finds : goal.returns-clause-finds
returns-clause-finds g c =
    let found = c.in_ok-found.ensures in
    finds_with_room g.P.Pages c.args.pages.now c.find_row.new.pages c.args.self.now.tree c.args.block c.args.most c.in_ok-found.found found.found found.named found.stands (c.lacks_room.ensures.room c.if-lacks_room.false)
