use Rattle.std.proofs.Common.{ap, arith, get_or, rules, subst, ◌∙◌}
use Rattle.free_space.specs.RoomNotes.{IsForgotten}
use Rattle.script_engine.specs.NotedRooms.{note_in}
use Rattle.script_engine.proofs.NotedRoomsLemmas.{item_below}
use Rattle.script_engine.proofs.table_rooms.TableRooms.new.Goals as goal

pub returns : goal.returns
returns c table low key =
    let item = item_below c.from_fn.result table (omega (arith, c.from_fn.ensures.items.long, low)) in
    let made = c.from_fn.ensures.items.at table item.0 low in
    let forgotten : IsForgotten (get_or c.from_fn.result table item.0) = search rules in
    ap (λ found. note_in found key) item.1 ∙ subst IsForgotten item.2 forgotten key
