use Rattle.std.proofs.Common.{◌≡◌, arith, drop, length}
use Rattle.std.proofs.lemmas.List.{take_at}
use Rattle.key_codec.proofs.EdgeLemmas.{edge_of_value}
use Rattle.key_codec.proofs.edge.Edge.of_value.Goals as goal

pub returns : goal.returns
returns c =
    let long : length c.put_ascending.new.part ≡ c.in_ok-front.front.len = omega (arith, c.put_ascending.auto.part, c.deref_mut.ensures.len) in
    let whole = take_at c.put_ascending.new.part (drop (length c.put_ascending.new.part) c.in_ok-front.front.items) c.in_ok-front.front.len long in
    rw (whole, c.put_ascending.ensures) (edge_of_value c.args.ty c.args.behind c.args.value.now c.requires)
