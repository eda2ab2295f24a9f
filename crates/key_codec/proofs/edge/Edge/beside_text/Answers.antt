use Rattle.std.proofs.Common.{◌≡◌, ◌-◌, ◌∙◌, ap, arith, drop, length, take, ◌∷◌}
use Rattle.std.proofs.lemmas.List.{take_at}
use Rattle.mdc_values.specs.Order.{padded}
use Rattle.key_codec.specs.Edges.{side_of_blanks}
use Rattle.key_codec.proofs.EdgeLemmas.{edge_of_text}
use Rattle.key_codec.proofs.edge.Edge.beside_text.Goals as goal

pub returns : goal.returns
returns c =
    let long : length c.put_text.new.part ≡ c.in_ok-front.front.len = omega (arith, c.put_text.auto.part, c.deref_mut.ensures.len) in
    let whole = take_at c.put_text.new.part (drop (length c.put_text.new.part) c.in_ok-front.front.items) c.in_ok-front.front.len long in
    let n_is : length c.deref_mut.result.now - 1 ≡ c.args.n = omega (arith, c.deref_mut.ensures.len, c.in_ok-front.ensures.len) in
    let front : c.put_text.new.part ≡ 0 ∷ padded c.args.n (take c.min.result c.args.text.now) =
    c.put_text.ensures ∙ ap (λ n. 0 ∷ padded n c.split_at.result.0.now) n_is ∙ ap (λ t. 0 ∷ padded c.args.n t) c.split_at.ensures.front in
    let side : c.side_of_blanks.result ≡ side_of_blanks c.args.behind (drop c.min.result c.args.text.now) =
    c.side_of_blanks.ensures ∙ ap (side_of_blanks c.args.behind) c.split_at.ensures.back in
    rw (whole, front, side) (edge_of_text c.args.n c.args.behind c.args.text.now c.min.result c.min.ensures (λ k. omega (arith, c.type_inv.text k)))
