use Rattle.std.proofs.Common.{◌≡◌, ◌-◌, length, drop, arith, refl, ◌∙◌}
use Rattle.node_page.proofs.WordsLemmas.{order, order_by, order_at_end, passed_on}
use Rattle.node_page.proofs.order.compare_by_halves.Goals as goal

pub returns-then-x-y : goal.returns-then-x-y
returns-then-x-y c =
    c.cmp.ensures ∙ order_by 4 c.args.a.now c.args.b.now (λ k. (c.type_inv.a k).fits) (λ k. (c.type_inv.b k).fits) 0 c.half-x.result c.half-y.result
    (omega (arith, c.requires.long)) (omega (arith, c.requires.long, c.requires.same)) refl c.half-x.ensures c.half-y.ensures c.if-x-y.true

pub returns : goal.returns
returns c =
    let a = c.args.a.now in
    let b = c.args.b.now in
    let decides : order a b ≡ order (drop (length a - 4) a) (drop (length a - 4) b) =
    passed_on 4 a b (λ k. (c.type_inv.a k).fits) (λ k. (c.type_inv.b k).fits) 0 (length a - 4) c.half-x.result c.half-y.result
    (omega arith) (omega (arith, c.requires.short)) (omega (arith, c.requires.long)) (omega (arith, c.requires.long, c.requires.same)) refl c.half-x.ensures c.half-y.ensures c.if-x-y.false in
    c.cmp-2.ensures ∙ order_at_end 4 a b (λ k. (c.type_inv.a k).fits) (λ k. (c.type_inv.b k).fits) (length a - 4) c.half.result c.half-2.result
    (omega (arith, c.requires.long)) c.requires.same decides c.half.ensures c.half-2.ensures
