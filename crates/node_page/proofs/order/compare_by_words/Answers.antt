use Rattle.std.proofs.Common.{◌∙◌, refl, arith}
use Rattle.node_page.proofs.WordsLemmas.{order_by}
use Rattle.node_page.proofs.order.compare_by_words.Goals as goal

pub returns-then-x-first : goal.returns-then-x-first
returns-then-x-first c =
    c.cmp.ensures ∙ order_by 8 c.args.a.now c.args.b.now (λ k. (c.type_inv.a k).fits) (λ k. (c.type_inv.b k).fits) 0 c.word-x.result c.args.first
    (omega (arith, c.requires.long)) (omega (arith, c.requires.long, c.requires.same)) refl c.word-x.ensures c.requires.read c.if-x-first.true
