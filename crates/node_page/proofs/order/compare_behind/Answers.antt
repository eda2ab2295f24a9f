use Rattle.std.proofs.Common.{◌≡◌, ◌-◌, length, take, drop, arith, subst, refl, ◌∙◌}
use Rattle.std.specs.Slice.Scan.{big_endian}
use Rattle.node_page.proofs.WordsLemmas.{order, order_by, order_at_end, passed_on}
use Rattle.node_page.proofs.order.compare_behind.Goals as goal

pub loop-at-init : goal.loop-at-init
loop-at-init c = record {
  within = c.next_word-at.ensures.within;
  decides = passed_on 8 c.args.a.now c.args.b.now (λ k. (c.type_inv.a k).fits) (λ k. (c.type_inv.b k).fits) 0 c.next_word-at.result
      (big_endian 0 (take 8 c.args.a.now)) (big_endian 0 (take 8 c.args.b.now)) (omega arith) (omega (arith, c.next_word-at.ensures.behind))
      (omega (arith, c.requires.long)) (omega (arith, c.requires.long, c.requires.same)) refl refl refl c.requires.alike;
}

pub returns-then-x-y : goal.returns-then-x-y
returns-then-x-y c =
    c.cmp.ensures ∙ order_by 8 c.args.a.now c.args.b.now (λ k. (c.type_inv.a k).fits) (λ k. (c.type_inv.b k).fits) c.loop-at.at c.word-x.result c.word-y.result
    (omega (arith, c.loop-at-test.true, c.requires.long)) (omega (arith, c.loop-at-test.true, c.requires.long, c.requires.same)) c.loop-at.invariant.decides c.word-x.ensures c.word-y.ensures c.if-x-y.true

pub loop-at-preserved : goal.loop-at-preserved
loop-at-preserved c =
    let next = c.next_word-at-in-loop-at in record {
      within = next.ensures.within;
      decides = passed_on 8 c.args.a.now c.args.b.now (λ k. (c.type_inv.a k).fits) (λ k. (c.type_inv.b k).fits) c.loop-at.at next.result c.word-x.result c.word-y.result
          (omega (arith, next.ensures.farther c.loop-at-test.true)) next.ensures.behind
          (omega (arith, c.loop-at-test.true, c.requires.long)) (omega (arith, c.loop-at-test.true, c.requires.long, c.requires.same)) c.loop-at.invariant.decides c.word-x.ensures c.word-y.ensures c.if-x-y.false;
    }

pub returns : goal.returns
returns c =
    let at : c.loop-at.at ≡ length c.args.a.now - 8 = omega (arith, c.loop-at-test.false, c.loop-at.invariant.within) in
    c.cmp-2.ensures ∙ order_at_end 8 c.args.a.now c.args.b.now (λ k. (c.type_inv.a k).fits) (λ k. (c.type_inv.b k).fits) (length c.args.a.now - 8) c.word.result c.word-2.result
    (omega (arith, c.requires.long)) c.requires.same (subst (λ k. order c.args.a.now c.args.b.now ≡ order (drop k c.args.a.now) (drop k c.args.b.now)) at c.loop-at.invariant.decides) c.word.ensures c.word-2.ensures
