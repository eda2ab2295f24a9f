use Rattle.std.proofs.Common.{◌≡◌, ◌-◌, get_or, [], true, false, ap, sym, ◌∙◌, arith, refl}
use Rattle.std.proofs.lemmas.Bool.{both_ways}
use Rattle.mdc_words.specs.ByteOrder.{below}
use Rattle.node_page.specs.Looked.{entries_in}
use Rattle.node_page.proofs.JudgeLemmas.{rise_by_steps, steps_more}
use Rattle.node_page.proofs.FindLemmas.{rises_at}
use Rattle.node_page.proofs.view.NodeView.rises.Goals as goal

pub loop-i-init : goal.loop-i-init
loop-i-init c = λ k lt. absurd (omega arith)

pub loop-i-preserved : goal.loop-i-preserved
loop-i-preserved c =
    let entries = entries_in c.args.self.now.node in
    let i = c.loop-i.i in
    let is : below (get_or entries (i - 1) []) (get_or entries i []) ≡ true =
    ap (λ x. below x (get_or entries i [])) (sym c.entry.ensures.bytes) ∙ ap (below c.entry.result.now) (sym c.entry-in-loop-i.ensures.bytes)
    ∙ sym c.is_below.ensures ∙ c.if-not-is_below.false in
    steps_more entries i (omega arith) c.loop-i.invariant is

pub returns-then-not-is_below : goal.returns-then-not-is_below
returns-then-not-is_below c =
    let entries = entries_in c.args.self.now.node in
    let i = c.loop-i.i in
    let isnt : below (get_or entries (i - 1) []) (get_or entries i []) ≡ false =
    ap (λ x. below x (get_or entries i [])) (sym c.entry.ensures.bytes) ∙ ap (below c.entry.result.now) (sym c.entry-in-loop-i.ensures.bytes)
    ∙ sym c.is_below.ensures ∙ c.if-not-is_below.true in
    ((λ f. absurd (cc)), (λ r. absurd (both_ways (below (get_or entries (i - 1) []) (get_or entries i [])) isnt (rises_at entries (i - 1) i r (omega arith) (omega (arith, c.loop-i-test.true, c.len-i-end.ensures))))))

pub returns : goal.returns
returns c =
    let entries = entries_in c.args.self.now.node in
    ((λ t. rise_by_steps entries (λ k lt. c.loop-i.invariant k (omega (arith, c.loop-i-test.false, c.len-i-end.ensures)))), (λ r. refl))
