use Rattle.std.proofs.Common.{◌≡◌, ◌∙◌, ◌<◌, ◌++◌, ◌∷◌, [], Some, ap, arith, length, sym}
use Rattle.std.specs.Prelude.{remove}
use Rattle.std.proofs.lemmas.Result.{on_ok_weaker}
use Rattle.plan_chooser.specs.Narrowing.{is_beside, with_span}
use Rattle.plan_chooser.proofs.NarrowingLemmas.{comes_behind-more, narrowed-here}
use Rattle.plan_chooser.proofs.narrowing.narrow.Goals as goal

pub returns-then-is_beside : goal.returns-then-is_beside
returns-then-is_beside c =
    let spans = c.loop-i.spans in
    let more = c.args.more in
    let long : length spans ≡ length c.args.spans.now = ap length c.loop-i.invariant.same in
    let lt : c.loop-i.i < length spans = omega (arith, c.loop-i-test.true, c.loop-i.invariant.end, long) in
    let found : Some c.at.result.now ≡ Some c.remove-one.result = sym c.at.ensures ∙ c.remove-one.ensures.element in
    let one : c.at.result.now ≡ c.remove-one.result = cc in
    let beside = ap (λ x. is_beside x more) (sym one) ∙ sym c.is_beside.ensures ∙ c.if-is_beside.true in
    on_ok_weaker c.push.result
    (λ put. put
    ∙ ap (λ front. front ++ c.narrowed.result ∷ []) c.remove-one.ensures.rest
    ∙ ap (λ x. remove spans c.loop-i.i ++ x ∷ []) c.narrowed.ensures
    ∙ narrowed-here more spans c.loop-i.i c.remove-one.result lt c.remove-one.ensures.element c.loop-i.invariant.behind beside
    ∙ ap (with_span more) c.loop-i.invariant.same)
    c.push.ensures.ok

pub loop-i-preserved : goal.loop-i-preserved
loop-i-preserved c =
    let long : length c.loop-i.spans ≡ length c.args.spans.now = ap length c.loop-i.invariant.same in
    record {
      same = c.loop-i.invariant.same;
      end = c.loop-i.invariant.end;
      behind = comes_behind-more c.args.more c.loop-i.spans c.loop-i.i c.at.result.now (omega (arith, c.loop-i-test.true, c.loop-i.invariant.end, long)) c.at.ensures c.loop-i.invariant.behind
          (sym c.is_beside.ensures ∙ c.if-is_beside.false);
    }
