-- A blank at the end says nothing, and where there is none the text stays.
use Rattle.std.proofs.Common.{arith, sym, ◌∙◌}
use Rattle.mdc_values.proofs.ValueLemmas.{trimmed-before_blank, trimmed-up_to_other, trimmed-nothing}
use Rattle.mdc_values.proofs.fitting.trim.Goals as goal
use Rattle.mdc_values.proofs.fitting.trim.Goals.{then-loop-end-test+else-text-end-eq32, else-loop-end-test}

pub loop-end-preserved : goal.loop-end-preserved
loop-end-preserved c =
    (omega arith, trimmed-before_blank c.loop-end.end c.args.text.now (omega arith) (omega arith) c.if-text-end-eq32.true ∙ c.loop-end.invariant.1)

pub returns : goal.returns
returns c = elim c.loop-end-test.branch [ then-loop-end-test+else-text-end-eq32 w ↦ sym (trimmed-up_to_other c.loop-end.end c.args.text.now (omega arith) (omega arith) w.if-text-end-eq32.false) ∙ c.loop-end.invariant.1 | else-loop-end-test w ↦ sym (trimmed-nothing c.loop-end.end c.args.text.now w.loop-end-test.false) ∙ c.loop-end.invariant.1 ]
