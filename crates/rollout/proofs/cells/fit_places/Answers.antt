-- The value in each place is judged by the type of the column there.
use Rattle.std.proofs.Common.{◌∙◌, arith, sym}
use Rattle.std.proofs.lemmas.Bool.{false≢true}
use Rattle.rollout.proofs.CellRowsLemmas.{fit_from, judged_at, judged_more}
use Rattle.rollout.proofs.cells.fit_places.Goals as goal

pub returns-then-not-has_key-clause-none : goal.returns-then-not-has_key-clause-none
returns-then-not-has_key-clause-none c is fit =
    absurd (false≢true (sym c.if-not-has_key.true ∙ (c.has_key.ensures
    ∙ judged_at c.args.columns.now c.args.places.now c.args.values.now c.loop-at.at c.from.result c.at.result.now c.index-values-at.result c.loop-at-test.true c.requires.one_each c.from.ensures c.at.ensures c.index-values-at.is fit)))

pub loop-at-preserved : goal.loop-at-preserved
loop-at-preserved c =
    judged_more c.args.columns.now c.args.places.now c.args.values.now c.loop-at.at c.from.result c.at.result.now c.index-values-at.result c.loop-at-test.true c.requires.one_each c.from.ensures c.at.ensures c.index-values-at.is
    (sym c.has_key.ensures ∙ c.if-not-has_key.false) c.loop-at.invariant

pub returns-clause-fit : goal.returns-clause-fit
returns-clause-fit c is =
    fit_from c.args.columns.now c.args.places.now c.args.values.now c.requires.one_each (λ k low. c.loop-at.invariant k (omega (arith, low, c.loop-at-test.false)))
