-- Each part may be judged, and one that holds leaves the truth to those behind it.
use Rattle.std.proofs.Common.{refl, ◌∙◌, map, sym, ap, subst}
use Rattle.std.specs.Prelude.{IsTrue}
use Rattle.mdc_ast.specs.Truth.{all_of, all_true, is_true, may_judge, truth}
use Rattle.mdc_ast.proofs.PredLemmas.{may_judge-All, truth-All}
use Rattle.predicate.proofs.PredLemmas.{all_true-at}
use Rattle.row_page.specs.Row.{row_in}
use Rattle.row_filter.proofs.JudgingLemmas.{is_true-all_of}
use Rattle.row_filter.proofs.judging.is_met.Goals as goal

pub loop-part-init : goal.loop-part-init
loop-part-init c =
    let judge = truth (row_in c.args.row.now.columns.now c.args.row.now.bytes.now).values in (
      refl,
      ap (λ pred. is_true (judge pred)) c.in-All.is
          ∙ ap is_true (truth-All (row_in c.args.row.now.columns.now c.args.row.now.bytes.now).values c.in-All.parts)
          ∙ sym (ap (λ parts. is_true (all_of (map judge parts))) c.as_slice-part-items.ensures),
    )

pub holds-requires-in-loop-part-clause-judged : goal.holds-requires-in-loop-part-clause-judged
holds-requires-in-loop-part-clause-judged c =
    let judge = may_judge (row_in c.args.row.now.columns.now c.args.row.now.bytes.now).values in
    let whole = subst IsTrue (ap judge c.in-All.is ∙ may_judge-All (row_in c.args.row.now.columns.now c.args.row.now.bytes.now).values c.in-All.parts) c.requires.judged in
    let each = subst (λ parts. IsTrue (all_true (map judge parts))) (sym c.as_slice-part-items.ensures) whole in
    subst (λ part. IsTrue (judge part)) (sym c.part-item.is) (all_true-at judge c.as_slice-part-items.result.now c.loop-part.part-index c.part-item.result c.loop-part-test.true each)

pub loop-part-preserved : goal.loop-part-preserved
loop-part-preserved c =
    let judge = truth (row_in c.args.row.now.columns.now c.args.row.now.bytes.now).values in
    let held = subst (λ part. IsTrue (is_true (judge part))) c.part-item.is (subst IsTrue c.in_ok-holds.ensures.met c.if-not-branch.false) in (
      c.holds-in-loop-part.ensures.wide ∙ c.loop-part.invariant.0,
      c.loop-part.invariant.1 ∙ is_true-all_of judge c.as_slice-part-items.result.now c.loop-part.part-index c.part-item.result c.loop-part-test.true held,
    )
