use Rattle.std.proofs.Common.{◌∙◌}
use Rattle.std.proofs.lemmas.Result.{err_from_is_err_and}
use Rattle.statement_meaning.specs.Judging.{fit_compared}
use Rattle.binder.specs.Classes.{literal_causes}
use Rattle.binder.specs.Saying.{objected}
use Rattle.binder.proofs.FirstLemmas.{first_of-here, first_of-next}
use Rattle.binder.proofs.filtering.judge_literals.Goals as goal

pub returns-in_err-judge_compared : goal.returns-in_err-judge_compared
returns-in_err-judge_compared c =
    let p = err_from_is_err_and c.from_residual.result c.from_residual.ensures.1 in
    rw (p.1, p.2)
    (c.loop-literal.invariant
    ∙ first_of-here (λ literal. literal_causes c.args.class c.args.name.now (fit_compared c.args.ty literal)) c.args.literals.now c.loop-literal.literal-index c.literal-item.result (objected c.in_err-judge_compared.field-0.0) c.loop-literal-test.true c.literal-item.is c.in_err-judge_compared.ensures)

pub loop-literal-preserved : goal.loop-literal-preserved
loop-literal-preserved c =
    c.loop-literal.invariant
    ∙ first_of-next (λ literal. literal_causes c.args.class c.args.name.now (fit_compared c.args.ty literal)) c.args.literals.now c.loop-literal.literal-index c.literal-item.result c.loop-literal-test.true c.literal-item.is c.in_ok-judge_compared.ensures
