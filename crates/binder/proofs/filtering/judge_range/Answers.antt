use Rattle.std.proofs.lemmas.Result.{err_from_is_err_and}
use Rattle.binder.specs.Saying.{objected}
use Rattle.binder.proofs.FirstLemmas.{first_of-front}
use Rattle.binder.proofs.filtering.judge_range.Goals as goal

pub returns-in_err-judge_compared : goal.returns-in_err-judge_compared
returns-in_err-judge_compared c =
    let p = err_from_is_err_and c.from_residual.result c.from_residual.ensures.1 in
    rw (p.1, p.2) (first_of-front _ _ (objected c.in_err-judge_compared.field-0.0) c.in_err-judge_compared.ensures)
