use Rattle.std.proofs.Common.{arith, inl, inr}
use Rattle.std.proofs.lemmas.Result.{IfOk-weaker}
use Rattle.store_api.proofs.RunsOverPagesLemmas.{still_holds, runs_as}
use Rattle.store_api_tests.proofs.ledger.append_and_sum.Goals as goal

pub returns-clause-value : goal.returns-clause-value
returns-clause-value g c = IfOk-weaker c.sum.result _ _ (λ n so part holds.
    so part (record { each = λ p low high. still_holds c.append.ensures.runs (omega arith) (holds.each p low high) })) c.sum.ensures.value

pub returns-clause-runs : goal.returns-clause-runs
returns-clause-runs g c = runs_as c.in_ok-append.ensures.runs c.sum.ensures.runs (λ p there is. is) (λ p there none. absurd none) (λ p is. inl is) (λ p is. inr is) (λ damage none. absurd none)
