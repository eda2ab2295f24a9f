use Rattle.store_api.proofs.RunsOverPagesLemmas.{runs_as, runs_exit, runs_wider}
use Rattle.checked_table.proofs.judging.verdict_with.Goals as goal

pub returns-in_err-write_definition-clause-runs : goal.returns-in_err-write_definition-clause-runs
returns-in_err-write_definition-clause-runs g c =
    runs_exit c.from_residual.result c.from_residual.ensures.1 (runs_wider c.in_err-write_definition.ensures.runs (λ p there mine. mine) (λ p none. absurd none) (λ damage none. none))

pub returns-in_err-verdict-clause-runs : goal.returns-in_err-verdict-clause-runs
returns-in_err-verdict-clause-runs g c =
    runs_exit c.from_residual-in_err-verdict.result c.from_residual-in_err-verdict.ensures.1
    (runs_as c.in_ok-write_definition.ensures.runs c.in_err-verdict.ensures.runs (λ p there mine. mine) (λ p there none. absurd none) (λ p none. absurd none) (λ p any. any) (λ damage none. none))

pub returns-clause-runs : goal.returns-clause-runs
returns-clause-runs g c =
    runs_as c.in_ok-write_definition.ensures.runs c.in_ok-verdict.ensures.runs (λ p there mine. mine) (λ p there none. absurd none) (λ p none. absurd none) (λ p any. any) (λ damage none. none)
