use Rattle.store_api.proofs.RunsOverPagesLemmas.{runs_wider}
use Rattle.file_check.proofs.BlockHitsLemmas.{reading_breaks_none}
use Rattle.file_check.proofs.rows.rows_of_block.Goals as goal

pub returns-in-Ok-clause-rows : goal.returns-in-Ok-clause-rows
returns-in-Ok-clause-rows g c told has = c.in-Ok.ensures.rows told

pub returns-in-Ok-clause-runs : goal.returns-in-Ok-clause-runs
returns-in-Ok-clause-runs g c =
    runs_wider c.in-Ok.ensures.runs (λ p there mine. mine) (λ p is. tt) (reading_breaks_none c.args.shape c.args.pages.now c.args.def.now c.args.block)

pub returns-in-Err-clause-runs : goal.returns-in-Err-clause-runs
returns-in-Err-clause-runs g c =
    runs_wider c.in-Err.ensures.runs (λ p there mine. mine) (λ p is. tt) (reading_breaks_none c.args.shape c.args.pages.now c.args.def.now c.args.block)
