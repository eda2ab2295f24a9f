use Rattle.store_api.proofs.RunsOverPagesLemmas.{runs_none, runs_wider}
use Rattle.free_space.proofs.TableRunsLemmas.{runs_broken}
use Rattle.mdc_table.proofs.StandingBlocksLemmas.{breaks_past, breaks_rows_of_used}
use Rattle.mdc_table.proofs.reading.rows_of_used_block.Goals as goal

pub returns-then-block-shape-clause-runs : goal.returns-then-block-shape-clause-runs
returns-then-block-shape-clause-runs g c =
    runs_broken c.unmapped.result c.unmapped.ensures runs_none (breaks_past c.args.shape c.args.pages.now c.args.def.now c.args.block c.if-block-shape.true)

pub returns-in-Ok-clause-rows : goal.returns-in-Ok-clause-rows
returns-in-Ok-clause-rows g c = λ owners forests st used. c.in-Ok.ensures.rows st.told

pub returns-in-Ok-clause-runs : goal.returns-in-Ok-clause-runs
returns-in-Ok-clause-runs g c =
    runs_wider c.in-Ok.ensures.runs (λ p there none. absurd none) (λ p is. is) (λ damage b. breaks_rows_of_used c.args.shape c.args.pages.now c.args.def.now c.args.block damage c.if-block-shape.false b)

pub returns-in-Err-clause-runs : goal.returns-in-Err-clause-runs
returns-in-Err-clause-runs g c =
    runs_wider c.in-Err.ensures.runs (λ p there none. absurd none) (λ p is. is) (λ damage b. breaks_rows_of_used c.args.shape c.args.pages.now c.args.def.now c.args.block damage c.if-block-shape.false b)
