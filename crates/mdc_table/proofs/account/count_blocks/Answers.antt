use Rattle.std.proofs.Common.{ap, length, ◌∙◌}
use Rattle.store_api.proofs.RunsOverPagesLemmas.{runs_exit}
use Rattle.free_space.proofs.TableRunsLemmas.{holds_block_map}
use Rattle.mdc_table.proofs.StandingBlocksLemmas.{runs_on_map}
use Rattle.mdc_table.proofs.account.count_blocks.Goals as goal

pub returns-in_err-blocks-clause-runs : goal.returns-in_err-blocks-clause-runs
returns-in_err-blocks-clause-runs g c = runs_exit c.from_residual.result c.from_residual.ensures.1 (runs_on_map c.args.shape c.args.def.now c.at.result.tree c.at.ensures c.at.result.seven c.in_err-blocks.ensures.runs)

pub returns-clause-counts : goal.returns-clause-counts
returns-clause-counts g c owners forests st =
    c.len.ensures
    ∙ ap length (c.in_ok-blocks.ensures.listed forests.map (holds_block_map c.args.shape c.args.pages.now c.args.def.now c.at.result.tree owners forests c.at.ensures c.at.result.seven st))

pub returns-clause-runs : goal.returns-clause-runs
returns-clause-runs g c = runs_on_map c.args.shape c.args.def.now c.at.result.tree c.at.ensures c.at.result.seven c.in_ok-blocks.ensures.runs
