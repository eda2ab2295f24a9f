use Rattle.std.proofs.lemmas.Result.{IfOk-weaker}
use Rattle.table_blocks.proofs.SeenSlotsLemmas.{holds_map}
use Rattle.mdc_table.proofs.StandingBlocksLemmas.{runs_on_map}
use Rattle.mdc_table.proofs.reading.used_lines.Goals as goal

pub returns-clause-of_tree : goal.returns-clause-of_tree
returns-clause-of_tree g c =
    IfOk-weaker c.rows.result _ _
    (λ used rows t held. rows t (holds_map c.args.pages.now c.args.def.now c.at.result.tree t c.at.ensures c.at.result.seven held))
    c.rows.ensures.rows

pub returns-clause-runs : goal.returns-clause-runs
returns-clause-runs g c = runs_on_map c.args.shape c.args.def.now c.at.result.tree c.at.ensures c.at.result.seven c.rows.ensures.runs
