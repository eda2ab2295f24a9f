use Rattle.std.proofs.Common.{◌∙◌, ap, sym}
use Rattle.block_index.specs.declared.listed_cells.CellBlock.{CellBlock}
use Rattle.store_api.proofs.RunsOverPagesLemmas.{runs_memory, runs_none}
use Rattle.table_scan.proofs.BlocksThatMayLemmas.{entry_chosen}
use Rattle.table_scan.proofs.choosing.listed_block.Goals as goal

pub returns-in_default-clause-runs : goal.returns-in_default-clause-runs
returns-in_default-clause-runs g c = runs_memory runs_none

pub returns-clause-entry : goal.returns-clause-entry
returns-clause-entry g c =
    entry_chosen c.args.def.now c.args.pred.now c.args.entries.now c.args.chosen.now c.index-entries-chosen.result _ _ c.requires.choice c.index-entries-chosen.is (c.in-Ok.ensures ∙ ap (λ (o : CellBlock). o.cell) (sym c.index-entries-chosen.is))
