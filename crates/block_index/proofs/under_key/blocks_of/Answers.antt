use Rattle.std.proofs.Common.{◌+◌, ap, length, sym, ◌∙◌}
use Rattle.table_trees.specs.RowCells.{cell_places}
use Rattle.block_index.proofs.CellsLemmas.{length-key_of_values}
use Rattle.block_index.proofs.under_key.blocks_of.Goals as goal

pub blocks_under-requires-clause-width : goal.blocks_under-requires-clause-width
blocks_under-requires-clause-width g c =
    ap (λ n. n + 4) (ap length (c.deref.ensures.value ∙ c.in_ok-key.ensures.key) ∙ length-key_of_values c.args.def.now.columns (cell_places c.args.def.now) c.args.cell.now.values c.requires.parts.key.there c.requires.cell.each)
    ∙ sym (ap (λ p. p.width) c.composite_tree.ensures)
