use Rattle.std.proofs.Common.{◌∙◌}
use Rattle.table_trees.specs.RowCells.{cell_places}
use Rattle.mdc_sound.proofs.DefinitionTreesLemmas.{has_block_indexes}
use Rattle.mdc_table.proofs.TakingRowsLemmas.{keys_of_read, note_forgotten, note_lowered}
use Rattle.mdc_table.proofs.taking.lower_note.Goals as goal

pub cell_key-requires-clause-parts : goal.cell_key-requires-clause-parts
cell_key-requires-clause-parts c = (has_block_indexes c.args.def.now.number c.args.def.now c.requires.defined).composite.key

pub cell_key-requires-clause-values : goal.cell_key-requires-clause-values
cell_key-requires-clause-values c =
    let def = c.args.def.now in keys_of_read def.columns (cell_places def) c.args.row.now (has_block_indexes def.number def c.requires.defined).composite.key.there c.requires.keyed

pub returns-in-Ok : goal.returns-in-Ok
returns-in-Ok c = record {
  lowers = note_lowered c.args.def.now c.args.row.now c.args.block c.args.rooms.now c.lower.new.self c.deref.result.now (c.deref.ensures.value ∙ c.in-Ok.ensures.key) c.lower.ensures;
}

pub returns-in-Err : goal.returns-in-Err
returns-in-Err c = record { lowers = note_forgotten c.args.def.now c.args.row.now c.args.block c.args.rooms.now c.forget.new.self c.forget.ensures }
