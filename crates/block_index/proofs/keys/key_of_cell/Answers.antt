use Rattle.table_trees.specs.RowCells.{cell_places}
use Rattle.block_index.specs.Cells.{key_of_values}
use Rattle.block_index.proofs.CellsLemmas.{dim_enough, dim_fits, dim_keyed}
use Rattle.table_trees.proofs.TableTreesLemmas.{dim_parts}
use Rattle.block_index.proofs.keys.key_of_cell.Goals as goal

pub push_key-requires-clause-parts : goal.push_key-requires-clause-parts
push_key-requires-clause-parts c = dim_parts c.args.def.now.columns c.args.def.now.dims c.as_slice-dim-items.result.now c.loop-dim.dim-index c.dim-item.result c.dim-item.is c.as_slice-dim-items.ensures c.requires.parts c.loop-dim-test.true

pub push_key-requires-clause-enough : goal.push_key-requires-clause-enough
push_key-requires-clause-enough c = dim_enough c.args.def.now.columns c.as_slice-dim-items.result.now c.loop-dim.dim-index c.dim-item.result c.dim-item.is c.loop-dim-test.true c.loop-dim.values.now c.loop-dim.invariant.fit

pub push_key-requires-clause-values : goal.push_key-requires-clause-values
push_key-requires-clause-values c = dim_fits c.args.def.now.columns c.as_slice-dim-items.result.now c.loop-dim.dim-index c.dim-item.result c.dim-item.is c.loop-dim-test.true c.loop-dim.values.now c.loop-dim.invariant.fit

pub loop-dim-preserved : goal.loop-dim-preserved
loop-dim-preserved c =
    dim_keyed c.args.def.now.columns c.as_slice-dim-items.result.now c.loop-dim.dim-index c.dim-item.result c.dim-item.is c.loop-dim-test.true c.loop-dim.values.now c.loop-dim.invariant.fit
    (key_of_values c.args.def.now.columns (cell_places c.args.def.now) c.args.cell.now.values) c.loop-dim.key.items c.push_key.new.key.items c.in_ok-values.values.now c.loop-dim.invariant c.in_ok-values.ensures.key c.in_ok-values.ensures.rest
