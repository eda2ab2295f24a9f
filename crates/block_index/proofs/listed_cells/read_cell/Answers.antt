use Rattle.std.proofs.Common.{arith}
use Rattle.table_trees.proofs.TableTreesLemmas.{dim_parts}
use Rattle.block_index.proofs.ListedCellsLemmas.{cell_read, dim_there, read_dims, reads_next_dim}
use Rattle.block_index.proofs.listed_cells.read_cell.Goals as goal

pub read_values-requires-clause-parts : goal.read_values-requires-clause-parts
read_values-requires-clause-parts c = dim_parts c.args.def.now.columns c.args.def.now.dims c.as_slice-dim-items.result.now c.loop-dim.dim-index c.dim-item.result c.dim-item.is c.as_slice-dim-items.ensures c.requires.parts c.loop-dim-test.true

pub read_values-requires-clause-long : goal.read_values-requires-clause-long
read_values-requires-clause-long c =
    dim_there c.args.def.now.columns c.args.def.now.dims c.as_slice-dim-items.result.now c.loop-dim.dim-index c.args.entry.now c.loop-dim.rest.now c.loop-dim.values c.loop-dim.invariant c.requires.long
    c.dim-item.result c.dim-item.is c.as_slice-dim-items.ensures c.requires.parts c.loop-dim-test.true

pub loop-dim-preserved : goal.loop-dim-preserved
loop-dim-preserved c =
    reads_next_dim c.args.def.now.columns c.args.def.now.dims c.as_slice-dim-items.result.now c.loop-dim.dim-index c.args.entry.now c.loop-dim.rest.now c.loop-dim.values c.loop-dim.invariant c.requires.long
    c.dim-item.result c.dim-item.is c.as_slice-dim-items.ensures c.requires.parts c.loop-dim-test.true c.in_ok-rest.rest.now c.read_values.new.values c.in_ok-rest.ensures.read c.in_ok-rest.ensures.rest

pub returns : goal.returns
returns c listed is =
    cell_read c.args.def.now c.args.entry.now c.loop-dim.rest.now c.loop-dim.values c.read_u32-block.result listed c.read_u32-block.ensures
    (read_dims c.args.def.now.columns c.args.def.now.dims c.as_slice-dim-items.result.now c.loop-dim.dim-index c.args.entry.now c.loop-dim.rest.now c.loop-dim.values c.loop-dim.invariant c.requires.long (omega (arith, c.loop-dim-test.false)))
    is
