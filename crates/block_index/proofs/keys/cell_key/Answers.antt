use Rattle.std.proofs.Common.{arith, take}
use Rattle.std.proofs.lemmas.List.{length-take}
use Rattle.key_codec.specs.Keys.{key_bytes}
use Rattle.table_trees.specs.RowCells.{cell_places}
use Rattle.table_trees.specs.TableTrees.{cell_parts}
use Rattle.table_trees.proofs.TableTreesLemmas.{dim_parts}
use Rattle.block_index.proofs.CellsLemmas.{dim_row_keyed, dim_row_keys, dim_row_within, row_key_short}
use Rattle.block_index.proofs.keys.cell_key.Goals as goal

pub put_row_key-end-requires-clause-parts : goal.put_row_key-end-requires-clause-parts
put_row_key-end-requires-clause-parts c = dim_parts c.args.def.now.columns c.args.def.now.dims c.as_slice-dim-items.result.now c.loop-dim.dim-index c.dim-item.result c.dim-item.is c.as_slice-dim-items.ensures c.requires.parts c.loop-dim-test.true

pub put_row_key-end-requires-clause-values : goal.put_row_key-end-requires-clause-values
put_row_key-end-requires-clause-values c =
    dim_row_keys c.args.def.now.columns c.args.values.now (key_bytes c.args.def.now.columns (cell_parts c.args.def.now) c.args.values.now) c.as_slice-dim-items.result.now c.loop-dim.dim-index c.dim-item.result c.dim-item.is c.loop-dim-test.true (take c.loop-dim.end c.loop-dim.key) c.loop-dim.invariant.0

pub put_row_key-end-requires-clause-room : goal.put_row_key-end-requires-clause-room
put_row_key-end-requires-clause-room c =
    let within = dim_row_within c.args.def.now.columns c.args.values.now (key_bytes c.args.def.now.columns (cell_parts c.args.def.now) c.args.values.now) c.as_slice-dim-items.result.now c.loop-dim.dim-index c.dim-item.result c.dim-item.is c.loop-dim-test.true
    (take c.loop-dim.end c.loop-dim.key) c.loop-dim.invariant.0 in
    omega (arith, within, row_key_short c.args.def.now.columns (cell_places c.args.def.now) c.args.values.now c.requires.parts c.requires.values, length-take c.loop-dim.end c.loop-dim.key, c.loop-dim.invariant.1, c.dim-item.array_long)

pub loop-dim-preserved : goal.loop-dim-preserved
loop-dim-preserved c =
    let within = dim_row_within c.args.def.now.columns c.args.values.now (key_bytes c.args.def.now.columns (cell_parts c.args.def.now) c.args.values.now) c.as_slice-dim-items.result.now c.loop-dim.dim-index c.dim-item.result c.dim-item.is c.loop-dim-test.true
    (take c.loop-dim.end c.loop-dim.key) c.loop-dim.invariant.0 in (
      dim_row_keyed c.args.def.now.columns c.args.values.now (key_bytes c.args.def.now.columns (cell_parts c.args.def.now) c.args.values.now) c.as_slice-dim-items.result.now c.loop-dim.dim-index c.dim-item.result c.dim-item.is c.loop-dim-test.true
          (take c.loop-dim.end c.loop-dim.key) c.loop-dim.invariant.0 (take c.put_row_key-end.result c.put_row_key-end.new.out) c.put_row_key-end.ensures.key,
      omega (arith, within, row_key_short c.args.def.now.columns (cell_places c.args.def.now) c.args.values.now c.requires.parts c.requires.values, length-take c.loop-dim.end c.loop-dim.key, c.loop-dim.invariant.1, c.dim-item.array_long, c.put_row_key-end.ensures.end),
    )
