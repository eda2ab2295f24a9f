use Rattle.std.proofs.Common.{◌≡◌, ◌∙◌, arith}
use Rattle.mdc_ast.specs.declared.row.Cell.{Cell}
use Rattle.table_trees.specs.RowCells.{cell_values}
use Rattle.block_index.proofs.CellsLemmas.{fits_cell-row}
use Rattle.table_blocks.proofs.CopiedCellsLemmas.{all_dims_copied, dim_copied_keys, dim_copied_next}
use Rattle.table_blocks.proofs.cells.cell_of.Goals as goal

pub push_values-requires : goal.push_values-requires
push_values-requires c = record {
  keys = dim_copied_keys c.args.def.now.columns c.args.values.now (cell_values c.args.def.now c.args.values.now) c.as_slice-dim-items.result.now c.loop-dim.dim-index c.dim-item.result c.dim-item.is
      c.loop-dim-test.true c.loop-dim.cell.items c.loop-dim.invariant;
}

pub loop-dim-preserved : goal.loop-dim-preserved
loop-dim-preserved c =
    dim_copied_next c.args.def.now.columns c.args.values.now (cell_values c.args.def.now c.args.values.now) c.as_slice-dim-items.result.now c.loop-dim.dim-index c.dim-item.result c.dim-item.is
    c.loop-dim-test.true c.loop-dim.cell.items c.loop-dim.invariant
    c.push_values.new.cell.items c.in_ok-push_values.ensures.cell

pub returns-clause-fits : goal.returns-clause-fits
returns-clause-fits c =
    let cell : Cell = record { values = c.from_vec.result } in
    let is : c.from_vec.result ≡ cell_values c.args.def.now c.args.values.now =
    c.from_vec.ensures ∙ all_dims_copied c.args.def.now.columns c.args.values.now (cell_values c.args.def.now c.args.values.now) c.as_slice-dim-items.result.now c.loop-dim.dim-index c.loop-dim.cell.items c.loop-dim.invariant (omega arith) in
    fits_cell-row c.args.def.now cell c.args.values.now is c.requires.keys
