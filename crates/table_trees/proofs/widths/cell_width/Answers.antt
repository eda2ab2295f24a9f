use Rattle.std.proofs.Common.{arith}
use Rattle.table_trees.proofs.TableTreesLemmas.{dim_few, dim_next, dim_parts}
use Rattle.table_trees.proofs.widths.cell_width.Goals as goal

pub places_width-total-requires : goal.places_width-total-requires
places_width-total-requires c = dim_parts c.args.def.now.columns c.args.def.now.dims c.as_slice-dim-items.result.now c.loop-dim.dim-index c.dim-item.result c.dim-item.is c.as_slice-dim-items.ensures c.requires c.loop-dim-test.true

pub overflow_add-total : goal.overflow_add-total
overflow_add-total c =
    omega (
      arith,
      dim_few c.args.def.now.columns c.args.def.now.dims c.as_slice-dim-items.result.now c.loop-dim.dim-index c.dim-item.result c.dim-item.is c.as_slice-dim-items.ensures c.requires c.loop-dim-test.true
          c.loop-dim.total c.places_width-total.result c.places_width-total.ensures c.loop-dim.invariant,
    )

pub loop-dim-preserved : goal.loop-dim-preserved
loop-dim-preserved c =
    dim_next c.args.def.now.columns c.args.def.now.dims c.as_slice-dim-items.result.now c.loop-dim.dim-index c.dim-item.result c.dim-item.is c.as_slice-dim-items.ensures c.requires c.loop-dim-test.true
    c.loop-dim.total c.places_width-total.result c.places_width-total.ensures c.loop-dim.invariant
