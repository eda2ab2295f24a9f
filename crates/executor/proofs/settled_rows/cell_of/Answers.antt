use Rattle.std.proofs.Common.{◌<◌, List, length, subst, sym}
use Rattle.std.specs.List.{AllByRecursion}
use Rattle.mdc_ast.specs.declared.definition.ColumnDef.{ColumnDef}
use Rattle.block_rows.proofs.CellColumnsLemmas.{dimension_there}
use Rattle.executor.proofs.settled_rows.cell_of.Goals as goal

pub push_values-requires : goal.push_values-requires
push_values-requires c = record {
  there = subst (λ (columns : List ColumnDef). AllByRecursion (λ place. place < length columns) c.as_slice.result.now) (sym c.requires.columns)
      (subst (AllByRecursion (λ place. place < length c.args.def.now.columns)) (sym c.as_slice.ensures)
      (dimension_there c.args.def.now c.as_slice-dim-items.result.now c.loop-dim.dim-index c.dim-item.result c.requires.defined c.as_slice-dim-items.ensures c.loop-dim-test.true c.dim-item.is));
}
