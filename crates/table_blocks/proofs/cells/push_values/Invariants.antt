use Rattle.std.proofs.Common.{◌++◌, drop, map}
use Rattle.mdc_ast.specs.Truth.{value_at}
use Rattle.table_blocks.proofs.CopiedCellsLemmas.{IsCopiedSo}
use Rattle.table_blocks.proofs.cells.push_values.Given as goal

abbrev pub invariant-loop-place : goal.invariant-loop-place
invariant-loop-place l = IsCopiedSo l.columns l.values (l.initial.cell.items ++ map (value_at l.values) l.places) (drop l.place-index l.place-items) l.cell.items
