use Rattle.std.proofs.Common.{◌≡◌, map, take}
use Rattle.std.specs.List.{flat_map}
use Rattle.mdc_ast.specs.Truth.{value_at}
use Rattle.row_page.specs.Row.{row_in}
use Rattle.executor.proofs.settled_rows.cell_of.Given as goal

-- the values in the columns of the dimensions so far are there
abbrev pub invariant-loop-dim : goal.invariant-loop-dim
invariant-loop-dim l = record { values : l.values ≡ map (value_at (row_in l.row.columns.now l.row.bytes.now).values) (flat_map (λ dim. dim) (take l.dim-index l.def.dims)) }
