use Rattle.std.proofs.Common.{◌≡◌, ◌++◌, map, take}
use Rattle.mdc_ast.specs.Truth.{value_at}
use Rattle.row_page.specs.Row.{row_in}
use Rattle.executor.proofs.settled_rows.push_values.Given as goal

-- the values in the places so far are there, behind those that were
abbrev pub invariant-loop-place : goal.invariant-loop-place
invariant-loop-place l = record { values : l.values ≡ l.initial.values ++ map (value_at (row_in l.row.columns.now l.row.bytes.now).values) (take l.place-index l.places) }
