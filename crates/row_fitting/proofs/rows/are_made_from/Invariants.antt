use Rattle.std.proofs.Common.{drop}
use Rattle.std.specs.Prelude.{◌↔◌}
use Rattle.mdc_ast.specs.FittingRows.{AreMadeFrom}
use Rattle.row_fitting.proofs.rows.are_made_from.Given as goal

-- all are made from their bases where those that are left are
abbrev pub invariant-loop-place : goal.invariant-loop-place
invariant-loop-place l = AreMadeFrom l.values l.columns l.values ↔ AreMadeFrom l.values (drop l.place l.columns) (drop l.place l.values)
