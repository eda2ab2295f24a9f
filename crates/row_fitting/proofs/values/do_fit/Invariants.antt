use Rattle.std.proofs.Common.{◌≡◌, drop}
use Rattle.mdc_ast.specs.Database.{fits_all}
use Rattle.row_fitting.proofs.values.do_fit.Given as goal

-- all fit where those that are left do
abbrev pub invariant-loop-place : goal.invariant-loop-place
invariant-loop-place l = fits_all l.columns l.values ≡ fits_all (drop l.place l.columns) (drop l.place l.values)
