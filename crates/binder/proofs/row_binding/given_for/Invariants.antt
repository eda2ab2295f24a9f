use Rattle.std.proofs.Common.{◌≡◌, drop}
use Rattle.statement_meaning.specs.Binding.{given_for}
use Rattle.binder.specs.Classes.{target_names}
use Rattle.binder.proofs.row_binding.given_for.Given as goal

abbrev pub invariant-loop-place : goal.invariant-loop-place
invariant-loop-place l = given_for l.column (target_names l.targets) l.items ≡ given_for l.column (drop l.place (target_names l.targets)) (drop l.place l.items)
