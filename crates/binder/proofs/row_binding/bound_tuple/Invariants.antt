use Rattle.std.proofs.Common.{◌≡◌, map, take}
use Rattle.statement_meaning.specs.Binding.{given_for}
use Rattle.binder.specs.Classes.{target_names}
use Rattle.binder.proofs.row_binding.bound_tuple.Given as goal

abbrev pub invariant-loop-column : goal.invariant-loop-column
invariant-loop-column l = l.values ≡ map (λ column. given_for column (target_names l.targets) l.items) (take l.column-index l.columns)
