use Rattle.std.proofs.Common.{◌≡◌, map, take}
use Rattle.statement_meaning.specs.Binding.{the_place}
use Rattle.binder.proofs.query_binding.bound_group.Given as goal

abbrev pub invariant-loop-name : goal.invariant-loop-name
invariant-loop-name l = l.group ≡ map (the_place l.columns) (take l.name-index l.names)
