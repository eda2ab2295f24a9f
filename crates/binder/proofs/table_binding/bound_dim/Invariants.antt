use Rattle.std.proofs.Common.{◌≡◌, map, take}
use Rattle.statement_meaning.specs.Binding.{text_place}
use Rattle.binder.proofs.table_binding.bound_dim.Given as goal

abbrev pub invariant-loop-name : goal.invariant-loop-name
invariant-loop-name l = l.places ≡ map (text_place l.columns) (take l.name-index l.dim)
