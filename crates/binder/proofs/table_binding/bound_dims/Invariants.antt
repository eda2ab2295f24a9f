use Rattle.std.proofs.Common.{◌≡◌, map, take}
use Rattle.statement_meaning.specs.Binding.{text_place}
use Rattle.binder.proofs.table_binding.bound_dims.Given as goal

abbrev pub invariant-loop-dim : goal.invariant-loop-dim
invariant-loop-dim l = l.bound ≡ map (λ dim. map (text_place l.columns) dim) (take l.dim-index l.dims)
