use Rattle.std.proofs.Common.{◌≡◌, ◌++◌, map, take}
use Rattle.std.specs.List.{flat_map}
use Rattle.binder.proofs.creation.names_in.Given as goal

abbrev pub invariant-loop-dim : goal.invariant-loop-dim
invariant-loop-dim l = map (λ name. name.now) l.names.items ≡ flat_map (λ dim. dim) (take l.dim-index l.dims)

abbrev pub invariant-loop-name : goal.invariant-loop-name
invariant-loop-name l =
    map (λ name. name.now) l.names.items ≡ map (λ name. name.now) l.initial.names.items ++ take l.name-index l.name-items
