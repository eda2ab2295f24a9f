use Rattle.std.proofs.Common.{◌≡◌, take}
use Rattle.std.specs.Prelude.{flat_map}
use Rattle.table_page.proofs.key_limits.places_of_all.Given as goal

-- those of the first dimensions
abbrev pub invariant-loop-dim : goal.invariant-loop-dim
invariant-loop-dim l = l.places.items ≡ flat_map (λ dim. dim) (take l.dim-index l.dims)
