use Rattle.std.proofs.Common.{◌≡◌, drop}
use Rattle.std.specs.Prelude.{flat_map}
use Rattle.statement_meaning.specs.Judged.{dim_limits}
use Rattle.binder.specs.Saying.{first_of}
use Rattle.binder.proofs.creation_limits.judge_dims.Given as goal

abbrev pub invariant-loop-place : goal.invariant-loop-place
invariant-loop-place l =
    first_of (dim_limits 0 l.columns (flat_map (λ dim. dim) l.dims) l.dims)
    ≡ first_of (dim_limits l.place l.columns (flat_map (λ dim. dim) l.dims) (drop l.place l.dims))
