use Rattle.std.proofs.Common.{◌≡◌, ◌+◌, drop}
use Rattle.std.specs.Prelude.{flat_map}
use Rattle.mdc_ast.specs.Definitions.{key_width}
use Rattle.statement_meaning.specs.Judged.{types_named}
use Rattle.binder.proofs.creation_limits.room_behind_all.Given as goal

abbrev pub invariant-loop-dim : goal.invariant-loop-dim
invariant-loop-dim l =
    key_width (types_named l.columns (flat_map (λ dim. dim) l.dims)) + l.left
    ≡ key_width (types_named l.columns (flat_map (λ dim. dim) (drop l.dim-index l.dims))) + l.room
