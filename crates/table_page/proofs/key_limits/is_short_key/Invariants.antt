use Rattle.std.proofs.Common.{◌≡◌, ◌+◌, drop}
use Rattle.mdc_ast.specs.Definitions.{key_width, types_at}
use Rattle.table_page.proofs.key_limits.is_short_key.Given as goal

-- the room that the first places leave
abbrev pub invariant-loop-place : goal.invariant-loop-place
invariant-loop-place l = key_width (types_at l.columns l.places) + l.room ≡ key_width (types_at l.columns (drop l.place-index l.places)) + 128
