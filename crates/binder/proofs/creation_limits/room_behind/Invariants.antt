use Rattle.std.proofs.Common.{◌≡◌, ◌+◌, drop}
use Rattle.mdc_ast.specs.Definitions.{key_width}
use Rattle.statement_meaning.specs.Judged.{types_named}
use Rattle.binder.proofs.creation_limits.room_behind.Given as goal

abbrev pub invariant-loop-name : goal.invariant-loop-name
invariant-loop-name l =
    key_width (types_named l.columns l.names) + l.left ≡ key_width (types_named l.columns (drop l.name-index l.names)) + l.room
