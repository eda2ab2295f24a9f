use Rattle.std.proofs.Common.{◌≡◌, ◌+◌, drop}
use Rattle.mdc_ast.specs.Definitions.{key_width}
use Rattle.statement_meaning.specs.Judged.{part_names, types_of}
use Rattle.binder.proofs.indexing.room_behind.Given as goal

abbrev pub invariant-loop-part : goal.invariant-loop-part
invariant-loop-part l = key_width (types_of l.columns (part_names l.parts)) + l.left ≡ key_width (types_of l.columns (part_names (drop l.part-index l.parts))) + 128
