use Rattle.std.proofs.Common.{◌≡◌, take}
use Rattle.mdc_ast.specs.Definitions.{places_of}
use Rattle.row_checks.proofs.keys.twins.columns_of.Given as goal

abbrev pub invariant-loop-part : goal.invariant-loop-part
invariant-loop-part l = l.columns.items ≡ places_of (take l.part-index l.parts)
