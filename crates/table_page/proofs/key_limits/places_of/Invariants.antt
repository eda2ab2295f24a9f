use Rattle.std.proofs.Common.{◌≡◌, take}
use Rattle.mdc_ast.specs.Definitions as definitions
use Rattle.table_page.proofs.key_limits.places_of.Given as goal

-- those of the first parts
abbrev pub invariant-loop-part : goal.invariant-loop-part
invariant-loop-part l = l.places.items ≡ definitions.places_of (take l.part-index l.parts)
