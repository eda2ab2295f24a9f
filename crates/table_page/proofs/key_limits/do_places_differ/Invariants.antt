use Rattle.std.proofs.Common.{◌↔◌, drop}
use Rattle.mdc_ast.specs.Definitions.{AllPlacesDiffer}
use Rattle.table_page.proofs.key_limits.do_places_differ.Given as goal

-- none of the first ones stands again
abbrev pub invariant-loop-i : goal.invariant-loop-i
invariant-loop-i l = AllPlacesDiffer (drop l.i l.places) ↔ AllPlacesDiffer l.places
