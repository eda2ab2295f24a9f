use Rattle.std.proofs.Common.{◌≡◌, drop}
use Rattle.std.specs.List.{position_from}
use Rattle.mdc_ast.specs.Definitions.{is_defined, place_of}
use Rattle.catalog.proofs.places.Catalog.place_of.Given as goal

abbrev pub invariant-loop-place : goal.invariant-loop-place
invariant-loop-place l = place_of l.self l.name ≡ position_from (is_defined l.name) l.place (drop l.place l.self)
