use Rattle.std.proofs.Common.{◌≡◌, drop}
use Rattle.std.specs.Prelude.{is_none}
use Rattle.std.specs.List.{position_from}
use Rattle.mdc_ast.specs.Definitions.{empty_place}
use Rattle.catalog.proofs.places.Catalog.lowest_empty.Given as goal

abbrev pub invariant-loop-place : goal.invariant-loop-place
invariant-loop-place l = empty_place l.self ≡ position_from is_none l.place (drop l.place l.self)
