use Rattle.std.proofs.Common.{◌≡◌, drop}
use Rattle.std.specs.List.{list_all}
use Rattle.statement_meaning.specs.Built.{are_built, is_built_place}
use Rattle.script_engine.proofs.opening.are_served.Given as goal

abbrev pub invariant-loop-place : goal.invariant-loop-place
invariant-loop-place l = are_built l.catalog ≡ list_all is_built_place (drop l.place l.catalog)
