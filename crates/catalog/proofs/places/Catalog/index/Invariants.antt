use Rattle.std.proofs.Common.{◌≡◌, drop}
use Rattle.mdc_ast.specs.Definitions.{index_place_from, index_place_of}
use Rattle.catalog.proofs.places.Catalog.index.Given as goal

abbrev pub invariant-loop-table : goal.invariant-loop-table
invariant-loop-table l = index_place_of l.self l.name ≡ index_place_from l.table (drop l.table l.self) l.name
