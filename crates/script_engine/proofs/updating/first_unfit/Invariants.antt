use Rattle.std.proofs.Common.{◌≡◌, drop}
use Rattle.std.specs.List.{list_all}
use Rattle.mdc_ast.specs.Database.{fits_all}
use Rattle.script_engine.proofs.updating.first_unfit.Given as goal

abbrev pub invariant-loop-hit : goal.invariant-loop-hit
invariant-loop-hit l = list_all (λ hit. fits_all l.columns hit.row.values) l.hits ≡ list_all (λ hit. fits_all l.columns hit.row.values) (drop l.hit-index l.hits)
