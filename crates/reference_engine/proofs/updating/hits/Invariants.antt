use Rattle.std.proofs.Common.{◌≡◌, take, length}
use Rattle.std.specs.Prelude.{filter}
use Rattle.mdc_ast.specs.Truth.{qualifies}
use Rattle.reference_engine.proofs.updating.hits.Given as goal

abbrev pub invariant-loop-row : goal.invariant-loop-row
invariant-loop-row l = l.count ≡ length (filter (λ row. qualifies l.pred row.values) (take l.row-index l.rows))
