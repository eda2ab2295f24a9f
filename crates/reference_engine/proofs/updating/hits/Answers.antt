use Rattle.std.proofs.Common.{◌≤◌, arith}
use Rattle.std.specs.Prelude.{Bool}
use Rattle.mdc_ast.specs.declared.row.Row.{Row}
use Rattle.mdc_ast.specs.Truth.{qualifies}
use Rattle.reference_engine.proofs.FoundRows.{count_below}
use Rattle.reference_engine.proofs.updating.hits.Goals as goal

pub overflow_add-count : goal.overflow_add-count
overflow_add-count c =
    let test : Row → Bool = λ row. qualifies c.args.pred.now row.values in
    let below : c.loop-row.count ≤ c.loop-row.row-index = count_below test c.args.rows.now c.loop-row.row-index c.loop-row.count (omega (arith, c.loop-row-test.true)) c.loop-row.invariant in
    omega (arith, c.loop-row-test.true)
