use Rattle.std.proofs.Common.{ap, arith}
use Rattle.mdc_ast.specs.Definitions.{key_width}
use Rattle.statement_meaning.specs.Judged.{types_named}
use Rattle.binder.proofs.WidthLemmas.{dims-step}
use Rattle.binder.proofs.creation_limits.room_behind_all.Goals as goal

pub returns-in_err-left : goal.returns-in_err-left
returns-in_err-left c =
    let here = ap (λ dim. key_width (types_named c.args.columns.now dim)) c.as_slice.ensures in
    let step = dims-step c.args.columns.now c.args.dims.now c.loop-dim.dim-index c.dim-item.result c.loop-dim-test.true c.dim-item.is in
    rw c.from_residual.ensures (omega (arith, here, step, c.loop-dim.invariant, c.in_err-left.ensures))

pub loop-dim-preserved : goal.loop-dim-preserved
loop-dim-preserved c =
    let here = ap (λ dim. key_width (types_named c.args.columns.now dim)) c.as_slice.ensures in
    let step = dims-step c.args.columns.now c.args.dims.now c.loop-dim.dim-index c.dim-item.result c.loop-dim-test.true c.dim-item.is in
    omega (arith, here, step, c.loop-dim.invariant, c.in_ok-left.ensures)
