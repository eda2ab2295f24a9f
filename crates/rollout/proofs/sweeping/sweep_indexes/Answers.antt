use Rattle.std.proofs.Common.{◌≡◌, ◌+◌, Some, arith, length, subst, suc}
use Rattle.store_api.proofs.RunsOverPagesLemmas.{runs_exit}
use Rattle.row_entries.proofs.RowKeysLemmas.{there_at}
use Rattle.rollout.specs.SweptIndexes.{SweepsFirst}
use Rattle.rollout.proofs.SweptIndexesLemmas.{AreSweeping, index_swept, sweeping_begins, sweeping_index}
use Rattle.rollout.proofs.sweeping.sweep_indexes.Goals as goal

pub loop-index-init : goal.loop-index-init
loop-index-init g c = sweeping_begins g.P.Pages c.args.shape c.args.notes.now c.args.pages.now c.args.def.now c.args.blocks.now c.args.rows

pub returns-in_err-sweep_index-clause-runs : goal.returns-in_err-sweep_index-clause-runs
returns-in_err-sweep_index-clause-runs g c =
    runs_exit c.from_residual.result c.from_residual.ensures.1
    (sweeping_index g.P.Pages c.args.shape c.args.notes.now c.args.pages.now c.args.def.now c.args.blocks.now c.args.rows c.loop-index.notes c.loop-index.pages c.loop-index.index c.loop-index.invariant c.sweep_index.new.pages
    (Some c.in_err-sweep_index.field-0.0) c.in_err-sweep_index.ensures.runs)

pub loop-index-preserved : goal.loop-index-preserved
loop-index-preserved g c =
    let which = there_at c.args.def.now.indexes c.loop-index.index (omega (arith, c.loop-index-test.true, c.len-index-end.ensures)) in
    let next : suc c.loop-index.index ≡ c.loop-index.index + 1 = omega arith in
    let said = c.in_ok-sweep_index.ensures in
    subst (AreSweeping g.P.Pages c.args.shape c.args.notes.now c.sweep_index.new.notes c.args.pages.now c.sweep_index.new.pages c.args.def.now c.args.blocks.now c.args.rows) next
    (index_swept g.P.Pages c.args.shape c.args.notes.now c.args.pages.now c.args.def.now c.args.blocks.now c.args.rows c.loop-index.notes c.loop-index.pages c.loop-index.index c.loop-index.invariant which.0 which.1 c.sweep_index.new.notes c.sweep_index.new.pages
    said.sweeps said.frees said.count said.runs)

pub returns-clause-sweeps : goal.returns-clause-sweeps
returns-clause-sweeps g c owners trees st =
    let all : c.loop-index.index ≡ length c.args.def.now.indexes = omega (arith, c.loop-index-test.false, c.loop-index.auto.index-end, c.len-index-end.ensures) in
    subst (λ n. SweepsFirst g.P.Pages c.args.shape c.args.notes.now c.loop-index.notes c.loop-index.pages c.args.def.now c.args.blocks.now c.args.rows n owners trees) all (c.loop-index.invariant.done owners trees st)
