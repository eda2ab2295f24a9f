use Rattle.std.proofs.Common.{refl}
use Rattle.row_checks.proofs.TwinsLemmas.{twin_found, twins_next}
use Rattle.row_checks.proofs.keys.twins.have_twins.Goals as goal

pub loop-row-init : goal.loop-row-init
loop-row-init c = (c.new-seen.ensures c.in_ok-columns.columns.items, refl)

pub returns-then-not-branch : goal.returns-then-not-branch
returns-then-not-branch c =
    twin_found (λ row. row.now) c.args.parts.now c.in_ok-columns.columns.items c.as_slice.result.now c.args.rows.now c.loop-row.row-index c.row-item.result c.in_ok-columns.ensures c.as_slice.ensures.value c.loop-row-test.true c.row-item.is
    c.loop-row.seen.keys c.in_ok-add.field-0 c.loop-row.invariant.0 c.in_ok-add.ensures.new c.if-not-branch.true

pub loop-row-preserved : goal.loop-row-preserved
loop-row-preserved c =
    twins_next (λ row. row.now) c.args.parts.now c.in_ok-columns.columns.items c.as_slice.result.now c.args.rows.now c.loop-row.row-index c.row-item.result c.in_ok-columns.ensures c.as_slice.ensures.value c.loop-row-test.true c.row-item.is
    c.loop-row.seen.keys c.add.new.self.keys c.in_ok-add.field-0 c.loop-row.invariant c.in_ok-add.ensures.new c.in_ok-add.ensures.seen c.if-not-branch.false
