use Rattle.std.proofs.Common.{arith, ◌+◌}
use Rattle.mdc_outside.proofs.Aftermaths.{nothing-first, nothing-more, synced-more}
use Rattle.mdc_outside.proofs.aftermath.synced_calls.Goals as goal
use Rattle.mdc_outside.proofs.aftermath.synced_calls.Goals.{then-is_sync, else-is_sync}

pub loop-i-preserved : goal.loop-i-preserved
loop-i-preserved c =
    elim c.if-is_sync.branch [
      | then-is_sync w ↦ rw w.synced-is (record {
        within = omega arith;
        synced = synced-more c.args.calls.now c.loop-i.i c.index-calls-i.result c.loop-i-test.true c.index-calls-i.is (c.is_sync.ensures.yes w.if-is_sync.true);
        since = nothing-first c.args.calls.now (c.loop-i.i + 1);
      })
      | else-is_sync w ↦ rw w.synced-is (record {
        within = omega arith;
        synced = c.loop-i.invariant.synced;
        since = nothing-more c.args.calls.now c.loop-i.synced c.loop-i.i c.index-calls-i.result c.loop-i.invariant.within c.loop-i-test.true c.index-calls-i.is
            c.loop-i.invariant.since (c.is_sync.ensures.no w.if-is_sync.false);
      })
    ]
