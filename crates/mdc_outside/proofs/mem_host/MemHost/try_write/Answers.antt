use Rattle.mdc_outside.specs.Replay.{at_first}
use Rattle.mdc_outside.proofs.Replaying.{held-written, held-torn}
use Rattle.mdc_outside.proofs.mem_host.MemHost.try_write.Goals as goal
use Rattle.mdc_outside.proofs.mem_host.MemHost.try_write.Goals.{then-done+in_ok-overwrite, else-done}

pub invariant_of-self-2 : goal.invariant_of-self-2
invariant_of-self-2 c =
    let h = c.self.inside in
    rw c.push_reserved.ensures.items (elim c.if-done.branch [
      | then-done+in_ok-overwrite w ↦
          rw (w.self-inside-is, w.in_ok-overwrite.ensures.ok, c.in_ok-try_reserve.ensures.items, c.in_ok-of.ensures, w.if-done.true)
          (held-written (at_first h.first h.heard) h.entries.items c.args.at c.args.bytes.now _ _ _ c.self.invariant)
      | else-done w ↦
          rw (w.self-inside-is, c.in_ok-try_reserve.ensures.items, w.if-done.false)
          (held-torn (at_first h.first h.heard) h.entries.items c.args.at c.in_ok-of.field-0 _ _ _ c.self.invariant)
    ])
