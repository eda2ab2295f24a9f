use Rattle.mdc_outside.specs.Replay.{at_first}
use Rattle.mdc_outside.proofs.Replaying.{held-said, held-unsaid}
use Rattle.mdc_outside.proofs.mem_host.MemHost.try_say.Goals as goal
use Rattle.mdc_outside.proofs.mem_host.MemHost.try_say.Goals.{then-done+in_ok-extend_from_slice, else-done}

pub invariant_of-self-2 : goal.invariant_of-self-2
invariant_of-self-2 c =
    let h = c.self.inside in
    rw c.push_reserved.ensures.items (elim c.if-done.branch [
      | then-done+in_ok-extend_from_slice w ↦
          rw (w.self-inside-is, w.in_ok-extend_from_slice.ensures.items, c.in_ok-try_reserve.ensures.items, c.in_ok-of.ensures, w.if-done.true)
          (held-said (at_first h.first h.heard) h.entries.items c.args.bytes.now _ _ _ c.self.invariant)
      | else-done w ↦
          rw (w.self-inside-is, c.in_ok-try_reserve.ensures.items, w.if-done.false)
          (held-unsaid (at_first h.first h.heard) h.entries.items c.in_ok-of.field-0 _ _ _ c.self.invariant)
    ])
