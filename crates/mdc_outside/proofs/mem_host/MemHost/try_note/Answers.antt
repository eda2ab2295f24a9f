use Rattle.mdc_outside.specs.Replay.{at_first}
use Rattle.mdc_outside.proofs.Replaying.{held-quiet}
use Rattle.mdc_outside.proofs.mem_host.MemHost.try_note.Goals as goal

pub invariant_of-self-2 : goal.invariant_of-self-2
invariant_of-self-2 c =
    let h = c.self.inside in
    rw c.in_ok-push.ensures.items (held-quiet (at_first h.first h.heard) h.entries.items c.args.event c.args.done _ _ _ c.requires c.self.invariant)
