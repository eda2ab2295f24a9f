use Rattle.std.proofs.Common.{◌≡◌, ◌||◌, ◌∙◌, sym, ap}
use Rattle.mdc_outside.specs.Replay.{at_first}
use Rattle.mdc_outside.proofs.Replaying.{held-attach}
use Rattle.mdc_outside.proofs.mem_host.MemHost.try_open.Goals as goal
use Rattle.mdc_outside.proofs.mem_host.MemHost.try_open.Goals.{then-self, else-self}

pub invariant_of-self-2 : goal.invariant_of-self-2
invariant_of-self-2 c =
    let h = c.self.inside in
    let there : c.if-self.self ≡ (h.is_there || c.args.done) =
    elim c.if-self.branch [
      | then-self w ↦ w.self-is ∙ (w.if-self.true ∙ sym (ap (λ there. there || c.args.done) w.if-self.true))
      | else-self w ↦ w.self-is ∙ sym (ap (λ there. there || c.args.done) w.if-self.false)
    ] in
    rw (c.in_ok-push.ensures.items, there) (held-attach (at_first h.first h.heard) h.entries.items c.in_ok-path.path c.args.make c.args.done _ _ _ c.self.invariant)
