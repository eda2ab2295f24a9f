use Rattle.std.proofs.Common.{sym, subst}
use Rattle.mdc_values.specs.Rising.{IsLower, IsRising}
use Rattle.mdc_values.proofs.RisingLemmas.{IsRising-push}
use Rattle.block_lists.proofs.slots.Slots.push.Goals as goal

pub invariant_of-self-2 : goal.invariant_of-self-2
invariant_of-self-2 c =
    subst (IsRising IsLower) (sym c.in_ok-push.ensures.items)
    (IsRising-push IsLower c.self.inside.numbers.items c.args.element c.self.invariant (rw (c.self.view_is) c.requires))
