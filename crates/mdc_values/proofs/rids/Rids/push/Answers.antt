use Rattle.std.proofs.Common.{sym, subst}
use Rattle.mdc_values.specs.Rising.{IsEarlier, IsRising}
use Rattle.mdc_values.proofs.RisingLemmas.{IsRising-push}
use Rattle.mdc_values.proofs.rids.Rids.push.Goals as goal

pub invariant_of-self-2 : goal.invariant_of-self-2
invariant_of-self-2 c =
    subst (IsRising IsEarlier) (sym c.in_ok-push.ensures.items)
    (IsRising-push IsEarlier c.self.inside.rids.items c.args.element c.self.invariant (rw (c.self.view_is) c.requires))
