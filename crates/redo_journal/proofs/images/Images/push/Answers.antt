-- The new image is above all before it.
use Rattle.redo_journal.proofs.RisingLemmas.{rising_pushed}
use Rattle.redo_journal.proofs.images.Images.push.Goals as goal

pub invariant_of-self-2 : goal.invariant_of-self-2
invariant_of-self-2 c = rising_pushed c.self.inside.images.items c.push.new.self.items c.args.self.now (c.args.p, c.args.image) c.self.view_is c.self.invariant c.requires c.in_ok-push.ensures.items
