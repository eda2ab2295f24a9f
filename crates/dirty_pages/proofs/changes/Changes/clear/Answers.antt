use Rattle.dirty_pages.proofs.Written.{fits_none, new_view}
use Rattle.dirty_pages.proofs.changes.Changes.clear.Goals as goal

pub invariant_of-self : goal.invariant_of-self
invariant_of-self c = record { counts = fits_none c.args.count c.cut-2.new.table c.cut-2.ensures; mark = λ mark is. absurd (cc) }

pub returns : goal.returns
returns c = new_view c.args.count c.cut-2.new.table c.cut-2.ensures
