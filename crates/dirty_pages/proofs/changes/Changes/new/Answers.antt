use Rattle.dirty_pages.proofs.Written.{fits_none, new_view}
use Rattle.dirty_pages.proofs.changes.Changes.new.Goals as goal

pub invariant_of-result : goal.invariant_of-result
invariant_of-result c = record { counts = fits_none c.args.count c.new.result c.new.ensures; mark = λ mark is. absurd (cc) }

pub returns : goal.returns
returns c = new_view c.args.count c.new.result c.new.ensures
