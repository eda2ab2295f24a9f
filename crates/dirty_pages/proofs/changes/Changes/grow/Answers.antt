use Rattle.std.proofs.Common.{length, ap, arith}
use Rattle.dirty_pages.specs.ChangesView.{or_grown, written_over}
use Rattle.mdc_words.proofs.ListedLemmas.{length-listed}
use Rattle.dirty_pages.proofs.Steps.{grow_now}
use Rattle.dirty_pages.proofs.changes.Changes.grow.Goals as goal

pub overflow_add-self : goal.overflow_add-self
overflow_add-self c = omega (arith, c.requires, ap (λ v. length v.now) c.self.view_is, length-listed c.self.inside.count (or_grown c.self.inside.base (written_over c.self.inside.table)))

pub returns-clause-now : goal.returns-clause-now
returns-clause-now c = grow_now c.self.inside.base c.self.inside.count c.args.n (written_over c.self.inside.table) c.self.inside.below c.args.self.now.now c.self.invariant.counts (ap (λ v. v.now) c.self.view_is)
