use Rattle.std.proofs.Common.{ap, sym, ◌∙◌}
use Rattle.dirty_pages.proofs.Steps.{none_written}
use Rattle.dirty_pages.proofs.changes.Changes.pages.Goals as goal

pub returns-clause-none : goal.returns-clause-none
returns-clause-none c = λ none.
    ap (λ v. v.pages) (sym c.self.view_is) ∙ none_written c.self.inside.base c.self.inside.count c.self.inside.below c.self.inside.table c.self.invariant.counts (ap (λ v. v.kept) c.self.view_is ∙ none)
