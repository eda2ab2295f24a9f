use Rattle.std.proofs.Common.{length, ap, sym, ◌∙◌}
use Rattle.dirty_pages.specs.Changes.{nothing}
use Rattle.dirty_pages.specs.ChangesView.{or_grown, written_over}
use Rattle.mdc_words.proofs.ListedLemmas.{length-listed}
use Rattle.dirty_pages.proofs.Written.{fits_none, new_view}
use Rattle.dirty_pages.proofs.changes.Changes.take_pages.Goals as goal

pub invariant_of-self : goal.invariant_of-self
invariant_of-self c = record { counts = fits_none c.self.inside.count c.take-pages.new.self c.take-pages.ensures.left; mark = λ mark is. absurd (cc) }

pub returns-clause-settled : goal.returns-clause-settled
returns-clause-settled c =
    new_view c.self.inside.count c.take-pages.new.self c.take-pages.ensures.left
    ∙ ap nothing (sym (length-listed c.self.inside.count (or_grown c.self.inside.base (written_over c.self.inside.table))) ∙ ap (λ v. length v.now) c.self.view_is)
