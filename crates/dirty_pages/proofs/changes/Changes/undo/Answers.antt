-- The changes are those of the mark again.
use Rattle.std.proofs.Common.{◌≡◌, None, ap, sym, ◌∙◌}
use Rattle.dirty_pages.specs.ChangesView.{FitsMark, written_before}
use Rattle.dirty_pages.proofs.Steps.{back_counts}
use Rattle.dirty_pages.proofs.changes.Changes.undo.Goals as goal

pub invariant_of-self : goal.invariant_of-self
invariant_of-self c =
    let fits : FitsMark c.self.inside.base c.self.inside.count c.self.inside.below c.self.inside.table c.self.inside.saved c.in-Some.mark = c.self.invariant.mark c.in-Some.mark (sym c.take.ensures.value ∙ c.in-Some.is) in
    let none : c.take.new.self ≡ None = c.take.ensures.after in record {
      counts = back_counts c.self.inside.base c.self.inside.below c.self.inside.table c.self.inside.saved c.put_back.new.table c.in-Some.mark c.self.inside.count fits (λ q. c.put_back.ensures.back q ∙ ap (λ pages. written_before c.self.inside.saved pages q) c.cut.ensures);
      mark = λ mark is. absurd (cc);
    }
