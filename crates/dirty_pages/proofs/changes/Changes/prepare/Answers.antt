-- The pages that are added stand for what they stood for before.
use Rattle.std.proofs.Common.{None, [], length, refl, ap, sym, subst, ◌∙◌}
use Rattle.std.specs.Prelude.{IsSome}
use Rattle.mdc_words.specs.Listed.{listed}
use Rattle.dirty_pages.specs.ChangesView.{or_grown, written_over}
use Rattle.mdc_words.proofs.ListedLemmas.{length-listed}
use Rattle.dirty_pages.proofs.Written.{fits_below, fits_same}
use Rattle.dirty_pages.proofs.Steps.{no_mark, found_written, all_below, seen_some}
use Rattle.dirty_pages.proofs.changes.Changes.prepare.Goals as goal

pub invariant_of-self : goal.invariant_of-self
invariant_of-self c = record {
  counts = fits_below c.self.inside.base c.self.inside.count c.self.inside.below (written_over c.self.inside.table) (written_over c.fill.new.table) c.self.invariant.counts c.fill.ensures.below c.fill.ensures.behind;
  mark = λ mark is. absurd (no_mark c.self.inside.mark _ (ap (λ v. v.marked) c.self.view_is ∙ c.requires) mark is);
}

pub invariant_of-self-in_err-sort : goal.invariant_of-self-in_err-sort
invariant_of-self-in_err-sort c = record {
  counts = fits_same c.self.inside.base c.self.inside.count c.self.inside.below (written_over c.fill.new.table) (written_over c.sort.new.self)
      (fits_below c.self.inside.base c.self.inside.count c.self.inside.below (written_over c.self.inside.table) (written_over c.fill.new.table) c.self.invariant.counts c.fill.ensures.below c.fill.ensures.behind) c.sort.ensures.same;
  mark = λ mark is. absurd (no_mark c.self.inside.mark _ (ap (λ v. v.marked) c.self.view_is ∙ c.requires) mark is);
}

pub invariant_of-self-2 : goal.invariant_of-self-2
invariant_of-self-2 c = record {
  counts = fits_same c.self.inside.base c.self.inside.count c.self.inside.below (written_over c.fill.new.table) (written_over c.sort.new.self)
      (fits_below c.self.inside.base c.self.inside.count c.self.inside.below (written_over c.self.inside.table) (written_over c.fill.new.table) c.self.invariant.counts c.fill.ensures.below c.fill.ensures.behind) c.sort.ensures.same;
  mark = λ mark is. absurd (no_mark c.self.inside.mark _ (ap (λ v. v.marked) c.self.view_is ∙ c.requires) mark is);
}

pub returns-clause-found : goal.returns-clause-found
returns-clause-found c = λ p lt.
    found_written c.self.inside.base c.self.inside.count (written_over c.sort.new.self) (record { base = 0; now = listed c.self.inside.count (or_grown c.self.inside.base (written_over c.sort.new.self)); marked = None; kept = 0; pages = [] }) p refl lt
    (λ low high. subst IsSome (sym (c.sort.ensures.same p)) (c.in_ok-fill.ensures.filled p low high))

pub returns-clause-below : goal.returns-clause-below
returns-clause-below c = all_below c.self.inside.base c.self.inside.count c.self.inside.below c.sort.new.self (length (listed c.self.inside.count (or_grown c.self.inside.base (written_over c.sort.new.self)))) (fits_same c.self.inside.base c.self.inside.count c.self.inside.below (written_over c.fill.new.table) (written_over c.sort.new.self) (fits_below c.self.inside.base c.self.inside.count c.self.inside.below (written_over c.self.inside.table) (written_over c.fill.new.table) c.self.invariant.counts c.fill.ensures.below c.fill.ensures.behind) c.sort.ensures.same) (length-listed c.self.inside.count (or_grown c.self.inside.base (written_over c.sort.new.self)))

pub returns-clause-grown : goal.returns-clause-grown
returns-clause-grown c = λ p le lt. seen_some c.self.inside.base c.self.inside.count (written_over c.sort.new.self) p lt le
