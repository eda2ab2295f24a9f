use Rattle.std.proofs.Common.{◌+◌, ◌-◌, ap, sym, ◌∙◌, arith}
use Rattle.dirty_pages.specs.Changes.{changed_in}
use Rattle.mdc_words.specs.Listed.{listed}
use Rattle.dirty_pages.specs.ChangesView.{written_over}
use Rattle.mdc_words.proofs.ListedLemmas.{length-listed}
use Rattle.dirty_pages.proofs.Overlays.{changed_in-length, changed_in-listed}
use Rattle.dirty_pages.proofs.Steps.{found_some}
use Rattle.dirty_pages.proofs.changes.Changes.kept.Goals as goal

pub overflow_add-result : goal.overflow_add-result
overflow_add-result c = omega (arith, c.self.invariant.counts.counted, c.self.invariant.counts.grown, changed_in-length (listed c.self.inside.base (written_over c.self.inside.table)), length-listed c.self.inside.base (written_over c.self.inside.table))

pub returns-clause-changed : goal.returns-clause-changed
returns-clause-changed c =
    ap (λ n. n + (c.self.inside.count - c.self.inside.base)) c.self.invariant.counts.counted
    ∙ (sym (changed_in-listed c.self.inside.base c.self.inside.count (written_over c.self.inside.table) c.self.invariant.counts.grown) ∙ ap (λ v. changed_in v.now) c.self.view_is)

pub returns-clause-grown : goal.returns-clause-grown
returns-clause-grown c = λ p le lt. found_some c.self.inside.base c.self.inside.count (written_over c.self.inside.table) c.args.self.now p (ap (λ v. v.now) c.self.view_is) lt (omega (arith, le, ap (λ v. v.base) c.self.view_is))
