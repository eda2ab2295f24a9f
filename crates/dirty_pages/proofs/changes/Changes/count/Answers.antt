use Rattle.std.proofs.Common.{length, ap, sym, ◌∙◌}
use Rattle.dirty_pages.specs.ChangesView.{or_grown, written_over}
use Rattle.mdc_words.proofs.ListedLemmas.{length-listed}
use Rattle.dirty_pages.proofs.changes.Changes.count.Goals as goal

pub returns : goal.returns
returns c = sym (ap (λ v. length v.now) (sym c.self.view_is) ∙ length-listed c.self.inside.count (or_grown c.self.inside.base (written_over c.self.inside.table)))
