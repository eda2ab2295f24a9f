use Rattle.std.proofs.Common.{ap, length, sym, ◌∙◌}
use Rattle.binder.specs.Classes.{target_names}
use Rattle.binder.proofs.ColumnLemmas.{length-column_names}
use Rattle.binder.proofs.targets.Targets.len.Goals as goal

pub returns-in-All : goal.returns-in-All
returns-in-All c = sym (ap (λ targets. length (target_names targets)) c.in-All.is ∙ length-column_names c.in-All.columns.now)
