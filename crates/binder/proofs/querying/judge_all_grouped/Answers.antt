use Rattle.std.proofs.Common.{ap}
use Rattle.statement_meaning.specs.Judged.{ungrouped}
use Rattle.binder.specs.Saying.{first_of}
use Rattle.binder.proofs.ColumnLemmas.{flat_map-column_names}
use Rattle.binder.proofs.querying.judge_all_grouped.Goals as goal

pub loop-column-init : goal.loop-column-init
loop-column-init c = ap first_of (flat_map-column_names (ungrouped c.args.shares c.args._names.now) c.args.columns.now)
