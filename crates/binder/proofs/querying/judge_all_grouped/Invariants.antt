use Rattle.std.proofs.Common.{◌≡◌, drop}
use Rattle.std.specs.Prelude.{flat_map}
use Rattle.mdc_ast.specs.Definitions.{column_names}
use Rattle.statement_meaning.specs.Judged.{ungrouped}
use Rattle.binder.specs.Saying.{first_of}
use Rattle.binder.proofs.querying.judge_all_grouped.Given as goal

abbrev pub invariant-loop-column : goal.invariant-loop-column
invariant-loop-column l =
    first_of (flat_map (ungrouped l.shares l._names) (column_names l.columns)) ≡ first_of (flat_map (λ column. ungrouped l.shares l._names column.name) (drop l.column-index l.columns))
