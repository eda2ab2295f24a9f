use Rattle.std.proofs.Common.{◌≡◌, [], drop, take}
use Rattle.mdc_ast.specs.Definitions.{column_names}
use Rattle.statement_meaning.specs.Judging.{listed_names}
use Rattle.binder.specs.Saying.{first_of}
use Rattle.binder.proofs.insertion.judge_names.Given as goal

abbrev pub invariant-loop-place : goal.invariant-loop-place
invariant-loop-place l =
    first_of (listed_names (column_names l.columns) [] l.names) ≡ first_of (listed_names (column_names l.columns) (take l.place l.names) (drop l.place l.names))
