use Rattle.std.proofs.Common.{◌≡◌, drop}
use Rattle.statement_meaning.specs.Judged.{column_limits}
use Rattle.binder.specs.Saying.{first_of}
use Rattle.binder.proofs.creation_limits.judge_columns.Given as goal

abbrev pub invariant-loop-place : goal.invariant-loop-place
invariant-loop-place l = first_of (column_limits 0 l.columns l.columns) ≡ first_of (column_limits l.place l.columns (drop l.place l.columns))
