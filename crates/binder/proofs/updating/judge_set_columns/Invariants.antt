use Rattle.std.proofs.Common.{◌≡◌, [], drop, map, take}
use Rattle.statement_meaning.specs.Judged.{set_columns}
use Rattle.binder.specs.Saying.{first_of}
use Rattle.binder.proofs.updating.judge_set_columns.Given as goal

abbrev pub invariant-loop-place : goal.invariant-loop-place
invariant-loop-place l =
    first_of (set_columns l.columns [] l.sets) ≡ first_of (set_columns l.columns (map (λ set. set.column) (take l.place l.sets)) (drop l.place l.sets))
