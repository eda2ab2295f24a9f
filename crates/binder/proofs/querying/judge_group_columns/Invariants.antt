use Rattle.std.proofs.Common.{◌≡◌, drop}
use Rattle.std.specs.Prelude.{flat_map}
use Rattle.statement_meaning.specs.Judging.{used_name}
use Rattle.binder.specs.Saying.{first_of}
use Rattle.binder.proofs.querying.judge_group_columns.Given as goal

abbrev pub invariant-loop-name : goal.invariant-loop-name
invariant-loop-name l = first_of (flat_map (used_name l.columns) l.group) ≡ first_of (flat_map (used_name l.columns) (drop l.name-index l.group))
