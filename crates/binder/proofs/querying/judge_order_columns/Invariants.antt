use Rattle.std.proofs.Common.{◌≡◌, drop}
use Rattle.std.specs.Prelude.{flat_map}
use Rattle.statement_meaning.specs.Judging.{used_name}
use Rattle.binder.specs.Saying.{first_of}
use Rattle.binder.proofs.querying.judge_order_columns.Given as goal

abbrev pub invariant-loop-key : goal.invariant-loop-key
invariant-loop-key l = first_of (flat_map (λ key. used_name l.columns key.column) l.order) ≡ first_of (flat_map (λ key. used_name l.columns key.column) (drop l.key-index l.order))
