use Rattle.std.proofs.Common.{◌≡◌, drop}
use Rattle.std.specs.Prelude.{flat_map}
use Rattle.statement_meaning.specs.Judged.{shares_lines, ungrouped}
use Rattle.binder.specs.Saying.{first_of}
use Rattle.binder.proofs.querying.judge_order.Given as goal

abbrev pub invariant-loop-key : goal.invariant-loop-key
invariant-loop-key l =
    first_of (flat_map (λ key. ungrouped (shares_lines l.select) l.select.group key.column) l.select.order)
    ≡ first_of (flat_map (λ key. ungrouped (shares_lines l.select) l.select.group key.column) (drop l.key-index l.select.order))
