use Rattle.std.proofs.Common.{◌≡◌, length}
use Rattle.table_query.proofs.gathered_rows.nulls.Given as goal

abbrev pub invariant-loop-at : goal.invariant-loop-at
invariant-loop-at l = length l.values ≡ l._at
