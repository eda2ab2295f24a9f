use Rattle.std.proofs.Common.{◌≡◌, length}
use Rattle.row_filter.proofs.reading.nulls.Given as goal

abbrev pub invariant-loop : goal.invariant-loop
invariant-loop l = length l.nulls ≡ l.counter
