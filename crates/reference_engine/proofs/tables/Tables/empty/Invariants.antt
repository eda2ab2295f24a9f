use Rattle.std.proofs.Common.{◌≡◌, [], replicate}
use Rattle.reference_engine.proofs.tables.Tables.empty.Given as goal

abbrev pub invariant-loop : goal.invariant-loop
invariant-loop l = l.rows.items ≡ replicate l.counter []
