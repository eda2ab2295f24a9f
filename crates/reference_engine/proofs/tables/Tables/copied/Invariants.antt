use Rattle.std.proofs.Common.{◌≡◌}
use Rattle.reference_engine.proofs.CopiedTables.{filled}
use Rattle.reference_engine.proofs.tables.Tables.copied.Given as goal

abbrev pub invariant-loop-place : goal.invariant-loop-place
invariant-loop-place l = l.copy ≡ filled l.place l.self
