use Rattle.std.proofs.Common.{◌<◌, ◌≢◌, ℕ, get_or}
use Rattle.table_scan.proofs.settling.has_place.Given as goal

-- no place so far is that of the column
abbrev pub invariant-loop-place : goal.invariant-loop-place
invariant-loop-place l = (k d : ℕ) → k < l.place-index → get_or l.places k d ≢ l.column
