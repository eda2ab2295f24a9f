use Rattle.std.proofs.Common.{◌≡◌, false, map, take}
use Rattle.statement_meaning.specs.Keys.{have_twins}
use Rattle.row_checks.specs.Seen.{HasSeen}
use Rattle.row_checks.proofs.keys.twins.have_twins.Given as goal

abbrev pub invariant-loop-row : goal.invariant-loop-row
invariant-loop-row l =
    HasSeen l.columns.items (map (λ row. row.now) (take l.row-index l.rows)) l.seen.keys
    × (have_twins l.parts (map (λ row. row.now) (take l.row-index l.rows)) ≡ false)
