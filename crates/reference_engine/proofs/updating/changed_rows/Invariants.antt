use Rattle.std.proofs.Common.{◌≡◌, take, map}
use Rattle.statement_meaning.specs.Doing.{changed_row}
use Rattle.reference_engine.proofs.updating.changed_rows.Given as goal

abbrev pub invariant-loop-row : goal.invariant-loop-row
invariant-loop-row l = l.all.items ≡ map (changed_row l.sets l.pred) (take l.row-index l.rows)
