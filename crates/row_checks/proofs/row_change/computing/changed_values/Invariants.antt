use Rattle.std.proofs.Common.{◌≡◌, take}
use Rattle.statement_meaning.specs.Doing.{set_on}
use Rattle.row_checks.proofs.row_change.computing.changed_values.Given as goal

abbrev pub invariant-loop-set : goal.invariant-loop-set
invariant-loop-set l = l.changed ≡ set_on l.values (take l.set-index l.sets) l.values
