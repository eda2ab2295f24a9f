use Rattle.std.proofs.Common.{◌≡◌, length}
use Rattle.sql_reader.specs.Strange.{strange_from}
use Rattle.sql_reader.specs.declared.strange.Within.TheVariants as within
use Rattle.sql_reader.proofs.strange.strange_outside.Given as goal

abbrev pub invariant-loop-rest : goal.invariant-loop-rest
invariant-loop-rest l = strange_from l.rest l.within ≡ strange_from l.fn.statement within.Nothing

abbrev pub decreases-loop-rest : goal.decreases-loop-rest
decreases-loop-rest l = length l.rest
