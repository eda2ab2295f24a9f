use Rattle.sql_reader.specs.Holding.{work_left}
use Rattle.script_engine.specs.Serving.{MayCall}
use Rattle.script_engine_tests.specs.Written.{IsReading}
use Rattle.file_check_tests.proofs.patches.execute_all.Given as goal

-- the reader is in the script, and the engine takes calls
abbrev pub invariant-loop-statements : goal.invariant-loop-statements
invariant-loop-statements g l = record {
  reading : IsReading l.statements;
  may : MayCall g.S.Pages l.engine;
}

abbrev pub decreases-loop-statements : goal.decreases-loop-statements
decreases-loop-statements g l = work_left l.statements
