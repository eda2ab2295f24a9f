use Rattle.sql_reader.specs.Holding.{work_left}
use Rattle.script_engine.specs.Serving.{MayCall}
use Rattle.script_engine_tests.specs.Written.{IsReading}
use Rattle.script_engine_tests.proofs.scripts.answer_all.Given as goal

-- the reader is in the script, and the engine takes calls
abbrev pub invariant-loop-said : goal.invariant-loop-said
invariant-loop-said g l = record {
  reading : IsReading l.statements;
  may : MayCall g.S.Pages l.engine;
}

abbrev pub decreases-loop-said : goal.decreases-loop-said
decreases-loop-said g l = work_left l.statements
