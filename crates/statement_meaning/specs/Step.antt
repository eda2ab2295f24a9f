-- What a statement does to the plain database: the first cause against it, in the order of refusals, or else its effect.
use Rattle.std.specs.Prelude.{List, [], ◌∷◌, ◌++◌, ◌&&◌, if◌then◌else◌}
use Rattle.mdc_ast.specs.declared.refusal.Refusal.{Refusal}
use Rattle.mdc_ast.specs.declared.reply.Reply.{Reply}
use Rattle.mdc_ast.specs.declared.statement.Stmt.{Stmt}
use Rattle.statement_meaning.specs.Binding.{bound_of}
use Rattle.statement_meaning.specs.Built.{are_built, is_built_step}
use Rattle.statement_meaning.specs.Cause.{Cause, NotBuilt, refusal_of}
use Rattle.mdc_ast.specs.Database.{Database, defs_of}
use Rattle.statement_meaning.specs.Doing.{causes_of_rows, effect}
use Rattle.statement_meaning.specs.Judged.{judged_of}
use Rattle.statement_meaning.specs.Judging.{in_order}

-- ---- the step

-- What is said against a statement, in the order of refusals. The first is the answer; behind a literal that doesn't fit,
-- rows are judged with a null in its place. A form that isn't built, and each statement where a table is of a form that isn't, is
-- refused with 14.
abbrev pub faults : Database → Stmt → List Cause
faults db stmt =
    if is_built_step stmt && are_built (defs_of db) then in_order (judged_of (defs_of db) stmt) ++ causes_of_rows db (bound_of (defs_of db) stmt) else NotBuilt ∷ []

-- the end of a statement: what it replies, why it isn't done, or that pages tell the reply, which lists of rows don't give
pub data Answer : Type 0 where
  Replied : Reply → Answer
  Refused : Refusal → Answer
  ToldByPages : Answer

-- the first cause, or the effect
abbrev pub step_by : Database → List Cause → Database × Reply → Database × Answer
step_by db [] (new, reply) = (new, Replied reply)
step_by db (cause ∷ causes) done = (db, Refused (refusal_of cause))

-- a statement on a database: the first cause against it, which changes nothing, or else its effect
abbrev pub step : Database → Stmt → Database × Answer
step db stmt = step_by db (faults db stmt) (effect db (bound_of (defs_of db) stmt))
