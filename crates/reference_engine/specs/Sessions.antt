-- The session that an engine holds, and what a statement does to it.
use Rattle.std.specs.Prelude.{◌≡◌, Option, Result, Ok, Err, is_some, unwrap_or}
use Rattle.mdc_values.specs.declared.memory.Memory.{Memory}
use Rattle.mdc_ast.specs.declared.reply.Outcome.{Outcome}
use Rattle.mdc_ast.specs.declared.statement.Stmt.{Stmt}
use Rattle.mdc_ast.specs.Database.{Database}
use Rattle.statement_meaning.specs.Session.{Session, outcome_of, stepped, turn}
use Rattle.statement_meaning.specs.Step.{Answer, step}
use Rattle.statement_meaning.specs.declared.pass.Pass.{Pass}
use Rattle.statement_meaning.specs.declared.settings.Settings.{Settings}

-- the session of these tables, and of those of the last commit where a transaction is open
abbrev pub session_of : Database → Option Database → Settings → Pass → Session
session_of working kept settings pass = record { kept = unwrap_or kept working; working = working; open_ = is_some kept; settings = settings; pass = pass }

-- The session was turned so, and what is said for its answer is answered, if lists of rows tell it. After `Memory` nothing has changed.
abbrev pub EndsTurn : Session × Answer → Result (Option Outcome) Memory → Session → Session → Type 0
EndsTurn turned (Ok said) old new = (new ≡ turned.0) × (said ≡ outcome_of turned.1)
EndsTurn turned (Err memory) old new = new ≡ old

-- so a statement turns it
abbrev pub Turns : Stmt → Result (Option Outcome) Memory → Session → Session → Type 0
Turns stmt result old new = EndsTurn (turn old stmt) result old new

-- so a statement steps it, which isn't of the session itself
abbrev pub Steps : Stmt → Result (Option Outcome) Memory → Session → Session → Type 0
Steps stmt result old new = EndsTurn (stepped old (step old.working stmt)) result old new
