-- A session: a plain database with transactions, settings and a pass of the cleaner, and what is answered in it, item by item
-- (docs/SQL.md, "Transactions").
use Rattle.std.specs.Prelude.{◌≡◌, List, [], ◌∷◌, Bool, true, false, if◌then◌else◌, Option, Some, None, MatchOption}
use Rattle.std.specs.List.{list_any}
use Rattle.mdc_ast.specs.declared.definition.TableDef.{TableDef}
use Rattle.mdc_ast.specs.declared.name.Name.{Name}
use Rattle.mdc_ast.specs.declared.reply.Outcome.{Outcome}
use Rattle.mdc_ast.specs.declared.reply.Outcome.TheVariants as outcome
use Rattle.mdc_ast.specs.declared.reply.Reply.TheVariants as reply
use Rattle.mdc_ast.specs.declared.statement.PlanMode.TheVariants.{Auto}
use Rattle.mdc_ast.specs.declared.statement.RolloutMode.{RolloutMode}
use Rattle.mdc_ast.specs.declared.statement.RolloutMode.TheVariants.{Immediate}
use Rattle.mdc_ast.specs.declared.statement.Select.{Select}
use Rattle.mdc_ast.specs.declared.statement.Stmt.{Stmt}
use Rattle.mdc_ast.specs.declared.statement.Stmt.TheVariants as stmt
use Rattle.mdc_ast.specs.Database.{Database, defs_of}
use Rattle.mdc_ast.specs.Definitions.{Definitions, def_named}
use Rattle.mdc_ast.specs.Reading.{Item, Statement}
use Rattle.mdc_ast.specs.Reading as reading
use Rattle.statement_meaning.specs.Built.{are_built, is_built_mode}
use Rattle.statement_meaning.specs.Cause.{Cause, NoTable, NotBuilt, State, refusal_of}
use Rattle.statement_meaning.specs.Judged.{judged_of}
use Rattle.statement_meaning.specs.Judging.{in_order}
use Rattle.statement_meaning.specs.Step.{Answer, Refused, Replied, ToldByPages, step}
use Rattle.statement_meaning.specs.declared.pass.Pass.{Pass}
use Rattle.statement_meaning.specs.declared.pass.Pass.TheVariants.{Idle}
use Rattle.statement_meaning.specs.declared.settings.Settings.{Settings}

-- IMMEDIATE, AUTO and a pace of 1, as each run begins with
abbrev pub first_settings : Settings
first_settings = record { rollout = Immediate; plan = Auto; pace = 1 }

-- the kept database, the working one, whether a transaction is open, the settings, and how far the cleaner's pass is
pub record Session : Type 0 where
  pub kept : Database
  pub working : Database
  pub open_ : Bool
  pub settings : Settings
  pub pass : Pass

-- a session at its beginning
abbrev pub session_on : Database → Session
session_on db = record { kept = db; working = db; open_ = false; settings = first_settings; pass = Idle }

-- another working database, which is kept where no transaction is open
abbrev pub working_on : Session → Database → Session
working_on session db = record session { kept = if session.open_ then session.kept else db; working = db }

-- the session on the database that a statement leaves where it is done, and as it was where it isn't, with the statement's answer
abbrev pub stepped : Session → Database × Answer → Session × Answer
stepped session (db, Replied reply) = (working_on session db, Replied reply)
stepped session (db, answer) = (session, answer)

-- the session behind steps of the cleaner: how far its pass is, and nothing else, is another
abbrev pub rested : Session → Pass → Session
rested session pass = record session { pass = pass }

-- ---- transactions

-- 12: a statement that the state of the transaction doesn't allow
abbrev pub not_now : Session → Session × Answer
not_now session = (session, Refused (refusal_of State))

-- BEGIN opens a transaction, where none is open
abbrev pub begun : Session → Bool → Session × Answer
begun session true = not_now session
begun session false = (record session { open_ = true }, Replied reply.Done)

-- COMMIT makes the working database the kept one, where a transaction is open
abbrev pub committed : Session → Bool → Session × Answer
committed session true = (record session { kept = session.working; open_ = false }, Replied reply.Done)
committed session false = not_now session

-- ROLLBACK goes back to the kept one
abbrev pub rolled_back : Session → Bool → Session × Answer
rolled_back session true = (record session { working = session.kept; open_ = false }, Replied reply.Done)
rolled_back session false = not_now session

-- ---- settings

-- the session with other settings; 14 where a table is of a form that isn't built
abbrev pub set_to : Session → Settings → Session × Answer
set_to session settings =
    if are_built (defs_of session.working) then (record session { settings = settings }, Replied reply.Done) else (session, Refused (refusal_of NotBuilt))

-- another rollout mode; 14 where it isn't built
abbrev pub set_rollout : Session → RolloutMode → Session × Answer
set_rollout session mode =
    if is_built_mode mode then set_to session (record session.settings { rollout = mode }) else (session, Refused (refusal_of NotBuilt))

-- ---- turns

-- what is answered to LIST BLOCKS of a table of that name: the pages tell its blocks, and where there is none it is refused with 21
abbrev pub listed_of : Name → Option TableDef → Answer
listed_of name None = Refused (refusal_of (NoTable name))
listed_of name (Some def) = ToldByPages

-- what is answered to LIST BLOCKS: 14 where a table is of a form that isn't built
abbrev pub listed : Definitions → Name → Answer
listed defs name = if are_built defs then listed_of name (def_named defs name) else Refused (refusal_of NotBuilt)

-- what is answered to EXPLAIN for what is said against its query: the first cause, or else what the pages tell, by which no sum is
-- formed
abbrev pub explained_for : List Cause → Answer
explained_for [] = ToldByPages
explained_for (cause ∷ causes) = Refused (refusal_of cause)

-- what is answered to EXPLAIN of a query: 14 where a table is of a form that isn't built
abbrev pub explained : Database → Select → Answer
explained db select = if are_built (defs_of db) then explained_for (in_order (judged_of (defs_of db) (stmt.Query select))) else Refused (refusal_of NotBuilt)

-- a statement in a session, with its answer
abbrev pub turn : Session → Stmt → Session × Answer
turn session stmt.Begin = begun session session.open_
turn session stmt.Commit = committed session session.open_
turn session stmt.Rollback = rolled_back session session.open_
turn session (stmt.SetPlan mode) = set_to session (record session.settings { plan = mode })
turn session (stmt.SetRollout mode) = set_rollout session mode
turn session (stmt.ListBlocks name) = (session, listed (defs_of session.working) name)
turn session (stmt.Explain select) = (session, explained session.working select)
turn session statement = stepped session (step session.working statement)

-- an item in a session: what can't be read is refused, and changes nothing
abbrev pub item_turn : Session → Item → Session × Answer
item_turn session (Statement statement) = turn session statement
item_turn session (reading.Refused refusal) = (session, Refused refusal)

-- ---- what is said to items, one after another

-- what is said for an answer, if lists of rows give it
abbrev pub outcome_of : Answer → Option Outcome
outcome_of (Replied reply) = Some (outcome.Done reply)
outcome_of (Refused refusal) = Some (outcome.Refused refusal)
outcome_of ToldByPages = None

-- the outcome is what is said for the answer, or, where lists of rows don't give that, one that pages tell
abbrev pub AgreesWith : (Outcome → Type 0) → Answer → Outcome → Type 0
AgreesWith Tells answer said = MatchOption (outcome_of answer) (Tells said) (λ outcome. said ≡ outcome)

-- what is said to each item, if lists of rows give it, judged in the session that the items before it left
abbrev pub outcomes_from : Session → List Item → List (Option Outcome)
outcomes_from session [] = []
outcomes_from session (first ∷ items) = outcome_of (item_turn session first).1 ∷ outcomes_from (item_turn session first).0 items

-- a refusal, and not a reply
abbrev pub is_refusal : Outcome → Bool
is_refusal (outcome.Done reply) = false
is_refusal (outcome.Refused refusal) = true

-- one of them is a refusal
abbrev pub has_refusal : List Outcome → Bool
has_refusal outcomes = list_any is_refusal outcomes
