-- What is held between two statements over pages, and what a statement may do to it.
use Rattle.store_api.specs.declared.shape.Shape.{Shape}
use Rattle.std.specs.Prelude.{◌≡◌, ℕ, [], Bool, true, false, Some}
use Rattle.mdc_ast.specs.declared.definition.TableDef.{TableDef}
use Rattle.mdc_ast.specs.declared.reply.Outcome.{Outcome}
use Rattle.mdc_ast.specs.declared.reply.Outcome.TheVariants as said
use Rattle.mdc_ast.specs.declared.statement.Stmt.{Stmt}
use Rattle.mdc_ast.specs.Reading.{IsItemOf, Statement}
use Rattle.statement_meaning.specs.Binding.{bound_of}
use Rattle.statement_meaning.specs.Cause.{FileFull, refusal_of}
use Rattle.mdc_ast.specs.Definitions.{Definitions, def_at}
use Rattle.statement_meaning.specs.Session.{AgreesWith, Session, turn}
use Rattle.statement_meaning.specs.Step.{Answer, faults}
use Rattle.statement_meaning.specs.declared.pass.Pass.{Pass}
use Rattle.statement_meaning.specs.declared.settings.Settings.{Settings}
use Rattle.table_trees.specs.ToldPages.{PageList}
use Rattle.mdc_sound.specs.StandsForDatabase.{PagesStandFor}
use Rattle.script_engine.specs.Doing.{PlacesOnPages, StatementRunsFull, changed_place}
use Rattle.script_engine.specs.Listing.{PagesTell}
use Rattle.script_engine.specs.Others.{KeepsOthers, touched_place}
use Rattle.script_engine.specs.PuttingStatements.{LeavesTight, NeedsMoreExtents}
use Rattle.script_engine.specs.Roles.{Begins, Commits, Explains, GoesBack, Lists, Queries, Role, Sets, is_going_back, role_of}

-- ---- two lists of pages

-- the pages of the last commit, those as they are now, the definitions that these have, whether a transaction is open, what the
-- run is set to, and how far the cleaner's pass is
pub record HeldPages : Type 0 where
  pub base : PageList
  pub work : PageList
  pub defs : Definitions
  pub open_ : Bool
  pub settings : Settings
  pub pass : Pass

-- they stand for the session, of one shape
pub record StandsForSession (shape : Shape) (held : HeldPages) (session : Session) : Type 0 where
  pub kept : PagesStandFor shape held.base session.kept
  pub working : PagesStandFor shape held.work session.working
  pub is_open : session.open_ ≡ held.open_
  pub settings : session.settings ≡ held.settings
  pub pass : session.pass ≡ held.pass

-- the session after a statement, and its answer, as the pages and the outcome have them; what lists of rows don't give, the pages
-- before it tell
pub record StandsForTurn (shape : Shape) (old : HeldPages) (stmt : Stmt) (turned : Session × Answer) (outcome : Outcome) (new : HeldPages) : Type 0 where
  pub session : StandsForSession shape new turned.0
  pub answers : AgreesWith (PagesTell shape old.work old.defs old.settings.plan stmt) turned.1 outcome

-- Where no transaction is open, the pages are those of the last commit; where one is, these stay.
pub record KeepsBase (old new : HeldPages) : Type 0 where
  pub closed : new.open_ ≡ false → new.base ≡ new.work
  pub is_open : new.open_ ≡ true → new.base ≡ old.base

-- a query, LIST BLOCKS and EXPLAIN leave all, a setting all but what the run is set to, BEGIN and COMMIT the pages, and ROLLBACK of an
-- open transaction brings back those of the last commit
abbrev pub KeepsWork : Role → HeldPages → HeldPages → Type 0
KeepsWork Begins old new = new.work ≡ old.work
KeepsWork Commits old new = new.work ≡ old.work
KeepsWork GoesBack old new = old.open_ ≡ true → new.work ≡ old.base
KeepsWork (Sets setting) old new = new ≡ record old { settings = new.settings }
KeepsWork (Lists name) old new = new ≡ old
KeepsWork (Explains select) old new = new ≡ old
KeepsWork Queries old new = new ≡ old
KeepsWork role old new = Unit {0}

-- The tables that a statement doesn't change keep their definitions and blocks. Going back makes the work the base, and so of its own.
abbrev pub LeavesOthers : Shape → Stmt → HeldPages → HeldPages → Type 0
LeavesOthers shape stmt old new =
    is_going_back (role_of stmt) ≡ false → KeepsOthers shape old.work new.work old.defs new.defs (touched_place (bound_of old.defs stmt))

-- What a statement may do to what is held: it turns whatever session that stands for, rows go where placing says, trees take no
-- more space than these ask for, other tables stay, and tight pages stay tight where it only puts, while a refusal changes nothing;
-- or it is refused with 70, where it runs full and nothing else is said against it, and nothing changes. On tight pages one that only
-- puts runs full only where the database that it would make needs more extents than there are.
pub data StepsOnPages (shape : Shape) (old : HeldPages) (stmt : Stmt) (outcome : Outcome) (new : HeldPages) : Type 0 where
  turns : ((session : Session) → StandsForSession shape old session → StandsForTurn shape old stmt (turn session stmt) outcome new) → KeepsBase old new → KeepsWork (role_of stmt) old new
      → LeavesOthers shape stmt old new → ((refusal : _) → outcome ≡ said.Refused refusal → new ≡ old)
      → ((done : _) → outcome ≡ said.Done done → (place : ℕ) (def : TableDef) → changed_place (bound_of old.defs stmt) ≡ Some place → def_at old.defs place ≡ Some def
      → PlacesOnPages shape old.work new.work old.settings.rollout def (bound_of old.defs stmt)) → LeavesTight shape old.work new.work stmt outcome → StepsOnPages shape old stmt outcome new
  full : outcome ≡ said.Refused (refusal_of (FileFull shape.extents)) → new ≡ old → StatementRunsFull shape old.work old.defs (bound_of old.defs stmt)
      → ((session : Session) → StandsForSession shape old session → faults session.working stmt ≡ []) → NeedsMoreExtents shape old.work stmt → StepsOnPages shape old stmt outcome new

-- ---- which statements there are

-- some bytes spell the statement
abbrev pub IsWritten : Stmt → Type 0
IsWritten stmt = (bytes : _) × IsItemOf bytes (Statement stmt)
