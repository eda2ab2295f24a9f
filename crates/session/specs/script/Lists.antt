-- The same run over plain lists of rows, and the database that it keeps.
use Rattle.std.specs.Prelude.{◌≡◌, ◌≤◌, ◌+◌, ℕ, zero, suc, false, List, [], ◌∷◌, length}
use Rattle.mdc_ast.specs.declared.reply.Outcome.{Outcome}
use Rattle.mdc_ast.specs.declared.reply.Outcome.TheVariants as said
use Rattle.mdc_ast.specs.declared.statement.Stmt.{Stmt}
use Rattle.mdc_ast.specs.Reading.{Item, Statement}
use Rattle.mdc_ast.specs.Reading as reading
use Rattle.statement_meaning.specs.Cause.{FileFull, refusal_of}
use Rattle.mdc_ast.specs.Database.{Database}
use Rattle.statement_meaning.specs.Session.{AgreesWith, Session, rested, turn}
use Rattle.statement_meaning.specs.Step.{faults}
use Rattle.store_api.specs.declared.shape.Shape.{Shape}
use Rattle.script_engine.specs.Held.{HeldPages, StandsForSession}
use Rattle.script_engine.specs.Listing.{TellsSome}
use Rattle.script_engine.specs.Roles.{role_of}
use Rattle.session.specs.script.Going.{IsHeldIn, Stage, end_of}

-- What a statement may do to a session over lists: it turns it, and its outcome agrees with the answer, where that to LIST BLOCKS and EXPLAIN is
-- the pages' to say; or it is refused with 70 where nothing else is said against it.
pub data TurnsLists (cap : ℕ) (old : Session) (stmt : Stmt) (outcome : Outcome) (new : Session) : Type 0 where
  turns : new ≡ (turn old stmt).0 → AgreesWith (TellsSome old.working old.settings.plan (role_of stmt)) (turn old stmt).1 outcome → TurnsLists cap old stmt outcome new
  full : outcome ≡ said.Refused (refusal_of (FileFull cap)) → faults old.working stmt ≡ [] → new ≡ old → TurnsLists cap old stmt outcome new

-- what one item may do: a statement turns the session, and what can't be read is refused and changes nothing
abbrev pub MeetsOnLists : ℕ → Session → Item → Outcome → Session → Type 0
MeetsOnLists cap old (Statement stmt) outcome new = TurnsLists cap old stmt outcome new
MeetsOnLists cap old (reading.Refused refusal) outcome new = (outcome ≡ said.Refused refusal) × (new ≡ old)

-- the pages within a stage stand for the session that its item left, each with the pass that is held with it
abbrev pub StandInStage : Shape → Stage → Session → Type 0
StandInStage shape stage session = (held : HeldPages) → IsHeldIn stage held → StandsForSession shape held (rested session held.pass)

-- The items have these outcomes over lists, the pages that are held stand for a session, and so do those of each stage.
pub data GoesOnLists (shape : Shape) : HeldPages → Session → List Item → List Outcome → List Stage → List Session → Type 0 where
  nothing : {held : HeldPages} {session : Session} → StandsForSession shape held session → GoesOnLists shape held session [] [] [] []
  one : {held : HeldPages} {stage : Stage} {session after : Session} {item : Item} {outcome : Outcome} {items : List Item} {outcomes : List Outcome} {stages : List Stage} {sessions : List Session}
      → (met : Session) → StandsForSession shape held session → MeetsOnLists shape.extents session item outcome met → StandInStage shape stage met → after ≡ rested met (end_of stage).pass
      → GoesOnLists shape (end_of stage) after items outcomes stages sessions
      → GoesOnLists shape held session (item ∷ items) (outcome ∷ outcomes) (stage ∷ stages) (after ∷ sessions)

-- the session after so many items, or after the last one
abbrev pub session_at : Session → List Session → ℕ → Session
session_at session [] n = session
session_at session (after ∷ sessions) zero = session
session_at session (after ∷ sessions) (suc n) = session_at after sessions n

-- the session after all items
abbrev pub session_last : Session → List Session → Session
session_last session [] = session
session_last session (after ∷ sessions) = session_last after sessions

-- The database that a run over lists keeps after so many items. An item in hand, at which the run stopped, counts as
-- one that was answered where what it leaves is kept.
pub data IsKeptDatabase (cap : ℕ) (session : Session) (sessions : List Session) (in_hand : List Item) (items : ℕ) (db : Database) : Type 0 where
  -- some of the items that were answered: what the session after them keeps, so nothing of a transaction that is open then
  done : items ≤ length sessions → db ≡ (session_at session sessions items).kept → IsKeptDatabase cap session sessions in_hand items db
  -- all of these and the item in hand, a statement that turns the last session to one with no open transaction: what this keeps
  stopped : (stmt : Stmt) (outcome : Outcome) (after : Session) → in_hand ≡ Statement stmt ∷ [] → items ≡ length sessions + 1
      → TurnsLists cap (session_last session sessions) stmt outcome after → after.open_ ≡ false → db ≡ after.kept → IsKeptDatabase cap session sessions in_hand items db
