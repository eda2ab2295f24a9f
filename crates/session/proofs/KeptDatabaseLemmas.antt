-- The database that a run over lists keeps after some of its items: the pages of the last commit after these stand for it.
use Rattle.std.proofs.Common.{◌≡◌, ℕ, zero, suc, List, refl, sym, ◌∙◌, subst, arith, length}
use Rattle.mdc_ast.specs.declared.reply.Outcome.{Outcome}
use Rattle.mdc_ast.specs.Reading.{Item}
use Rattle.mdc_ast.specs.Database.{Database}
use Rattle.statement_meaning.specs.Session.{Session}
use Rattle.store_api.specs.declared.shape.Shape.{Shape}
use Rattle.table_trees.specs.ToldPages.{PageList}
use Rattle.mdc_sound.specs.StandsForDatabase.{PagesStandFor}
use Rattle.script_engine.specs.Held.{HeldPages, StandsForSession}
use Rattle.session.specs.script.Going.{IsHeldIn, Stage, held_last, stage_after, still}
use Rattle.session.specs.script.Leaving.{AreKept, CommitsOnPages}
use Rattle.session.specs.script.Lists.{GoesOnLists, IsKeptDatabase, session_at, session_last}
use Rattle.session.proofs.ListsLemmas.{statement_meets}

-- what is held after all of the items stands for the last session
stands_last : {shape : Shape} {held : HeldPages} {session : Session} {items : List Item} {outcomes : List Outcome} {stages : List Stage} {sessions : List Session}
    → GoesOnLists shape held session items outcomes stages sessions → StandsForSession shape (held_last held stages) (session_last session sessions)
stands_last (GoesOnLists.nothing stands) = stands
stands_last (GoesOnLists.one met stands meets within after goes) = stands_last goes

-- the pages of the last commit that is held within a stage stand for what the session keeps
abbrev pub KeepsStage : Shape → Stage → Session → Type 0
KeepsStage shape stage session = (within : HeldPages) → IsHeldIn stage within → PagesStandFor shape within.base session.kept

-- what is held after some of the items stands so for the session after these, where what is held before them all does
keeps_at : {shape : Shape} {held : HeldPages} {session : Session} {items : List Item} {outcomes : List Outcome} {stages : List Stage} {sessions : List Session} (first : Stage)
    → GoesOnLists shape held session items outcomes stages sessions → KeepsStage shape first session → (n : ℕ) → KeepsStage shape (stage_after first stages n) (session_at session sessions n)
keeps_at first (GoesOnLists.nothing stands) keeps n = keeps
keeps_at first (GoesOnLists.one met stands meets within after goes) keeps zero = keeps
keeps_at {shape} first (GoesOnLists.one {stage = stage} met stands meets within after goes) keeps (suc n) =
    keeps_at stage goes (λ held is. subst (λ (s : Session). PagesStandFor shape held.base s.kept) (sym after) (within held is).kept) n

-- each stage has its session
length-sessions : {shape : Shape} {held : HeldPages} {session : Session} {items : List Item} {outcomes : List Outcome} {stages : List Stage} {sessions : List Session}
    → GoesOnLists shape held session items outcomes stages sessions → length sessions ≡ length stages
length-sessions (GoesOnLists.nothing stands) = refl
length-sessions (GoesOnLists.one met stands meets within after goes) = omega (arith, length-sessions goes)

-- what is held at the start stands for the session there
stands_first : {shape : Shape} {held : HeldPages} {session : Session} {items : List Item} {outcomes : List Outcome} {stages : List Stage} {sessions : List Session}
    → GoesOnLists shape held session items outcomes stages sessions → StandsForSession shape held session
stands_first (GoesOnLists.nothing stands) = stands
stands_first (GoesOnLists.one met stands meets within after goes) = stands

-- pages stand for a database that a run over lists keeps after so many items
pub record StandForKept (shape : Shape) (session : Session) (sessions : List Session) (in_hand : List Item) (pages : PageList) (items : ℕ) : Type 0 where
  pub db : Database
  pub kept : IsKeptDatabase shape.extents session sessions in_hand items db
  pub stand : PagesStandFor shape pages db

-- so the pages of the last commit do after so many items
pub kept_stand : {shape : Shape} {held : HeldPages} {session : Session} {items : List Item} {outcomes : List Outcome} {stages : List Stage} {sessions : List Session} {in_hand : List Item} {pages : PageList} {n : ℕ}
    → GoesOnLists shape held session items outcomes stages sessions → AreKept (CommitsOnPages shape) held stages in_hand pages n → StandForKept shape session sessions in_hand pages n
kept_stand {shape} {held} {session} {stages = stages} {sessions = sessions} {n = n} lists (AreKept.done few within is same) =
    let db = (session_at session sessions n).kept in
    let first : KeepsStage shape (still held) session = λ at at_is. subst (λ (h : HeldPages). PagesStandFor shape h.base session.kept) (sym at_is) (stands_first lists).kept in
    record {
      db = db;
      kept = IsKeptDatabase.done (omega (arith, few, length-sessions lists)) refl;
      stand = subst (λ (p : PageList). PagesStandFor shape p db) (sym same) (keeps_at (still held) lists first n within is);
    }
kept_stand {shape} {held} {session} {stages = stages} {sessions = sessions} lists (AreKept.stopped stmt in_hand count commits) =
    let met = statement_meets shape (held_last held stages) commits.new stmt commits.outcome (session_last session sessions) commits.steps (stands_last lists) in
    record {
      db = met.after.kept;
      kept = IsKeptDatabase.stopped stmt commits.outcome met.after in_hand (omega (arith, count, length-sessions lists)) met.meets (met.stands.is_open ∙ commits.closed) refl;
      stand = subst (λ (p : PageList). PagesStandFor shape p met.after.kept) (sym commits.are) met.stands.kept;
    }
