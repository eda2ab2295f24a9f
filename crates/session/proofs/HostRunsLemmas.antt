-- Runs on a store, as the host has them to which the store is closed.
use Rattle.std.proofs.Common.{◌≡◌, ◌≤◌, ℕ, List, ◌++◌, Option, Some, None, Result, Err, IfErr, IfSome, sym, ◌∙◌, subst, inl, inr}
use Rattle.mdc_words.specs.Time.{OverTime}
use Rattle.mdc_ast.specs.declared.reply.Outcome.{Outcome}
use Rattle.mdc_ast.specs.Reading.{Item}
use Rattle.mdc_ast.specs.Database.{Database}
use Rattle.statement_meaning.specs.Session.{Session, session_on}
use Rattle.mdc_outside.specs.declared.disk.Disk as disk
use Rattle.store_api.specs.declared.fault.Damage.{Damage}
use Rattle.store_api.specs.declared.pages.Pages as pages
use Rattle.table_trees.specs.ToldPages.{PageList}
use Rattle.mdc_sound.specs.SoundDatabase.{IsSoundDatabase}
use Rattle.mdc_sound.specs.StandsForDatabase.{PagesStandFor}
use Rattle.page_store.specs.FileStore.{IsLeft}
use Rattle.store_api.specs.declared.shape.Shape.{Shape}
use Rattle.page_store.specs.Standing.{pages_in}
use Rattle.script_engine.specs.Held.{HeldPages, StandsForSession}
use Rattle.session.proofs.ToldLemmas.{told_behind}
use Rattle.session.specs.script.Fetching.{FetchesInRun}
use Rattle.session.specs.script.Going.{GoesOnPages, Stage}
use Rattle.session.specs.script.Leaving.{AreServedPages, LeftByServing}
use Rattle.session.specs.script.Lists.{GoesOnLists}
use Rattle.session.specs.script.Serving.{EndsScript}
use Rattle.session.specs.declared.script.served.Served.{Served}
use Rattle.session.specs.Stops.{IsOfScript}
use Rattle.session.specs.declared.stop.Stop.{Stop}
use Rattle.session.specs.declared.stop.Stop.TheVariants as why
use Rattle.session.specs.file.Running.{IsLeftSince, RunsOnStore, ServesStore}
use Rattle.session.specs.file.Serving.{IsOpened, RunsItems}

-- the laws by which a run over sound pages is one over lists of rows
pub record ListLaws : Type 0 where
  pub stand : (shape : Shape) (pages : PageList) → IsSoundDatabase shape pages → (db : Database) × PagesStandFor shape pages db
  pub lists : (shape : Shape) (held : HeldPages) (items : List Item) (outcomes : List Outcome) (stages : List Stage) → GoesOnPages shape held items outcomes stages
      → (session : Session) → StandsForSession shape held session → (sessions : List Session) × GoesOnLists shape held session items outcomes stages sessions

-- what is held of pages that were opened stands for a session on each database that these stand for
pub opened_session : (shape : Shape) (pages : PageList) (held : HeldPages) (db : Database) → IsOpened pages held → PagesStandFor shape pages db → StandsForSession shape held (session_on db)
opened_session shape pages held db opened stands = record {
  kept = subst (λ (p : PageList). PagesStandFor shape p db) (sym opened.base) stands;
  working = subst (λ (p : PageList). PagesStandFor shape p db) (sym opened.work) stands;
  is_open = sym opened.closed;
  settings = sym opened.settings;
  pass = sym opened.pass;
}

-- the run over the lists of rows for which the pages stand
unfoldable pub items_on_lists : (laws : ListLaws) (shape : Shape) (pages : PageList) (said : List ℕ) (script left tape : Option (List ℕ)) (result : Result Served Stop) (held : HeldPages) → AreServedPages shape pages → IsOpened pages held
    → (items : List Item) (outcomes : List Outcome) (stages : List Stage) (in_hand : List Item) → GoesOnPages shape held items outcomes stages → (more : List ℕ) → tape ≡ Some (said ++ more)
    → ((damage : Damage) → result ≡ Err (why.Damaged damage) → ⊥) → IfErr result IsOfScript → IfSome script (λ script. EndsScript script left more items in_hand outcomes result) → RunsItems shape pages said script left tape result
items_on_lists laws shape pages said script left tape result held served opened items outcomes stages in_hand goes more tape_is undamaged of_script ends =
    let stands = laws.stand shape pages served.sound in
    let on_lists = laws.lists shape held items outcomes stages goes (session_on stands.0) (opened_session shape pages held stands.0 opened stands.1) in
    record {
      held = held;
      opened = opened;
      db = stands.0;
      stands = stands.1;
      items = items;
      outcomes = outcomes;
      stages = stages;
      in_hand = in_hand;
      goes = goes;
      sessions = on_lists.0;
      lists = on_lists.1;
      more = more;
      tape_is = tape_is;
      undamaged = undamaged;
      of_script = of_script;
      ends = ends;
    }

-- an image of the store at its end is one of the store at its opening, or the run leaves it
left_since : {S : Type 0} (clock : S → ℕ) (left : S → ℕ → Option PageList → List ℕ → Type 0) (Run : Option PageList → List ℕ → Type 0) (shape : Shape) (old last : S) (t : ℕ) (image heard : List ℕ)
    → OverTime clock left Run old last → t ≤ clock old → (Run None heard → ⊥)
    → IsLeftSince (λ pages heard. ⊥) shape (left last t) image heard → IsLeftSince (λ pages heard. Run (Some pages) heard) shape (left old t) image heard
left_since clock left Run shape old last t image heard time early never (inl (formed, states, inl is)) = inl (formed, states, time.only t (Some (pages_in image)) heard early is)
left_since clock left Run shape old last t image heard time early never (inl (formed, states, inr is)) = absurd is
left_since clock left Run shape old last t image heard time early never (inr none) = elim (time.only t None heard early none) [ inl was ↦ inr was | inr within ↦ absurd (never within) ]

-- no run leaves a file that doesn't reopen
reopens : {shape : Shape} {held : HeldPages} {stages : List Stage} {outcomes : List Outcome} {in_hand : List Item} {before heard : List ℕ} → LeftByServing shape held stages outcomes in_hand before None heard → ⊥
reopens left = let none : None ≡ Some left.pages = left.reopens in cc

-- a run on a store, as the host has it to which the store was closed
pub run_on_host : {S D : Type 0} (g : pages.Ghosts S) (d : disk.Ghosts D) (laws : ListLaws) (shape : Shape) (said : List ℕ) (script left : Option (List ℕ)) (old last : S) (new : D) (result : Result Served Stop) (now : Option (List ℕ))
    → RunsOnStore g shape script left old last result → (g.state old).told ≡ Some said → (d.beside new).tape ≡ (g.state last).told → now ≡ (g.state last).fetched → IfErr result IsOfScript
    → ((t : ℕ) (image heard : List ℕ) → d.moment new t image heard → IsLeftSince (λ pages heard. ⊥) shape (g.left last t) image heard)
    → ServesStore g d shape said script left old new result now
unfolding items_on_lists
run_on_host g d laws shape said script left old last new result now runs told tape_is log_is of_script closes = record {
  served = runs.served;
  run = items_on_lists laws shape (g.state old).base said script left (d.beside new).tape result runs.held runs.served runs.opened runs.items runs.outcomes runs.stages runs.in_hand runs.goes runs.said
      (tape_is ∙ told_behind (g.state old).told (g.state last).told runs.said said told runs.told) runs.undamaged of_script runs.ends;
  fetches = subst (λ (log : Option (List ℕ)). FetchesInRun shape runs.held runs.items runs.in_hand runs.stages (g.state old).fetched log) (sym log_is) runs.fetches;
  since = λ t early image heard now.
      left_since g.clock g.left (LeftByServing shape runs.held runs.stages runs.outcomes runs.in_hand said) shape old last t image heard (runs.time said told) early reopens (closes t image heard now);
}

-- what a store of the same numbers leaves in a file
pub left_in_shape : (shape own : Shape) (file : List ℕ) (left : Option PageList → List ℕ → Type 0) (image heard : List ℕ) → own.extents ≡ shape.extents → own.extent_pages ≡ shape.extent_pages
    → IsLeft own file left image heard → IsLeftSince (λ pages heard. ⊥) shape left image heard
left_in_shape shape own file left image heard extents extent_pages (inl (is, was)) =
    inl (is.formed.formed, record { extents = is.formed.extents ∙ extents; extent_pages = is.formed.extent_pages ∙ extent_pages }, inl was)
left_in_shape shape own file left image heard extents extent_pages (inr none) = inr none
