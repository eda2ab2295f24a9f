-- What a statement does to what is held whatever the pages are, and what a stop of it and a crash within it leave.
use Rattle.std.specs.Prelude.{◌≡◌, ◌⊎◌, Bool, true, false, if◌then◌else◌, IsErrOf, IsTrue, None, Some, IfOk, IfSome, OnErr, OnOk, Result, Err}
use Rattle.mdc_words.specs.Time.{OverTime}
use Rattle.mdc_ast.specs.declared.refusal.Refusal.{Refusal}
use Rattle.mdc_ast.specs.declared.reply.Outcome.{Outcome}
use Rattle.mdc_ast.specs.declared.reply.Outcome.TheVariants as said
use Rattle.mdc_ast.specs.declared.reply.Reply.{Reply}
use Rattle.mdc_ast.specs.declared.statement.Stmt.{Stmt}
use Rattle.statement_meaning.specs.Built.{are_built}
use Rattle.statement_meaning.specs.Cause.{NotBuilt, refusal_of}
use Rattle.store_api.specs.Moments.{Outcomes}
use Rattle.store_api.specs.StoreState.{StoreState}
use Rattle.store_api.specs.declared.fault.Damage.{Damage}
use Rattle.store_api.specs.declared.fault.StoreFault.{StoreFault}
use Rattle.store_api.specs.declared.fault.StoreFault.TheVariants.{Damaged, Device}
use Rattle.store_api.specs.declared.pages.Pages.{Ghosts}
use Rattle.table_trees.specs.ToldPages.{PageList}
use Rattle.mdc_sound.specs.Breaks.{IsFirstBreak}
use Rattle.stored_catalog.specs.StoredDefinitions.{AreStored}
use Rattle.script_engine.specs.Controls.{AnswersControl, AnswersSetting}
use Rattle.script_engine.specs.Doing.{SaysNoRow}
use Rattle.script_engine.specs.Held.{HeldPages, KeepsBase}
use Rattle.script_engine.specs.Leaving.{IsAllCommitted}
use Rattle.script_engine.specs.Replies.{IsDoneAs, IsReplyOf}
use Rattle.script_engine.specs.Roles.{Begins, Changes, Commits, Explains, GoesBack, Lists, Queries, Role, Sets, is_built_form, is_control, is_going_back, role_of, set_on}
use Rattle.script_engine.specs.Serving.{MayCall, held_by}
use Rattle.script_engine.specs.declared.engine.Engine.{Engine}

-- ---- an outcome

-- nothing changed, but that the definitions may have been read of the same pages anew
pub record StaysAsHeld (told : Bool) (old new : HeldPages) : Type 0 where
  pub same : new ≡ record old { defs = new.defs }
  pub defs : (new.defs ≡ old.defs) ⊎ (IsTrue told → AreStored old.work new.defs)

-- Pages may have changed, and nothing else: where no transaction is open, they are committed, and where one is, those of the last
-- commit stay.
pub record ChangesPages (old new : HeldPages) : Type 0 where
  pub is_open : new.open_ ≡ old.open_
  pub base : KeepsBase old new
  pub settings : new.settings ≡ old.settings
  pub pass : new.pass ≡ old.pass

-- ROLLBACK brings back the pages of the last commit, and their definitions
pub record GoesBackToBase (told : Bool) (old new : HeldPages) : Type 0 where
  pub same : new ≡ record old { open_ = false; work = old.base; defs = new.defs }
  pub stored : IsTrue told → AreStored old.base new.defs

-- what a statement that was done does to what is held
abbrev pub DoesOnAny : Bool → Role → HeldPages → HeldPages → Type 0
DoesOnAny told Begins old new = new ≡ record old { open_ = true }
DoesOnAny told Commits old new = new ≡ record old { open_ = false; base = old.work }
DoesOnAny told GoesBack old new = GoesBackToBase told old new
DoesOnAny told (Sets setting) old new = new ≡ record old { settings = set_on setting old.settings }
DoesOnAny told (Lists name) old new = new ≡ old
DoesOnAny told (Explains select) old new = new ≡ old
DoesOnAny told Queries old new = new ≡ old
DoesOnAny told role old new = ChangesPages old new

-- What a statement that has an outcome does to what is held, whatever the pages are: a refusal, a query, LIST BLOCKS and EXPLAIN change
-- nothing, nor does what tells that no row went or was changed, BEGIN, COMMIT and ROLLBACK do as the state of the transaction has it, a
-- setting changes what the run is set to and nothing else, what isn't built is refused with 14, and what is done is answered as its kind is.
pub record StepsOnAny (told : Bool) (old : HeldPages) (stmt : Stmt) (outcome : Outcome) (new : HeldPages) : Type 0 where
  pub done : (reply : Reply) → outcome ≡ said.Done reply → DoesOnAny told (role_of stmt) old new
  pub refused : (refusal : Refusal) → outcome ≡ said.Refused refusal → StaysAsHeld told old new
  pub controls : AnswersControl (role_of stmt) old.open_ outcome
  pub settings : AnswersSetting (role_of stmt) (are_built old.defs) old.settings outcome new.settings
  pub unbuilt_form : is_built_form stmt ≡ false → outcome ≡ said.Refused (refusal_of NotBuilt)
  pub unbuilt_tables : is_control (role_of stmt) ≡ false → are_built old.defs ≡ false → outcome ≡ said.Refused (refusal_of NotBuilt)
  pub kind : IsDoneAs (IsReplyOf stmt) outcome
  pub idle : SaysNoRow outcome → StaysAsHeld told old new

-- ---- a stop, and a crash

-- the pages that are judged where a statement meets damage: those of the last commit where it goes back to them, else those held
abbrev pub judged_pages : Stmt → HeldPages → PageList
judged_pages stmt held = if is_going_back (role_of stmt) then held.base else held.work

-- a statement of this role that stopped may have committed these pages: COMMIT those that were held, and outside a transaction one that
-- may change pages what it made of them
abbrev pub MayCommitAs : Role → HeldPages → PageList → Type 0
MayCommitAs Commits held pages = (held.open_ ≡ true) × (pages ≡ held.work)
MayCommitAs Changes held pages = held.open_ ≡ false
MayCommitAs role held pages = ⊥

-- the same of the statement
abbrev pub MayCommit : Stmt → HeldPages → PageList → Type 0
MayCommit stmt held pages = MayCommitAs (role_of stmt) held pages

-- the pages of the last commit before the statement, or those that it may have committed
abbrev pub MayBeLeftOnAny : HeldPages → Stmt → PageList → Type 0
MayBeLeftOnAny held stmt pages = (pages ≡ held.base) ⊎ MayCommit stmt held pages

-- the pages to which the file reopens after a crash within a statement, with the bytes told before it, where they are told
abbrev pub LeftWithinOnAny : HeldPages → Stmt → StoreState → Outcomes
LeftWithinOnAny held stmt s left told =
    ((pages : PageList) × (left ≡ Some pages) × MayBeLeftOnAny held stmt pages) × IfSome s.told (λ bytes. told ≡ bytes)

-- the pages of the last commit before, or those after, with the bytes told before, where they are told
abbrev pub BaseBeforeOrAfter : StoreState → StoreState → Outcomes
BaseBeforeOrAfter old new pages told = ((pages ≡ Some old.base) ⊎ (pages ≡ Some new.base)) × IfSome old.told (λ bytes. told ≡ bytes)

-- ---- an engine

-- The engine may take a call, serves statements exactly where all its tables are of built forms, and all is committed where no
-- transaction is open.
pub record IsGoingEngine {S : Type 0} (g : Ghosts S) (engine : Engine S) : Type 0 where
  pub may : MayCall g engine
  pub by_forms : engine.served ≡ are_built engine.tables.catalog
  pub committed : IsAllCommitted (held_by g engine)

-- Where a statement stops at damage, it is that of the pages that were held, or of those of the last commit where it goes back to
-- them, and the engine holds these. Nothing was committed, the store goes on with no mark, and a transaction is open as it was.
pub record StopsAtDamage {S : Type 0} (g : Ghosts S) (stmt : Stmt) (old new : Engine S) (damage : Damage) : Type 0 where
  pub first : IsTrue (g.state old.store).is_told → IsFirstBreak old.tables.shape (judged_pages stmt (held_by g old)) damage.rule damage.page
  pub work : (g.state new.store).work ≡ judged_pages stmt (held_by g old)
  pub base : (g.state new.store).base ≡ (g.state old.store).base
  pub going : (g.state new.store).ended ≡ false
  pub unmarked : (g.state new.store).marked ≡ None
  pub is_open : new.is_open ≡ old.is_open

-- What a statement does to an engine whatever the pages are: it steps on them as its form and the transaction have it, a crash within
-- it leaves the pages of the last commit before it or after it, a stop commits nothing, unless a call of the disk failed, and damage
-- is that of the pages that were held.
pub record ExecutesOnAny {S : Type 0} (g : Ghosts S) (stmt : Stmt) (result : Result Outcome StoreFault) (old new : Engine S) : Type 0 where
  pub steps : IfOk result (λ outcome. StepsOnAny (g.state old.store).is_told (held_by g old) stmt outcome (held_by g new) × IsGoingEngine g new)
  pub answered : OnOk result (OverTime g.clock g.left (BaseBeforeOrAfter (g.state old.store) (g.state new.store)) old.store new.store)
  pub stopped : OnErr result (OverTime g.clock g.left (LeftWithinOnAny (held_by g old) stmt (g.state old.store)) old.store new.store)
  pub base : OnErr result (MayBeLeftOnAny (held_by g old) stmt (g.state new.store).base)
  pub kept : OnErr result ((IsErrOf result Device → ⊥) → (g.state new.store).base ≡ (g.state old.store).base)
  pub going : OnErr result ((IsErrOf result Device → ⊥) → (g.state new.store).ended ≡ false)
  pub built : OnErr result (is_control (role_of stmt) ≡ false → are_built (held_by g old).defs ≡ true)
  pub damage : (damage : Damage) → result ≡ Err (Damaged damage) → StopsAtDamage g stmt old new damage
