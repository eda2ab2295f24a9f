-- What each call on an engine does: to what it holds, to its store, and to what is outside.
use Rattle.std.specs.Prelude.{◌≡◌, false, true, IfOk, IsOk, MatchResult, OnOk, IsErrOf, Result, Ok, Err}
use Rattle.mdc_words.specs.Faults.{CountsFault}
use Rattle.mdc_words.specs.Time.{OverTime, ReachesBack}
use Rattle.mdc_ast.specs.declared.reply.Outcome.{Outcome}
use Rattle.mdc_ast.specs.declared.reply.Outcome.TheVariants as said
use Rattle.mdc_ast.specs.declared.statement.Stmt.{Stmt}
use Rattle.statement_meaning.specs.Binding.{bound_of}
use Rattle.statement_meaning.specs.Cause.{NotBuilt, refusal_of}
use Rattle.store_api.specs.Fetching.{BringsOnly}
use Rattle.store_api.specs.Moments.{BaseOrNow}
use Rattle.store_api.specs.Works.{Rests, Steady}
use Rattle.store_api.specs.declared.fault.Damage.{Damage}
use Rattle.store_api.specs.declared.fault.StoreFault.{StoreFault}
use Rattle.store_api.specs.declared.fault.StoreFault.TheVariants.{Damaged, Device}
use Rattle.store_api.specs.declared.pages.Pages.{Ghosts}
use Rattle.statement_rows.specs.RowsOfStatement.{AnyPage}
use Rattle.script_engine.specs.Breaking.{NamesExactly, StaysAtDamage}
use Rattle.script_engine.specs.Controls.{AnswersControl, AnswersSetting}
use Rattle.script_engine.specs.Fetching.{FetchesForListing, FetchesForStatement, FetchesRowsOnce}
use Rattle.script_engine.specs.Held.{KeepsBase, StepsOnPages}
use Rattle.script_engine.specs.Leaving.{IsAllCommitted, LeftWithin, MayBeLeft}
use Rattle.statement_meaning.specs.Built.{are_built}
use Rattle.script_engine.specs.Roles.{is_control, role_of}
use Rattle.script_engine.specs.Serving.{IsReadyEngine, MayCall, held_by}
use Rattle.script_engine.specs.Touching.{TouchesAsHeld}
use Rattle.script_engine.specs.declared.engine.Engine.{Engine}

-- the engine serves statements exactly where all its tables are of built forms
abbrev pub IsServedByForms : {S : Type 0} → Engine S → Type 0
IsServedByForms engine = engine.served ≡ are_built engine.tables.catalog

-- the law of a store: what may be left since a time may be left since an earlier one
abbrev pub KeepsTime : {S : Type 0} → Ghosts S → Type 0
KeepsTime g = (s : _) → ReachesBack g.clock g.left s

-- What a statement leaves outside of an engine: a count of faults of the disk rises with `Device` alone, nothing is told, a crash
-- within it leaves the base before, or the pages now, and one after it what the store says of itself at rest.
pub record LeavesOutside {S X : Type 0} (g : Ghosts S) (result : Result X StoreFault) (old new : Engine S) : Type 0 where
  pub device : CountsFault (IsErrOf result Device) (g.disk_faults old.store) (g.disk_faults new.store)
  pub say_faults : g.say_faults new.store ≡ g.say_faults old.store
  pub is_told : (g.state new.store).is_told ≡ (g.state old.store).is_told
  pub told : (g.state new.store).told ≡ (g.state old.store).told
  pub beside : (g.state new.store).beside ≡ (g.state old.store).beside
  pub time : OverTime g.clock g.left (BaseOrNow (g.state old.store) (g.state new.store)) old.store new.store
  pub rests : KeepsTime g → (g.state old.store).ended ≡ false → Rests g old.store → Rests g new.store

-- What a statement leaves of the pages of the last commit, in a crash within it and at its end, at a stop too.
pub record LeavesCommitted {S : Type 0} (g : Ghosts S) (stmt : Stmt) (old new : Engine S) : Type 0 where
  pub time : OverTime g.clock g.left (LeftWithin old.tables.shape (held_by g old) stmt (g.state old.store)) old.store new.store
  pub base : MayBeLeft old.tables.shape (held_by g old) stmt (g.state new.store).base

-- What a statement did to an engine: it steps on sound pages, no damage is named of sound pages, and damage that is named is exact.
-- On any pages BEGIN, COMMIT and ROLLBACK do as the transaction's state has it, only a setting changes what the run is set to, and only
-- pages change that such a statement changes.
pub record Executes {S : Type 0} (g : Ghosts S) (stmt : Stmt) (result : Result Outcome StoreFault) (old new : Engine S) : Type 0 where
  pub steps : IfOk result (λ outcome. IsReadyEngine g old → StepsOnPages old.tables.shape (held_by g old) stmt outcome (held_by g new) × IsReadyEngine g new)
  pub may : OnOk result (MayCall g new)
  pub keeps : OnOk result (IsAllCommitted (held_by g old) → KeepsBase (held_by g old) (held_by g new))
  pub controls : IfOk result (AnswersControl (role_of stmt) old.is_open)
  pub settings : MatchResult result (λ outcome. AnswersSetting (role_of stmt) old.served old.tables.settings outcome new.tables.settings) (λ stop. new.tables.settings ≡ old.tables.settings)
  pub built : OnOk result (IsServedByForms old → IsServedByForms new)
  pub leaves : IsReadyEngine g old → LeavesCommitted g stmt old new
  pub fetches : IsReadyEngine g old → FetchesForStatement g old.tables.shape old.store new.store old.tables.catalog old.tables.settings (bound_of old.tables.catalog stmt)
  pub once : IsOk result → IsReadyEngine g old → FetchesRowsOnce g old.tables.shape old.store new.store old.tables.catalog old.tables.settings (bound_of old.tables.catalog stmt)
  pub lists : IsReadyEngine g old → FetchesForListing g old.store new.store old.tables.catalog (role_of stmt)
  pub brings : BringsOnly g AnyPage old.store new.store
  pub touches : OnOk result (IsAllCommitted (held_by g old) → TouchesAsHeld g stmt old.store new.store old.tables)
  pub unserved : old.served ≡ false → is_control (role_of stmt) ≡ false → (outcome : Outcome) → result ≡ Ok outcome → outcome ≡ said.Refused (refusal_of NotBuilt)
  pub damaged : (damage : Damage) → result ≡ Err (Damaged damage) → IsReadyEngine g old → ⊥
  pub exact : NamesExactly g old.tables.shape result new.store
  pub stays : (damage : Damage) → result ≡ Err (Damaged damage) → StaysAtDamage g old new
  pub shape : new.tables.shape ≡ old.tables.shape
  pub outside : LeavesOutside g result old new

-- An engine comes, by calls that commit nothing and count no fault of the disk, from one that serves statements outside of a
-- transaction and isn't told to be sound.
pub record ComesUnready {S : Type 0} (g : Ghosts S) (first now : Engine S) : Type 0 where
  pub unready : IsReadyEngine g first → ⊥
  pub served : first.served ≡ true
  pub shut : first.is_open ≡ false
  pub steady : Steady g first.store now.store
  pub still : g.disk_faults now.store ≡ g.disk_faults first.store
  pub is_open : now.is_open ≡ first.is_open
  pub settings : now.tables.settings ≡ first.tables.settings
  pub pass : now.pass ≡ first.pass
  pub shape : now.tables.shape ≡ first.tables.shape
  pub brings : BringsOnly g AnyPage first.store now.store
