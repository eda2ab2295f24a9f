-- What the execution of a statement leaves of a store, before anything is committed.
use Rattle.std.specs.Prelude.{◌≡◌, ◌⊎◌, Bool, true, false, not, IsTrue, IfOk, IsOk, OnOk, IsErrOf, List, Result, Ok, Err, None}
use Rattle.mdc_words.specs.Faults.{CountsFault}
use Rattle.mdc_ast.specs.declared.refusal.Refusal.{Refusal}
use Rattle.mdc_ast.specs.declared.reply.Outcome.{Outcome}
use Rattle.mdc_ast.specs.declared.reply.Outcome.TheVariants as said
use Rattle.mdc_ast.specs.declared.statement.Stmt.{Stmt}
use Rattle.statement_meaning.specs.Binding.{bound_of}
use Rattle.statement_meaning.specs.Cause.{FileFull, NotBuilt, refusal_of}
use Rattle.store_api.specs.Fetching.{BringsOnly}
use Rattle.store_api.specs.Works.{Steady}
use Rattle.store_api.specs.declared.fault.Damage.{Damage}
use Rattle.store_api.specs.declared.fault.StoreFault.{StoreFault}
use Rattle.store_api.specs.declared.fault.StoreFault.TheVariants.{Damaged, Device}
use Rattle.store_api.specs.declared.pages.Pages.{Ghosts}
use Rattle.store_api.specs.declared.shape.Shape.{Shape}
use Rattle.extent_map.specs.Owners.{AreRightNotes}
use Rattle.extent_map.specs.declared.kind.Kind.{Kind}
use Rattle.mdc_sound.specs.SoundDatabase.{IsSoundDatabase}
use Rattle.mdc_sound.specs.StandingTable.{pages_of}
use Rattle.statement_rows.specs.RowsOfStatement.{AnyPage}
use Rattle.stored_catalog.specs.StoredDefinitions.{AreStored}
use Rattle.script_engine.specs.Doing.{DoesReady, LeavesAll, SaysNoRow, StepRunsFull}
use Rattle.script_engine.specs.Fetching.{FetchesForListing, FetchesForStatement, FetchesRowsOnce}
use Rattle.script_engine.specs.NotedRooms.{AreForgotten}
use Rattle.statement_meaning.specs.Built.{are_built}
use Rattle.script_engine.specs.Ready.{AreServed, IsReady}
use Rattle.script_engine.specs.Replies.{IsDoneAs, IsReplyOf}
use Rattle.script_engine.specs.Roles.{Role, is_built_form, only_reads, role_of}
use Rattle.script_engine.specs.Touching.{TouchesAsHeld}
use Rattle.script_engine.specs.declared.tables.Tables.{Tables}

-- a statement that runs full, against which nothing else is said, was refused with 70, and left all as it was
pub record IsRefusedFull {S : Type 0} (g : Ghosts S) (old new : S) (before now : Tables) (stmt : Stmt) (outcome : Outcome) : Type 0 where
  pub says : outcome ≡ said.Refused (refusal_of (FileFull before.shape.extents))
  pub leaves : LeavesAll g old new before now
  pub full : StepRunsFull before.shape (pages_of g old) before.catalog stmt
  pub ready : IsReady g new now

-- where damage is named, all is as it was, and no mark is open
pub record GoesBack {S : Type 0} (g : Ghosts S) (old new : S) (before now : Tables) : Type 0 where
  pub leaves : LeavesAll g old new before now
  pub unmarked : (g.state new).marked ≡ None

-- a statement left the pages; the definitions stay, or were read of these pages anew
pub record LeavesPages {S : Type 0} (g : Ghosts S) (old new : S) (before now : Tables) : Type 0 where
  pub pages : pages_of g new ≡ pages_of g old
  pub defs : (now.catalog ≡ before.catalog) ⊎ (IsTrue (g.state old).is_told → AreStored (pages_of g old) now.catalog)

-- A statement was tried, whatever the pages are, and nothing is committed. A refusal, a query and LIST BLOCKS change nothing, what tells that
-- no row went or was changed leaves the pages, only pages change that such a statement changes, and a form that isn't built is refused
-- with 14.
pub record Tries {S : Type 0} (g : Ghosts S) (stmt : Stmt) (result : Result Outcome StoreFault) (old new : S) (before now : Tables) : Type 0 where
  pub steady : Steady g old new
  pub unmarked : OnOk result ((g.state new).marked ≡ None)
  pub served : OnOk result (AreServed now.catalog)
  pub shape : now.shape ≡ before.shape
  pub settings : now.settings ≡ before.settings
  pub back : (damage : Damage) → result ≡ Err (Damaged damage) → GoesBack g old new before now
  pub refused : (refusal : Refusal) → result ≡ Ok (said.Refused refusal) → LeavesAll g old new before now
  pub reads : OnOk result (only_reads (role_of stmt) ≡ true → LeavesAll g old new before now)
  pub kind : IfOk result (IsDoneAs (IsReplyOf stmt))
  pub idle : IfOk result (λ outcome. SaysNoRow outcome → LeavesPages g old new before now)
  pub unbuilt : is_built_form stmt ≡ false → IfOk result (λ outcome. outcome ≡ said.Refused (refusal_of NotBuilt))
  pub device : CountsFault (IsErrOf result Device) (g.disk_faults old) (g.disk_faults new)
  pub brings : BringsOnly g AnyPage old new
  pub touches : OnOk result (TouchesAsHeld g stmt old new before)

-- A statement was tried, and on ready pages it is executed, or refused with 70. No damage is named of such pages, and of them only
-- those come to hand that are said of it.
pub record TriesStep {S : Type 0} (g : Ghosts S) (stmt : Stmt) (result : Result Outcome StoreFault) (old new : S) (before now : Tables) : Type 0 where
  pub tries : Tries g stmt result old new before now
  pub does : IfOk result (λ outcome. IsReady g old before → DoesReady g old new before now stmt outcome ⊎ IsRefusedFull g old new before now stmt outcome)
  pub fetches : IsReady g old before → FetchesForStatement g before.shape old new before.catalog before.settings (bound_of before.catalog stmt)
  pub once : IsOk result → IsReady g old before → FetchesRowsOnce g before.shape old new before.catalog before.settings (bound_of before.catalog stmt)
  pub lists : IsReady g old before → FetchesForListing g old new before.catalog (role_of stmt)
  pub damaged : (damage : Damage) → result ≡ Err (Damaged damage) → IsReady g old before → ⊥

-- a statement of this role that is answered so may have changed pages
abbrev pub has_changed : Role → Outcome → Bool
has_changed role (said.Done reply) = not (only_reads role)
has_changed role (said.Refused refusal) = false

-- What is kept of the pages was read from them anew: the catalog of their table pages, for a database of this shape, and no notes.
pub record AreReadAnew {S : Type 0} (g : Ghosts S) (s : S) (given : Shape) (read : Tables) : Type 0 where
  pub stored : AreStored (pages_of g s) read.catalog
  pub shape : read.shape ≡ given
  pub notes : (owners : List Kind) → AreRightNotes read.shape read.notes owners
  pub rooms : AreForgotten read.rooms

-- A statement was executed by what was read, or refused with 70. One that changes pages and is done leaves what it made of that.
pub record DoesAnew {S : Type 0} (g : Ghosts S) (stmt : Stmt) (outcome : Outcome) (old new : S) (read now : Tables) : Type 0 where
  pub made : Tables
  pub does : DoesReady g old new read made stmt outcome ⊎ IsRefusedFull g old new read made stmt outcome
  pub leaves : has_changed (role_of stmt) outcome ≡ true → now ≡ made

-- A statement was answered by what was read of the pages anew. It is refused with 14 where one of their tables is of a form that
-- isn't built, and executed where none is.
pub record AnswersAnew {S : Type 0} (g : Ghosts S) (stmt : Stmt) (outcome : Outcome) (old new : S) (before now : Tables) : Type 0 where
  pub read : Tables
  pub is_read : AreReadAnew g old before.shape read
  pub settings : read.settings ≡ before.settings
  pub unbuilt : are_built read.catalog ≡ false → outcome ≡ said.Refused (refusal_of NotBuilt)
  pub does : are_built read.catalog ≡ true → DoesAnew g stmt outcome old new read now

-- where the pages are told and sound, an answer is one by what was read of them anew
abbrev pub AnswersBySoundPages : {S : Type 0} → Ghosts S → Stmt → Result Outcome StoreFault → S → S → Tables → Tables → Type 0
AnswersBySoundPages g stmt result old new before now =
    IfOk result (λ outcome. IsTrue (g.state old).is_told → IsSoundDatabase before.shape (pages_of g old) → AnswersAnew g stmt outcome old new before now)
