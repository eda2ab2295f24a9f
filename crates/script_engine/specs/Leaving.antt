-- What a statement leaves as the pages of the last commit, at its end, after a stop and in a crash.
use Rattle.std.specs.Prelude.{◌≡◌, false, Some, IfSome}
use Rattle.mdc_ast.specs.declared.reply.Outcome.{Outcome}
use Rattle.mdc_ast.specs.declared.statement.Stmt.{Stmt}
use Rattle.statement_meaning.specs.Built.{AreBuiltDefs}
use Rattle.store_api.specs.Moments.{Outcomes}
use Rattle.store_api.specs.StoreState.{StoreState}
use Rattle.store_api.specs.declared.shape.Shape.{Shape}
use Rattle.table_trees.specs.ToldPages.{PageList}
use Rattle.mdc_sound.specs.SoundDatabase.{IsSoundDatabase}
use Rattle.stored_catalog.specs.StoredDefinitions.{AreStored}
use Rattle.script_engine.specs.Held.{HeldPages, StepsOnPages}

-- where no transaction is open, all pages are committed
abbrev pub IsAllCommitted : HeldPages → Type 0
IsAllCommitted held = held.open_ ≡ false → held.base ≡ held.work

-- What a crash within a statement, or a stop of it, may leave as the pages of the last commit: those before it, or, where it is
-- committed, those that it makes, which are sound and of built forms.
pub data MayBeLeft (shape : Shape) (old : HeldPages) (stmt : Stmt) (pages : PageList) : Type 0 where
  before : pages ≡ old.base → MayBeLeft shape old stmt pages
  after : (outcome : Outcome) (new : HeldPages) → StepsOnPages shape old stmt outcome new → new.open_ ≡ false → pages ≡ new.base
      → IsSoundDatabase shape pages → AreStored pages new.defs → AreBuiltDefs new.defs → MayBeLeft shape old stmt pages

-- the pages to which the file reopens after a crash within a statement, with the bytes told before it, where they are told
abbrev pub LeftWithin : Shape → HeldPages → Stmt → StoreState → Outcomes
LeftWithin shape old stmt s left told =
    ((pages : PageList) × (left ≡ Some pages) × MayBeLeft shape old stmt pages) × IfSome s.told (λ bytes. told ≡ bytes)
