-- Damage that is exact: the first rule that the pages of a store break, and the lowest page that breaks it.
use Rattle.std.specs.Prelude.{◌≡◌, false, IsTrue, IfOk, IsErrOf, None, Result, Err}
use Rattle.mdc_words.specs.Faults.{CountsFault}
use Rattle.mdc_ast.specs.Definitions.{Definitions}
use Rattle.store_api.specs.Fetching.{BringsOnly}
use Rattle.store_api.specs.Works.{Steady}
use Rattle.store_api.specs.declared.fault.Damage.{Damage}
use Rattle.store_api.specs.declared.fault.StoreFault.{StoreFault}
use Rattle.store_api.specs.declared.fault.StoreFault.TheVariants.{Damaged, Device}
use Rattle.store_api.specs.declared.pages.Pages.{Ghosts}
use Rattle.store_api.specs.declared.shape.Shape.{Shape}
use Rattle.mdc_sound.specs.Breaks.{IsFirstBreak}
use Rattle.mdc_sound.specs.SoundDatabase.{IsSoundDatabase}
use Rattle.statement_rows.specs.RowsOfStatement.{AnyPage}
use Rattle.stored_catalog.specs.StoredDefinitions.{AreStored, AreWithinLimits}
use Rattle.script_engine.specs.Ready.{DoNamesDiffer}
use Rattle.script_engine.specs.declared.engine.Engine.{Engine}

-- where the store tells its pages, the damage is the first rule that they break, and the lowest page that breaks it
abbrev pub IsExactDamage : {S : Type 0} → Ghosts S → Shape → S → Damage → Type 0
IsExactDamage g shape s damage = IsTrue (g.state s).is_told → IsFirstBreak shape (g.state s).work damage.rule damage.page

-- the damage that a call answers is that of the pages as it leaves them
abbrev pub NamesExactly : {S X : Type 0} → Ghosts S → Shape → Result X StoreFault → S → Type 0
NamesExactly g shape result s = (damage : Damage) → result ≡ Err (Damaged damage) → IsExactDamage g shape s damage

-- Pages were read alone: all is as it was, but for the page at hand, and which came to hand is told where it was.
pub record OnlyReads {S : Type 0} (g : Ghosts S) (old new : S) : Type 0 where
  pub steady : Steady g old new
  pub work : (g.state new).work ≡ (g.state old).work
  pub marked : (g.state new).marked ≡ (g.state old).marked
  pub brings : BringsOnly g AnyPage old new

-- The pages were judged: the damage that is named is exact, where they aren't sound.
pub record JudgesDamage {S : Type 0} (g : Ghosts S) (shape : Shape) (stop : StoreFault) (old new : S) : Type 0 where
  pub reads : OnlyReads g old new
  pub device : CountsFault (stop ≡ Device) (g.disk_faults old) (g.disk_faults new)
  pub exact : (damage : Damage) → stop ≡ Damaged damage → (IsTrue (g.state new).is_told → IsSoundDatabase shape (g.state new).work → ⊥) → IsExactDamage g shape new damage

-- The catalog of the table pages was read, or exact damage is named, which sound pages don't have.
pub record LoadsExactly {S : Type 0} (g : Ghosts S) (shape : Shape) (result : Result Definitions StoreFault) (old new : S) : Type 0 where
  pub reads : OnlyReads g old new
  pub stored : IfOk result (λ catalog. IsTrue (g.state old).is_told → AreStored (g.state old).work catalog)
  pub limits : IfOk result AreWithinLimits
  pub names : IfOk result DoNamesDiffer
  pub device : CountsFault (IsErrOf result Device) (g.disk_faults old) (g.disk_faults new)
  pub damaged : (damage : Damage) → result ≡ Err (Damaged damage) → IsTrue (g.state old).is_told → (shape : Shape) → IsSoundDatabase shape (g.state old).work → ⊥
  pub exact : NamesExactly g shape result new

-- Where damage is named, nothing was committed, the store goes on with no mark, and a transaction is open as it was.
pub record StaysAtDamage {S : Type 0} (g : Ghosts S) (old new : Engine S) : Type 0 where
  pub base : (g.state new.store).base ≡ (g.state old.store).base
  pub going : (g.state new.store).ended ≡ false
  pub unmarked : (g.state new.store).marked ≡ None
  pub is_open : new.is_open ≡ old.is_open
