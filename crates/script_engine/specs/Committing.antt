-- What a commit of all pages leaves of a store.
use Rattle.std.specs.Prelude.{◌≡◌, ◌⊎◌, Bool, IsTrue, false, true, IfOk, OnErr, OnOk, IsErrOf, Result, Err, None, length}
use Rattle.mdc_words.specs.Faults.{CountsFault}
use Rattle.mdc_words.specs.Time.{OverTime}
use Rattle.store_api.specs.Fetching.{BringsOnly}
use Rattle.store_api.specs.Frame.{OnlyPage}
use Rattle.store_api.specs.Moments.{BaseOrNow}
use Rattle.store_api.specs.StoreState.{stated_count}
use Rattle.store_api.specs.declared.fault.Damage.{Damage}
use Rattle.store_api.specs.declared.fault.StoreFault.{StoreFault}
use Rattle.store_api.specs.declared.fault.StoreFault.TheVariants.{Damaged, Device}
use Rattle.store_api.specs.declared.pages.Pages.{Ghosts}
use Rattle.store_api.specs.declared.shape.Shape.{Shape}
use Rattle.mdc_sound.specs.SpaceRules.{IsRootSound}
use Rattle.statement_rows.specs.RowsOfStatement.{AnyPage}
use Rattle.script_engine.specs.Breaking.{OnlyReads}

-- the pages are told, and the root page is sound
pub record HasSoundRoot {S : Type 0} (g : Ghosts S) (s : S) : Type 0 where
  pub told : IsTrue (g.state s).is_told
  pub shape : Shape
  pub sound : IsRootSound shape (g.state s).work

-- Page 0 was looked at, if there is one: whether it states how many pages there are, as that of a sound root page does. No other page
-- came to hand, and none was changed.
pub record CountsPages {S : Type 0} (g : Ghosts S) (result : Result Bool StoreFault) (old new : S) : Type 0 where
  pub reads : OnlyReads g old new
  pub brings : BringsOnly g (OnlyPage 0) old new
  pub counted : IfOk result (λ counts. counts ≡ true → IsTrue (g.state old).is_told → stated_count (g.state old).work ≡ length (g.state old).work)
  pub miscounted : IfOk result (λ counts. counts ≡ false → HasSoundRoot g old → ⊥)
  pub device : CountsFault (IsErrOf result Device) (g.disk_faults old) (g.disk_faults new)
  pub whole : (damage : Damage) → result ≡ Err (Damaged damage) → ⊥

-- The work was made the base, or a stop came, which leaves the base or the work as the base, the base where no call of the disk
-- failed. Damage is named where page 0 doesn't state the count, and pages were read alone then. No other page came to hand where the
-- work was made the base, or the root page is sound.
pub record CommitsWork {S X : Type 0} (g : Ghosts S) (result : Result X StoreFault) (old new : S) : Type 0 where
  pub work : (g.state new).work ≡ (g.state old).work
  pub brings : OnOk result (BringsOnly g (OnlyPage 0) old new)
  pub sound : HasSoundRoot g old → BringsOnly g (OnlyPage 0) old new
  pub log : BringsOnly g AnyPage old new
  pub base : OnOk result ((g.state new).base ≡ (g.state old).work)
  pub either : ((g.state new).base ≡ (g.state old).base) ⊎ ((g.state new).base ≡ (g.state old).work)
  pub kept : OnErr result ((IsErrOf result Device → ⊥) → (g.state new).base ≡ (g.state old).base)
  pub unmarked : OnOk result ((g.state new).marked ≡ None)
  pub going : (IsErrOf result Device → ⊥) → (g.state new).ended ≡ (g.state old).ended
  pub is_told : (g.state new).is_told ≡ (g.state old).is_told
  pub told : (g.state new).told ≡ (g.state old).told
  pub beside : (g.state new).beside ≡ (g.state old).beside
  pub device : CountsFault (IsErrOf result Device) (g.disk_faults old) (g.disk_faults new)
  pub say_faults : g.say_faults new ≡ g.say_faults old
  pub damaged : (damage : Damage) → result ≡ Err (Damaged damage) → HasSoundRoot g old → ⊥
  pub halts : (damage : Damage) → result ≡ Err (Damaged damage) → OnlyReads g old new
  pub time : OverTime g.clock g.left (BaseOrNow (g.state old) (g.state new)) old new
