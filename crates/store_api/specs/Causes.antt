-- Why a call on a whole database may fail.
use Rattle.std.specs.Prelude.{◌≡◌, Result, Ok, Err, Option, Some, None}
use Rattle.mdc_words.specs.Faults.{CountsFault}
use Rattle.store_api.specs.Faults.{store_fault_of}
use Rattle.store_api.specs.declared.fault.Damage.{Damage}
use Rattle.store_api.specs.declared.fault.PageFault.{PageFault}
use Rattle.store_api.specs.declared.fault.StoreFault.{StoreFault}
use Rattle.store_api.specs.declared.fault.StoreFault.TheVariants.{Device, Damaged}
use Rattle.store_api.specs.declared.pages.Pages.{Ghosts}

-- the fault of the store that a call ended with, if any; `part` says which of its own faults are faults of the store
abbrev pub store_fault_in : {X E : Type 0} → (E → Option StoreFault) → Result X E → Option StoreFault
store_fault_in part (Ok x) = None
store_fault_in part (Err e) = part e

-- the same of a call whose faults are those of the store
abbrev pub fault_of : {X : Type 0} → Result X StoreFault → Option StoreFault
fault_of (Ok x) = None
fault_of (Err fault) = Some fault

-- the same of a call on pages
abbrev pub fault_of_pages : {X : Type 0} → Result X PageFault → Option StoreFault
fault_of_pages (Ok x) = None
fault_of_pages (Err fault) = Some (store_fault_of fault)

-- A fault of the disk is one that was counted, and nothing else is counted. A page that is named breaks a rule that may be
-- named. Memory may run out.
pub record HasStoreCause {S : Type 0} (g : Ghosts S) (Breaks : Damage → Type 0) (old new : S) (fault : Option StoreFault) : Type 0 where
  pub device : CountsFault (fault ≡ Some Device) (g.disk_faults old) (g.disk_faults new)
  pub damaged : (damage : Damage) → fault ≡ Some (Damaged damage) → Breaks damage

-- no page breaks a rule
abbrev pub NoDamage : Damage → Type 0
NoDamage damage = ⊥
