-- A cause, for a run that began earlier or that names more.
use Rattle.std.proofs.Common.{◌≡◌, ℕ, Option, Some, None, Result, Ok, Err, refl, sym, ap, subst, IsErrAnd}
use Rattle.std.specs.Prelude.{IsErrOf}
use Rattle.mdc_words.specs.Faults.{CountsFault}
use Rattle.mdc_words.proofs.FaultsLemmas.{counts_fault_none, counts_fault_then, counts_fault_as}
use Rattle.store_api.specs.Causes.{HasStoreCause, store_fault_in, fault_of, fault_of_pages}
use Rattle.store_api.specs.declared.fault.Damage.{Damage}
use Rattle.store_api.specs.declared.fault.PageFault.{PageFault}
use Rattle.store_api.specs.declared.fault.PageFault.TheVariants as page
use Rattle.store_api.specs.declared.fault.StoreFault.{StoreFault}
use Rattle.store_api.specs.declared.fault.StoreFault.TheVariants.{Device, Damaged, Memory}
use Rattle.store_api.specs.declared.pages.Pages.{Ghosts}

-- the fault that a call hands on, at the exit of its `?`
pub store_fault_in-exit : {X E : Type 0} (part : E → Option StoreFault) (r : Result X E) (e : E) → IsErrAnd r (λ d. d ≡ e) → store_fault_in part r ≡ part e
store_fault_in-exit part (Err d) e is = ap part is
store_fault_in-exit part (Ok x) e is = absurd is

pub fault_of-exit : {X : Type 0} (r : Result X StoreFault) (fault : StoreFault) → IsErrAnd r (λ d. d ≡ fault) → fault_of r ≡ Some fault
fault_of-exit (Err d) fault is = ap Some is
fault_of-exit (Ok x) fault is = absurd is

-- a call on pages counts the fault of a disk, and names no page
pub counts_fault_of_pages : {X : Type 0} (r : Result X PageFault) {before now : ℕ} → CountsFault (IsErrOf r page.Device) before now
    → CountsFault (fault_of_pages r ≡ Some Device) before now
counts_fault_of_pages (Ok x) counts = counts_fault_as (λ is. cc) (λ is. cc) counts
counts_fault_of_pages (Err page.Device) counts = counts_fault_as (λ is. refl) (λ is. refl) counts
counts_fault_of_pages (Err page.Memory) counts = counts_fault_as (λ is. absurd (cc)) (λ is. absurd (cc)) counts

names_none : {X : Type 0} (r : Result X PageFault) (damage : Damage) → fault_of_pages r ≡ Some (Damaged damage) → ⊥
names_none (Ok x) damage is = cc
names_none (Err page.Device) damage is = cc
names_none (Err page.Memory) damage is = cc

module _ {S : Type 0} {g : Ghosts S} where
  -- nothing failed, and nothing was counted
  pub cause_none : {Breaks : Damage → Type 0} {old new : S} → g.disk_faults new ≡ g.disk_faults old → HasStoreCause g Breaks old new None
  cause_none {Breaks} {old} {new} same = record {
    device = subst (λ count. CountsFault (None ≡ Some Device) (g.disk_faults old) count) (sym same) (counts_fault_none (λ is. cc));
    damaged = λ damage is. absurd (cc);
  }

  -- nothing was counted where nothing failed
  pub cause_still : {Breaks : Damage → Type 0} {old new : S} → HasStoreCause g Breaks old new None → g.disk_faults new ≡ g.disk_faults old
  cause_still cause = cause.device.still (λ is. cc)

  -- a page that breaks a rule, found behind a run
  pub cause_damage : {Any Breaks : Damage → Type 0} {old new : S} (damage : Damage) → HasStoreCause g Any old new None → Breaks damage → HasStoreCause g Breaks old new (Some (Damaged damage))
  cause_damage {Any} {Breaks} {old} {new} damage run breaks = record {
    device = counts_fault_as (λ is. absurd (cc)) (λ is. absurd (cc)) run.device;
    damaged = λ other is. let e : damage ≡ other = cc in subst Breaks e breaks;
  }

  -- memory ran out behind a run
  pub cause_memory : {Any Breaks : Damage → Type 0} {old new : S} → HasStoreCause g Any old new None → HasStoreCause g Breaks old new (Some Memory)
  cause_memory {Any} {Breaks} {old} {new} run = record {
    device = counts_fault_as (λ is. absurd (cc)) (λ is. absurd (cc)) run.device;
    damaged = λ damage is. absurd (cc);
  }

  -- a run behind one that answered no fault
  pub cause_then : {Any Breaks Wider : Damage → Type 0} {old middle new : S} {fault : Option StoreFault} → HasStoreCause g Any old middle None → HasStoreCause g Breaks middle new fault
      → ((damage : Damage) → Breaks damage → Wider damage) → HasStoreCause g Wider old new fault
  cause_then first second wider = record {
    device = counts_fault_then (cause_still first) second.device;
    damaged = λ damage is. wider damage (second.damaged damage is);
  }

  -- a run behind which nothing was counted
  pub cause_before : {Breaks : Damage → Type 0} {old middle new : S} {fault : Option StoreFault} → HasStoreCause g Breaks old middle fault → g.disk_faults new ≡ g.disk_faults middle
      → HasStoreCause g Breaks old new fault
  cause_before {Breaks} {old} {middle} {new} {fault} cause same = record {
    device = subst (λ count. CountsFault (fault ≡ Some Device) (g.disk_faults old) count) (sym same) cause.device;
    damaged = cause.damaged;
  }

  -- one call on pages
  pub cause_call : {X : Type 0} {Breaks : Damage → Type 0} {old new : S} (r : Result X PageFault) → CountsFault (IsErrOf r page.Device) (g.disk_faults old) (g.disk_faults new)
      → HasStoreCause g Breaks old new (fault_of_pages r)
  cause_call r counts = record { device = counts_fault_of_pages r counts; damaged = λ damage is. absurd (names_none r damage is) }
