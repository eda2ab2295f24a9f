-- `RunsOverPages` of no call, of two runs one after the other, and of one call of a store.
use Rattle.std.proofs.Common.{◌≡◌, ◌<◌, ℕ, List, length, Option, Some, None, Result, Ok, Err, IsErrAnd, OnOk, OnErr, refl, sym, ap, subst, arith}
use Rattle.std.specs.Prelude.{IsErrOf}
use Rattle.mdc_words.specs.Faults.{CountsFault}
use Rattle.mdc_words.specs.Time.{OverTime}
use Rattle.store_api.specs.Calls.{Fetches, LosesHand, Writes, Grows, LosesReadiness}
use Rattle.store_api.specs.Moments.{OnlyBase}
use Rattle.store_api.specs.Lending.{EditsPage, RefusesPage}
use Rattle.store_api.specs.Frame.{HoldsPage, NoPage, OnlyPage}
use Rattle.store_api.specs.Causes.{store_fault_in, fault_of, fault_of_pages, NoDamage}
use Rattle.store_api.specs.RunsOverPages.{RunsOverPages}
use Rattle.store_api.specs.declared.fault.Damage.{Damage}
use Rattle.store_api.specs.declared.fault.PageFault.{PageFault}
use Rattle.store_api.specs.declared.fault.PageFault.TheVariants.{Device}
use Rattle.store_api.specs.declared.fault.StoreFault.{StoreFault}
use Rattle.store_api.specs.declared.fault.StoreFault.TheVariants.{Damaged, Memory}
use Rattle.store_api.specs.declared.pages.Pages.{Ghosts}
use Rattle.store_api.proofs.WorksLemmas.{works_none, works_then, works_fetch, works_written, works_unready, works_grown}
use Rattle.store_api.proofs.FrameLemmas.{touches_none, touches_as, touches_same, touches_fetch, touches_written, touches_grown}
use Rattle.store_api.proofs.FetchingLemmas.{only_none, only_same, only_then, only_wider, only_once, once_fetch, once_edit}
use Rattle.store_api.proofs.CausesLemmas.{cause_none, cause_still, cause_damage, cause_memory, cause_then, cause_call, store_fault_in-exit, fault_of-exit}

module _ {S : Type 0} {g : Ghosts S} where
  -- no call at all
  pub runs_none : {Mine Kind : ℕ → Type 0} {Breaks : Damage → Type 0} {s : S} → RunsOverPages g Mine Kind Breaks s s None
  runs_none = record { works = works_none; touches = touches_none; brings = only_none; cause = cause_none refl }

  -- two runs, each with kinds of its own
  pub runs_as : {First Second Mine Early Late Kind : ℕ → Type 0} {Any Breaks All : Damage → Type 0} {old middle new : S} {fault : Option StoreFault}
      → RunsOverPages g First Early Any old middle None → RunsOverPages g Second Late Breaks middle new fault
      → ((p : ℕ) → p < length (g.state old).work → First p → Mine p) → ((p : ℕ) → p < length (g.state old).work → Second p → Mine p)
      → ((p : ℕ) → Early p → Kind p) → ((p : ℕ) → Late p → Kind p) → ((damage : Damage) → Breaks damage → All damage) → RunsOverPages g Mine Kind All old new fault
  runs_as first second left right early late all = record {
    works = works_then first.works second.works;
    touches = touches_as first.touches second.touches left right;
    brings = only_then (only_wider first.brings early) (only_wider second.brings late);
    cause = cause_then first.cause second.cause all;
  }

  -- nothing failed so far: whatever could be named, none was
  pub runs_on : {Mine Kind : ℕ → Type 0} {Any Breaks : Damage → Type 0} {old new : S} → RunsOverPages g Mine Kind Any old new None → RunsOverPages g Mine Kind Breaks old new None
  runs_on run = record { works = run.works; touches = run.touches; brings = run.brings; cause = cause_none (cause_still run.cause) }

  -- a run, and one call or run more, which does no more than the whole may do
  pub runs_then : {Mine More Kind Wider : ℕ → Type 0} {Breaks All : Damage → Type 0} {old middle new : S} {fault : Option StoreFault}
      → RunsOverPages g Mine Kind All old middle None → RunsOverPages g More Wider Breaks middle new fault
      → ((p : ℕ) → p < length (g.state old).work → More p → Mine p) → ((p : ℕ) → Wider p → Kind p) → ((damage : Damage) → Breaks damage → All damage)
      → RunsOverPages g Mine Kind All old new fault
  runs_then first second mine kind all = runs_as first second (λ p there is. is) mine (λ p is. is) kind all

  -- the same, where the second finds no page that breaks a rule
  pub runs_more : {Mine More Kind Wider : ℕ → Type 0} {All : Damage → Type 0} {old middle new : S} {fault : Option StoreFault}
      → RunsOverPages g Mine Kind All old middle None → RunsOverPages g More Wider NoDamage middle new fault
      → ((p : ℕ) → p < length (g.state old).work → More p → Mine p) → ((p : ℕ) → Wider p → Kind p) → RunsOverPages g Mine Kind All old new fault
  runs_more first second mine kind = runs_then first second mine kind (λ damage none. absurd none)

  -- a run that may do more
  pub runs_wider : {Mine More Kind Wider : ℕ → Type 0} {Breaks All : Damage → Type 0} {old new : S} {fault : Option StoreFault} → RunsOverPages g Mine Kind Breaks old new fault
      → ((p : ℕ) → p < length (g.state old).work → Mine p → More p) → ((p : ℕ) → Kind p → Wider p) → ((damage : Damage) → Breaks damage → All damage)
      → RunsOverPages g More Wider All old new fault
  runs_wider run more wider all = runs_then runs_none run more wider all

  -- a run that finds a page that breaks a rule
  pub runs_damage : {Mine Kind : ℕ → Type 0} {Breaks : Damage → Type 0} {old new : S} {damage : Damage} → RunsOverPages g Mine Kind Breaks old new None → Breaks damage
      → RunsOverPages g Mine Kind Breaks old new (Some (Damaged damage))
  runs_damage {damage = damage} run breaks = record { works = run.works; touches = run.touches; brings = run.brings; cause = cause_damage damage run.cause breaks }

  -- a run behind which memory ran out
  pub runs_memory : {Mine Kind : ℕ → Type 0} {Breaks : Damage → Type 0} {old new : S} → RunsOverPages g Mine Kind Breaks old new None → RunsOverPages g Mine Kind Breaks old new (Some Memory)
  runs_memory run = record { works = run.works; touches = run.touches; brings = run.brings; cause = cause_memory run.cause }

  -- a run that ends with the fault of its last call, at the exit of the `?`
  pub runs_exit : {X : Type 0} {Mine Kind : ℕ → Type 0} {Breaks : Damage → Type 0} {old new : S} {fault : StoreFault} (result : Result X StoreFault) → IsErrAnd result (λ d. d ≡ fault)
      → RunsOverPages g Mine Kind Breaks old new (Some fault) → RunsOverPages g Mine Kind Breaks old new (fault_of result)
  runs_exit {Mine = Mine} {Kind = Kind} {Breaks = Breaks} {old = old} {new = new} {fault = fault} result is run =
      subst (RunsOverPages g Mine Kind Breaks old new) (sym (fault_of-exit result fault is)) run

  -- the same of a call whose faults are of a type of its own
  pub runs_exit_as : {X E : Type 0} (part : E → Option StoreFault) {Mine Kind : ℕ → Type 0} {Breaks : Damage → Type 0} {old new : S} {e : E} (result : Result X E) → IsErrAnd result (λ d. d ≡ e)
      → RunsOverPages g Mine Kind Breaks old new (part e) → RunsOverPages g Mine Kind Breaks old new (store_fault_in part result)
  runs_exit_as part {Mine = Mine} {Kind = Kind} {Breaks = Breaks} {old = old} {new = new} {e = e} result is run =
      subst (RunsOverPages g Mine Kind Breaks old new) (sym (store_fault_in-exit part result e is)) run

  -- one fetch
  pub runs_fetch : {old new : S} (r : Result (Unit {0}) PageFault) (p : ℕ) → OnOk r (Fetches p (g.state old) (g.state new)) → OnErr r (LosesHand (g.state old) (g.state new))
      → CountsFault (IsErrOf r Device) (g.disk_faults old) (g.disk_faults new) → g.say_faults new ≡ g.say_faults old → OverTime g.clock g.left (OnlyBase (g.state old)) old new
      → RunsOverPages g NoPage (OnlyPage p) NoDamage old new (fault_of_pages r)
  runs_fetch r p ok err disk say time = record {
    works = works_fetch r p ok err disk.later say time;
    touches = touches_fetch r p ok err;
    brings = only_once (once_fetch r p ok err);
    cause = cause_call r disk;
  }

  -- a call that changes no page, and ends what was ready for `commit`
  runs_unready : {Mine Kind : ℕ → Type 0} {X : Type 0} {old new : S} (r : Result X PageFault) → LosesReadiness (g.state old) (g.state new)
      → CountsFault (IsErrOf r Device) (g.disk_faults old) (g.disk_faults new) → g.say_faults new ≡ g.say_faults old → OverTime g.clock g.left (OnlyBase (g.state old)) old new
      → RunsOverPages g Mine Kind NoDamage old new (fault_of_pages r)
  runs_unready r is disk say time = record {
    works = works_unready is disk.later say time;
    touches = touches_same (ap (λ s. s.is_told) is) (ap (λ s. s.work) is);
    brings = only_same (ap (λ s. s.fetched) is);
    cause = cause_call r disk;
  }

  -- one write
  pub runs_write : {old new : S} (r : Result (Unit {0}) PageFault) (p : ℕ) (bytes : List ℕ) → OnOk r (Writes p bytes (g.state old) (g.state new)) → OnErr r (LosesReadiness (g.state old) (g.state new))
      → CountsFault (IsErrOf r Device) (g.disk_faults old) (g.disk_faults new) → g.say_faults new ≡ g.say_faults old → OverTime g.clock g.left (OnlyBase (g.state old)) old new
      → RunsOverPages g (OnlyPage p) NoPage NoDamage old new (fault_of_pages r)
  runs_write (Ok x) p bytes is err disk say time = record {
    works = works_written p bytes is disk.later say time;
    touches = touches_written p bytes is;
    brings = only_same (ap (λ s. s.fetched) is);
    cause = cause_call (Ok x) disk;
  }
  runs_write (Err e) p bytes ok is disk say time = runs_unready (Err e) is disk say time

  -- pages of zeros at the end
  pub runs_grow : {old new : S} (r : Result (Unit {0}) PageFault) (n : ℕ) → OnOk r (Grows n (g.state old) (g.state new)) → OnErr r (LosesReadiness (g.state old) (g.state new))
      → CountsFault (IsErrOf r Device) (g.disk_faults old) (g.disk_faults new) → g.say_faults new ≡ g.say_faults old → OverTime g.clock g.left (OnlyBase (g.state old)) old new
      → RunsOverPages g NoPage NoPage NoDamage old new (fault_of_pages r)
  runs_grow (Ok x) n is err disk say time = record {
    works = works_grown n is disk.later say time;
    touches = touches_grown n is;
    brings = only_same (ap (λ s. s.fetched) is);
    cause = cause_call (Ok x) disk;
  }
  runs_grow (Err e) n ok is disk say time = runs_unready (Err e) is disk say time

  -- a page that was lent, once it has been given back
  pub runs_edit : {old new : S} (p : ℕ) (bytes : List ℕ) → EditsPage g.state g.written g.disk_faults g.say_faults g.clock g.left p bytes old new
      → RunsOverPages g (OnlyPage p) (OnlyPage p) NoDamage old new None
  runs_edit p bytes is = record {
    works = works_written p bytes is.ok (omega (arith, is.disk_faults)) is.say_faults is.time;
    touches = touches_written p bytes is.ok;
    brings = only_once (once_edit p bytes is.ok);
    cause = cause_none is.disk_faults;
  }

  -- a page that wasn't lent
  pub runs_refused : {X : Type 0} {Mine Kind : ℕ → Type 0} {old new : S} (r : Result X PageFault) → RefusesPage g.state g.written g.disk_faults g.say_faults g.clock g.left r old new
      → RunsOverPages g Mine Kind NoDamage old new (fault_of_pages r)
  runs_refused r is = runs_unready r is.err is.disk_faults is.say_faults is.time

  -- a page that isn't mine still holds what it held
  pub still_holds : {Mine Kind : ℕ → Type 0} {Breaks : Damage → Type 0} {fault : Option StoreFault} {old new : S} {p : ℕ} {bytes : List ℕ} → RunsOverPages g Mine Kind Breaks old new fault
      → (Mine p → ⊥) → HoldsPage g old p bytes → HoldsPage g new p bytes
  still_holds {p = p} {bytes = bytes} run other holds = run.touches.others p bytes other holds
