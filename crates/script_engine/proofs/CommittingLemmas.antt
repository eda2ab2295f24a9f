-- Page 0 that states how many pages there are, or doesn't, and commits of all pages.
use Rattle.std.proofs.Common.{◌≡◌, ◌<◌, ◌^◌, ℕ, List, Some, Result, Ok, Err, IsErrAnd, OnErr, OnOk, length, refl, sym, ap, subst, inl, inr, arith, ◌∙◌}
use Rattle.std.specs.Prelude.{false, true, IfSome, IsErrOf, IsTrue}
use Rattle.std.proofs.lemmas.Option.{same_Some}
use Rattle.mdc_words.specs.Faults.{CountsFault}
use Rattle.mdc_words.specs.Time.{OverTime}
use Rattle.mdc_words.proofs.FaultsLemmas.{counts_fault_as, counts_fault_none, counts_fault_then}
use Rattle.mdc_words.proofs.TimeLemmas.{over_time_then, over_time_wider}
use Rattle.store_api.specs.Calls.{Fetches}
use Rattle.store_api.specs.Fetching.{BringsOnly}
use Rattle.store_api.specs.Frame.{OnlyPage}
use Rattle.store_api.specs.Moments.{OnlyBase}
use Rattle.store_api.specs.StoreState.{page_at, stated_in}
use Rattle.store_api.specs.declared.fault.Damage.{Damage}
use Rattle.store_api.specs.declared.fault.PageFault.TheVariants as page
use Rattle.store_api.specs.declared.fault.StoreFault.{StoreFault}
use Rattle.store_api.specs.declared.fault.StoreFault.TheVariants.{Damaged, Device}
use Rattle.store_api.specs.declared.pages.Pages.{Ghosts}
use Rattle.store_api.specs.declared.shape.Shape.{Shape}
use Rattle.store_api.proofs.FetchingLemmas.{once_fetch, only_none, only_once, only_same, only_then, only_wider}
use Rattle.store_api.proofs.MomentsLemmas.{base_or_now-steady}
use Rattle.store_api.proofs.WorksLemmas.{steady_none, works_fetch}
use Rattle.table_trees.specs.ToldPages.{PageList}
use Rattle.mdc_sound.specs.SpaceRules.{IsRootSound}
use Rattle.script_engine.specs.Breaking.{JudgesDamage, NamesExactly, OnlyReads}
use Rattle.script_engine.specs.Committing.{CommitsWork, CountsPages, HasSoundRoot}
use Rattle.script_engine.proofs.BreakingLemmas.{reads_then}
use Rattle.script_engine.proofs.RootLemmas.{some_page, states_count}

-- ---- page 0

-- what leaves the log brings no page
pub brings_same : {S : Type 0} (g : Ghosts S) (Kind : ℕ → Type 0) (old new : S) → (g.state new).fetched ≡ (g.state old).fetched → BringsOnly g Kind old new
brings_same g Kind old new same = only_same same

-- looking at page 0 brings it alone
pub brings_root : {S : Type 0} {g : Ghosts S} {old new : S} → Fetches 0 (g.state old) (g.state new) → BringsOnly g (OnlyPage 0) old new
brings_root fetches = only_once (once_fetch (Ok tt) 0 fetches tt)

module _ {S : Type 0} (g : Ghosts S) where
  -- there is no page
  pub no_pages : (s : S) → length (g.state s).work ≡ 0 → CountsPages g (Ok false) s s
  no_pages s none = record {
    reads = record { steady = steady_none; work = refl; marked = refl; brings = only_none };
    brings = only_none;
    counted = λ is. absurd (cc);
    miscounted = λ is root. some_page root.shape (g.state s).work root.sound none;
    device = counts_fault_none (λ is. absurd (cc));
    whole = λ damage is. absurd (cc);
  }

  -- page 0 was read
  module _ (old new : S) (count stated : ℕ) (bytes : List ℕ) (fetches : Fetches 0 (g.state old) (g.state new))
      (disk : CountsFault (IsErrOf {T = Unit {0}} (Ok tt) page.Device) (g.disk_faults old) (g.disk_faults new)) (say : g.say_faults new ≡ g.say_faults old)
      (time : OverTime g.clock g.left (OnlyBase (g.state old)) old new) (is_count : count ≡ length (g.state old).work) (hand : (g.state new).hand ≡ Some bytes) (is_stated : stated ≡ stated_in bytes) where
    reads_root : OnlyReads g old new
    reads_root = record { steady = (works_fetch (Ok tt) 0 fetches tt disk.later say time).steady; work = ap (λ s. s.work) fetches.2; marked = ap (λ s. s.marked) fetches.2; brings = only_wider (brings_root fetches) (λ p zero. tt) }

    -- its bytes are those of the page at hand
    is_read : IsTrue (g.state old).is_told → bytes ≡ page_at (g.state old).work 0
    is_read told =
        let read : fetches.0 ≡ page_at (g.state old).work 0 = fetches.1 told in
        let found : bytes ≡ fetches.0 = same_Some bytes fetches.0 (sym hand ∙ ap (λ s. s.hand) fetches.2) in
        found ∙ read

    -- it states another count
    pub miscounted : count < 2 ^ 32 → (stated ≡ count → ⊥) → CountsPages g (Ok false) old new
    miscounted few differ = record {
      reads = reads_root;
      brings = brings_root fetches;
      counted = λ is. absurd (cc);
      miscounted = λ is root.
          let says = states_count root.shape (g.state old).work root.sound (omega (arith, is_count, few)) in
          differ (is_stated ∙ (ap stated_in (is_read root.told) ∙ (says ∙ sym is_count)));
      device = counts_fault_as (λ is. absurd (cc)) (λ is. absurd (cc)) disk;
      whole = λ damage is. absurd (cc);
    }

    -- it states how many pages there are
    pub counted : stated ≡ count → CountsPages g (Ok true) old new
    counted is = record {
      reads = reads_root;
      brings = brings_root fetches;
      counted = λ of told. sym (ap stated_in (is_read told)) ∙ (sym is_stated ∙ (is ∙ is_count));
      miscounted = λ of. absurd (cc);
      device = counts_fault_as (λ is. absurd (cc)) (λ is. absurd (cc)) disk;
      whole = λ damage is. absurd (cc);
    }

-- ---- a commit

module _ {S : Type 0} (g : Ghosts S) where
  -- a root page that is sound stays so where pages are read alone
  root_along : (old new : S) → OnlyReads g old new → HasSoundRoot g old → HasSoundRoot g new
  root_along old new reads root = record {
    told = subst IsTrue (sym reads.steady.is_told) root.told;
    shape = root.shape;
    sound = subst (λ (pages : PageList). IsRootSound root.shape pages) (sym reads.work) root.sound;
  }

  -- pages were read alone, and a stop came
  commits_none : (stop : StoreFault) (old new : S) → OnlyReads g old new → CountsFault (IsErrOf {T = Unit {0}} (Err stop) Device) (g.disk_faults old) (g.disk_faults new)
      → ((damage : Damage) → stop ≡ Damaged damage → HasSoundRoot g old → ⊥) → (HasSoundRoot g old → BringsOnly g (OnlyPage 0) old new)
      → CommitsWork {X = Unit {0}} g (Err stop) old new
  commits_none stop old new reads device damaged sound = record {
    work = reads.work;
    brings = tt;
    sound = sound;
    log = reads.brings;
    base = tt;
    either = inl reads.steady.base;
    kept = λ other. reads.steady.base;
    unmarked = tt;
    going = λ other. reads.steady.ended;
    is_told = reads.steady.is_told;
    told = reads.steady.told;
    beside = reads.steady.beside;
    device = device;
    say_faults = reads.steady.say_faults;
    damaged = λ damage is. damaged damage (cc);
    halts = λ damage is. reads;
    time = base_or_now-steady reads.steady;
  }

  -- the count couldn't be read
  pub commits_unread : (result : Result (Unit {0}) StoreFault) (stop : StoreFault) (old new : S) → IsErrAnd result (λ e. e ≡ stop) → CountsPages g (Err stop) old new → CommitsWork g result old new
  commits_unread (Ok x) stop old new is counts = absurd is
  commits_unread (Err e) stop old new is counts = subst (λ (x : StoreFault). CommitsWork {X = Unit {0}} g (Err x) old new) (sym is)
      (commits_none stop old new counts.reads (counts_fault_as (λ r. cc) (λ r. cc) counts.device) (λ damage r. absurd (counts.whole damage (cc))) (λ root. counts.brings))

  -- it wasn't that of the pages, and they were judged then
  module _ (shape : Shape) (stop : StoreFault) (old mid new : S) (counts : CountsPages g (Ok false) old mid) (judges : JudgesDamage g shape stop mid new) where
    pub commits_judged : CommitsWork {X = Unit {0}} g (Err stop) old new
    commits_judged = commits_none stop old new (reads_then g counts.reads judges.reads)
        (counts_fault_as (λ is. cc) (λ is. cc) (counts_fault_then (counts.device.still (λ is. absurd (cc))) judges.device)) (λ damage is. counts.miscounted refl) (λ root. absurd (counts.miscounted refl root))

    pub exact_judged : NamesExactly {X = Unit {0}} g shape (Err stop) new
    exact_judged damage is = judges.exact damage (cc) (λ told sound. counts.miscounted refl (record {
      told = subst IsTrue ((reads_then g counts.reads judges.reads).steady.is_told) told;
      shape = shape;
      sound = subst (λ (pages : PageList). IsRootSound shape pages) ((reads_then g counts.reads judges.reads).work) sound.1.first.rule1;
    }))

  -- it was, and the pages were committed
  pub commits_behind : (result : Result (Unit {0}) StoreFault) (old mid new : S) → CountsPages g (Ok true) old mid → CommitsWork g result mid new → CommitsWork g result old new
  commits_behind result old mid new counts commits =
      let reads = counts.reads in
      let steady = reads.steady in
      record {
        work = commits.work ∙ reads.work;
        brings = brings_both result commits.brings;
        sound = λ root. only_then counts.brings (commits.sound (root_along old mid reads root));
        log = only_then reads.brings commits.log;
        base = base_both result commits.base;
        either = elim commits.either [ inl same ↦ inl (same ∙ steady.base) | inr work ↦ inr (work ∙ reads.work) ];
        kept = kept_both result commits.kept;
        unmarked = commits.unmarked;
        going = λ other. commits.going other ∙ steady.ended;
        is_told = commits.is_told ∙ steady.is_told;
        told = commits.told ∙ steady.told;
        beside = commits.beside ∙ steady.beside;
        device = counts_fault_then (counts.device.still (λ is. absurd (cc))) commits.device;
        say_faults = commits.say_faults ∙ steady.say_faults;
        damaged = λ damage is root. commits.damaged damage is (root_along old mid reads root);
        halts = λ damage is. reads_then g reads (commits.halts damage is);
        time = over_time_then (over_time_wider steady.time (λ left told only. (inl only.0, only.1)))
            (over_time_wider commits.time (λ left told either. (
              elim either.0 [ inl base ↦ inl (base ∙ ap Some steady.base) | inr work ↦ inr work ],
              subst (λ o. IfSome o (λ bytes. told ≡ bytes)) steady.told either.1,
            )));
      }
    where
      brings_both : (result : Result (Unit {0}) StoreFault) → OnOk result (BringsOnly g (OnlyPage 0) mid new) → OnOk result (BringsOnly g (OnlyPage 0) old new)
      brings_both (Ok x) then = only_then counts.brings then
      brings_both (Err e) then = tt

      base_both : (result : Result (Unit {0}) StoreFault) → OnOk result ((g.state new).base ≡ (g.state mid).work) → OnOk result ((g.state new).base ≡ (g.state old).work)
      base_both (Ok x) is = is ∙ counts.reads.work
      base_both (Err e) is = tt

      kept_both : (result : Result (Unit {0}) StoreFault) → OnErr result ((IsErrOf result Device → ⊥) → (g.state new).base ≡ (g.state mid).base)
          → OnErr result ((IsErrOf result Device → ⊥) → (g.state new).base ≡ (g.state old).base)
      kept_both (Ok x) kept = tt
      kept_both (Err e) kept = λ other. kept other ∙ counts.reads.steady.base
