-- A run between `mark` and `undo`, and between `mark` and `keep`.
use Rattle.std.proofs.Common.{◌≡◌, ℕ, length, None, Option, unwrap_or, sym, ap, ◌∙◌, arith}
use Rattle.store_api.specs.Calls.{Marks, Undoes, Keeps}
use Rattle.store_api.specs.Works.{Steady}
use Rattle.store_api.specs.Frame.{NoPage}
use Rattle.store_api.specs.RunsOverPages.{RunsOverPages}
use Rattle.store_api.specs.declared.fault.Damage.{Damage}
use Rattle.store_api.specs.declared.fault.StoreFault.{StoreFault}
use Rattle.store_api.specs.declared.pages.Pages.{Ghosts}
use Rattle.store_api.proofs.WorksLemmas.{steady_then}
use Rattle.store_api.proofs.FrameLemmas.{touches_same, touches_as}
use Rattle.store_api.proofs.FetchingLemmas.{only_same, only_then}
use Rattle.store_api.proofs.CausesLemmas.{cause_none, cause_then, cause_before}

module _ {S : Type 0} {g : Ghosts S} where
  -- the work after `undo` is that before `mark`
  pub work_undone : {Mine Kind : ℕ → Type 0} {Breaks : Damage → Type 0} {fault : Option StoreFault} {old marked middle new : S} → Marks (g.state old) (g.state marked)
      → RunsOverPages g Mine Kind Breaks marked middle fault → Undoes (g.state middle) (g.state new) → (g.state new).work ≡ (g.state old).work
  work_undone {middle = middle} begun run undone =
      ap (λ s. s.work) undone ∙ ap (λ o. unwrap_or o (g.state middle).work) (run.works.marked ∙ ap (λ s. s.marked) begun)

  -- a run that is undone changes no page
  pub runs_undone : {Mine Kind : ℕ → Type 0} {Breaks : Damage → Type 0} {fault : Option StoreFault} (old marked middle new : S) → (g.state old).marked ≡ None
      → Marks (g.state old) (g.state marked) → g.disk_faults marked ≡ g.disk_faults old → Steady g old marked → RunsOverPages g Mine Kind Breaks marked middle fault
      → Undoes (g.state middle) (g.state new) → g.disk_faults new ≡ g.disk_faults middle → Steady g middle new → RunsOverPages g NoPage Kind Breaks old new fault
  runs_undone {Breaks = Breaks} old marked middle new unmarked begun count_begun before run undone count_undone after =
      let same = work_undone begun run undone in
      let steady = steady_then (steady_then before run.works.steady) after in
      record {
        works = record { steady = steady; marked = ap (λ s. s.marked) undone ∙ sym unmarked; no_shorter = omega (arith, ap length same) };
        touches = touches_same steady.is_told same;
        brings = only_then (only_then (only_same (ap (λ s. s.fetched) begun)) run.brings) (only_same (ap (λ s. s.fetched) undone));
        cause = cause_before (cause_then (cause_none {Breaks = Breaks} count_begun) run.cause (λ damage breaks. breaks)) count_undone;
      }

  -- a run that is kept
  pub runs_kept : {Mine Kind : ℕ → Type 0} {Breaks : Damage → Type 0} {fault : Option StoreFault} (old marked middle new : S) → (g.state old).marked ≡ None
      → Marks (g.state old) (g.state marked) → g.disk_faults marked ≡ g.disk_faults old → Steady g old marked → RunsOverPages g Mine Kind Breaks marked middle fault
      → Keeps (g.state middle) (g.state new) → g.disk_faults new ≡ g.disk_faults middle → Steady g middle new → RunsOverPages g Mine Kind Breaks old new fault
  runs_kept {Breaks = Breaks} old marked middle new unmarked begun count_begun before run kept count_kept after =
      let first = ap (λ s. s.work) begun in
      let last = ap (λ s. s.work) kept in
      record {
        works = record {
          steady = steady_then (steady_then before run.works.steady) after;
          marked = ap (λ s. s.marked) kept ∙ sym unmarked;
          no_shorter = omega (arith, ap length first, run.works.no_shorter, ap length last);
        };
        touches = touches_as (touches_as (touches_same {Mine = NoPage} before.is_told first) run.touches (λ p there none. absurd none) (λ p there mine. mine)) (touches_same {Mine = NoPage} after.is_told last) (λ p there mine. mine) (λ p there none. absurd none);
        brings = only_then (only_then (only_same (ap (λ s. s.fetched) begun)) run.brings) (only_same (ap (λ s. s.fetched) kept));
        cause = cause_before (cause_then (cause_none {Breaks = Breaks} count_begun) run.cause (λ damage breaks. breaks)) count_kept;
      }
