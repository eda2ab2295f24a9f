-- What the parts of a journal tear.
use Rattle.std.proofs.Common.{◌≡◌, ◌≤◌, ◌+◌, ◌-◌, ◌*◌, ℕ, Bool, List, length, Option, Some, inl, inr, arith, ap, refl, ⊎_elim}
use Rattle.std.specs.Option.{ForSome}
use Rattle.mdc_outside.specs.Disk.{File, Since, torn}
use Rattle.mdc_outside.specs.Moments.{Beside}
use Rattle.page_file.specs.Layout.{IsReady}
use Rattle.redo_journal.specs.Layout.{index_pages, torn_journal}
use Rattle.page_file.specs.Runs.{Runs, IsCovered}
use Rattle.page_file.proofs.CoverLemmas.{covers_torn}
use Rattle.page_file.proofs.RunsLemmas.{runs_then_covered}
use Rattle.page_file.specs.declared.layout.TheConstants.{HEADER, HEADER_BYTES}

-- what a journal tears covers what was torn before
pub journal_covers : (start n : ℕ) (since : Since) → IsCovered (torn_journal start n since) since
journal_covers start n since = record { synced = refl; longest = omega arith; outside = λ i lt none. none.1.1 }

module _ {D : Type 0} {file : D → Option File} {aside : D → Beside} {attaches : D → Option (List (List ℕ × Bool))} {is_attached : D → Bool} {clock : D → ℕ} {moment : D → ℕ → List ℕ → List ℕ → Type 0} where
  -- zeros up to the journal
  pub runs_zeros : (start n end to : ℕ) {old middle new : D} → ForSome (file old) IsReady → ((before : File) → file old ≡ Some before → end ≡ length before.bytes) → to ≡ 4096 * start
      → Runs file aside attaches is_attached clock moment IsCovered (torn_journal start n) old middle
      → Runs file aside attaches is_attached clock moment IsCovered (torn end (to - end)) middle new
      → Runs file aside attaches is_attached clock moment IsCovered (torn_journal start n) old new
  runs_zeros start n end to ready ends is first second = runs_then_covered first second (λ before half is_before is_half covered.
      let size : end ≡ length before.bytes = ends before is_before in
      let synced : length before.since.synced ≡ length before.bytes = ap (λ s. length s.synced) (ready before is_before).synced in
      let longest : before.since.longest ≡ length before.bytes = ap (λ s. s.longest) (ready before is_before).synced in
      covers_torn (torn_journal start n before.since) half.since end (to - end) covered (omega arith) (λ i lt none. inl (omega arith)))

  -- a part of the journal
  pub runs_journal : (start n at count : ℕ) {old middle new : D} → 4096 * start ≤ at → at + count ≤ 4096 * start + 4096 * (index_pages n + n)
      → Runs file aside attaches is_attached clock moment IsCovered (torn_journal start n) old middle
      → Runs file aside attaches is_attached clock moment IsCovered (torn at count) middle new
      → Runs file aside attaches is_attached clock moment IsCovered (torn_journal start n) old new
  runs_journal start n at count low high first second = runs_then_covered first second (λ before half is_before is_half covered.
      covers_torn (torn_journal start n before.since) half.since at count covered (omega arith)
      (λ i lt none. ⊎_elim (λ front. inl (omega arith)) (λ behind. inr (omega arith)) none.0))

  -- the start and the number
  pub runs_header : (start n : ℕ) {old middle new : D}
      → Runs file aside attaches is_attached clock moment IsCovered (torn_journal start n) old middle
      → Runs file aside attaches is_attached clock moment IsCovered (torn HEADER HEADER_BYTES) middle new
      → Runs file aside attaches is_attached clock moment IsCovered (torn_journal start n) old new
  runs_header start n first second = runs_then_covered first second (λ before half is_before is_half covered.
      covers_torn (torn_journal start n before.since) half.since 1024 8 covered (omega arith) (λ i lt none. none.1.0))
