-- How far a commit makes a file reach.
use Rattle.std.proofs.Common.{◌≡◌, ◌≤◌, ◌+◌, ◌*◌, ℕ, Bool, List, length, max, Option, Some, arith, sym, subst}
use Rattle.std.specs.Option.{ForSome}
use Rattle.mdc_outside.specs.Disk.{File, IsImage, all_synced, torn}
use Rattle.mdc_outside.specs.Moments.{Beside}
use Rattle.page_file.specs.Layout.{IsReady}
use Rattle.page_file.specs.Leaving.{Leaves}
use Rattle.page_file.specs.Runs.{Runs, IsWithin}
use Rattle.page_file.proofs.LeavesLemmas.{runs_leave, leaves_then}
use Rattle.redo_journal.specs.Images.{Numbered}
use Rattle.redo_journal.specs.Layout.{HoldsJournal, index_pages, journal_of, torn_home, torn_journal}
use Rattle.page_store.specs.Commit.{IsCounting, NoLonger, ReachesTo}
use Rattle.page_store.specs.Standing.{IsFormed, count_of}
use Rattle.page_store.proofs.Kept.{home_left}
use Rattle.page_file.specs.declared.layout.TheConstants.{GATE}

-- a journal that is torn ends no later than it would whole
journal_reach : (start n : ℕ) (bytes image : List ℕ) → 66 ≤ start → IsImage (torn_journal start n (all_synced bytes)) image
    → length image ≤ max (length bytes) (4096 * (start + index_pages n + n))
journal_reach start n bytes image behind left = omega (arith, left.no_longer)

-- a file that holds its journal can have its gate opened
pub ready_to_open : (told : Option File) (start : ℕ) (images : Numbered) → 66 ≤ start → ForSome told (HoldsJournal start images) → ForSome told IsReady
ready_to_open told start images behind holds half is = record { long = omega (arith, behind, (holds half is).within); synced = (holds half is).settled }

module _ {D : Type 0} {file : D → Option File} {aside : D → Beside} {attaches : D → Option (List (List ℕ × Bool))} {is_attached : D → Bool} {clock : D → ℕ} {moment : D → ℕ → List ℕ → List ℕ → Type 0} where
  -- while a journal is written
  pub journal_reaches : (start n : ℕ) {old new : D} → ((f : File) → file new ≡ Some f → IsImage f.since f.bytes) → 66 ≤ start → ForSome (file old) (λ f. f.since ≡ all_synced f.bytes)
      → Runs file aside attaches is_attached clock moment IsWithin (torn_journal start n) old new
      → Leaves file aside attaches is_attached clock moment (ReachesTo start n) old new
  journal_reaches start n as_read behind synced run = runs_leave run as_read (λ before image is left.
      journal_reach start n before.bytes image behind (subst (λ since. IsImage (torn_journal start n since) image) (synced before is) left))

  -- while the gate is set
  pub gate_reaches : {old new : D} → ((f : File) → file new ≡ Some f → IsImage f.since f.bytes) → ForSome (file old) IsReady
      → Runs file aside attaches is_attached clock moment IsWithin (torn GATE 1) old new
      → Leaves file aside attaches is_attached clock moment NoLonger old new
  gate_reaches as_read ready run = runs_leave run as_read (λ before image is left.
      let torn_gate : IsImage (torn GATE 1 (all_synced before.bytes)) image = subst (λ since. IsImage (torn GATE 1 since) image) (ready before is).synced left in
      omega (arith, torn_gate.no_longer, (ready before is).long))

  -- while the images are written home
  pub home_reaches : (images : Numbered) {old new : D} → ((f : File) → file new ≡ Some f → IsImage f.since f.bytes)
      → ForSome (file old) (IsCounting images) → ForSome (file old) (λ f. IsFormed f.bytes)
      → Runs file aside attaches is_attached clock moment IsWithin (torn_home images) old new
      → Leaves file aside attaches is_attached clock moment NoLonger old new
  home_reaches images as_read counts formed run = runs_leave run as_read (λ before image is left.
      let counting = counts before is in
      let at_first : IsImage (torn_home images (all_synced before.bytes)) image = subst (λ since. IsImage (torn_home images since) image) counting.synced left in
      let torn_images : IsImage (torn_home (journal_of before.bytes) (all_synced before.bytes)) image = subst (λ xs. IsImage (torn_home xs (all_synced before.bytes)) image) (sym counting.journal) at_first in
      let kept = home_left before.bytes image (journal_of before.bytes) (count_of before.bytes) ((formed before is).journal counting.gate).named (formed before is).whole torn_images in
      omega (arith, kept.0))

  -- one run after another that makes the file no longer
  pub reaches_then : (start n : ℕ) {old middle new : D} → Leaves file aside attaches is_attached clock moment (ReachesTo start n) old middle
      → Leaves file aside attaches is_attached clock moment NoLonger middle new
      → Leaves file aside attaches is_attached clock moment (ReachesTo start n) old new
  reaches_then start n first second = leaves_then first second (λ before image is reached. reached) (λ before half image is is_half reached same. omega (arith, reached, same))

  pub no_longer_then : {old middle new : D} → Leaves file aside attaches is_attached clock moment NoLonger old middle
      → Leaves file aside attaches is_attached clock moment NoLonger middle new
      → Leaves file aside attaches is_attached clock moment NoLonger old new
  no_longer_then first second = leaves_then first second (λ before image is same. same) (λ before half image is is_half same again. omega (arith, same, again))
