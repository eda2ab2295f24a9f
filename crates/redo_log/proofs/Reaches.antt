-- Which bytes a record and a checkpoint change, and how far they make a file reach.
use Rattle.std.proofs.Common.{◌≡◌, ◌≤◌, ◌<◌, ◌+◌, ℕ, Bool, List, [], ◌∷◌, length, max, Option, IfSome, arith, ap, sym, ◌∙◌, subst, get_or, inl, suc}
use Rattle.std.specs.Option.{ForSome}
use Rattle.std.specs.List.{All}
use Rattle.mdc_outside.specs.Disk.{File, Since, IsImage, IsOutside, IsSound, all_synced, torn}
use Rattle.mdc_outside.specs.Moments.{Beside}
use Rattle.page_file.specs.Layout.{IsReady, home_start}
use Rattle.page_file.specs.Leaving.{Leaves}
use Rattle.page_file.specs.Runs.{Runs, IsWithin}
use Rattle.page_file.proofs.LeavesLemmas.{runs_leave, leaves_then, sound_image}
use Rattle.redo_journal.specs.Images.{Numbered}
use Rattle.redo_journal.specs.Layout.{torn_home}
use Rattle.redo_log.specs.Appending.{OnlyRecord}
use Rattle.redo_log.specs.Checkpointing.{AreOverlay, LeavesStrays, OnlyHome}
use Rattle.redo_log.specs.Layout.{log_end, newest, torn_record}
use Rattle.redo_log.specs.Log.{IsLogged}
use Rattle.redo_log.specs.Standing.{count_by}
use Rattle.redo_log.proofs.Overlays.{newest_all, none_of_home, numbers_too, torn_home-synced}
use Rattle.redo_log.proofs.Steps.{outside, torn_gates}

-- an image is as long as the file, and has all bytes of it but those of gate k
pub record OnlyGate (k : ℕ) (before : File) (image : List ℕ) : Type 0 where
  pub size : length image ≡ length before.bytes
  pub same : (i : ℕ) → i < length before.bytes → IsOutside i (record { at = 2048 + k; count = 1 }) → get_or image i 0 ≡ get_or before.bytes i 0

-- home pages that are torn end with the pages of a store that has them all
home_reach : (images : Numbered) (since : Since) (count : ℕ) → All (λ image. image.0 < count) images → (torn_home images since).longest ≤ max since.longest (home_start count)
home_reach [] since count below = omega arith
home_reach (image ∷ images) since count below =
    omega (arith, below 0 image (omega arith), home_reach images (torn (home_start image.0) 4096 since) count (λ k d lt. below (suc k) d (omega arith)))

module _ {D : Type 0} {file : D → Option File} {aside : D → Beside} {attaches : D → Option (List (List ℕ × Bool))} {is_attached : D → Bool} {clock : D → ℕ} {moment : D → ℕ → List ℕ → List ℕ → Type 0} where
  -- while a gate is set
  pub gate_only : (k : ℕ) {old new : D} → ((disk : D) → IfSome (file disk) IsSound) → ForSome (file old) IsReady → k < 32
      → Runs file aside attaches is_attached clock moment IsWithin (torn (2048 + k) 1) old new
      → Leaves file aside attaches is_attached clock moment (OnlyGate k) old new
  gate_only k {old} {new} sound ready few run = runs_leave run (λ after is. sound_image (file new) after (sound new) is) (λ before image is left.
      let torn_so = torn_gates (2048 + k) 1 before.bytes image (ready before is).long (omega arith) (omega arith)
      (subst (λ (s : Since). IsImage (torn (2048 + k) 1 s) image) (ready before is).synced left) in
      record { size = torn_so.0.size; same = torn_so.1 })

  -- while a record is written
  pub record_only : (n end m : ℕ) {old new : D} → ((disk : D) → IfSome (file disk) IsSound) → ForSome (file old) IsReady → ForSome (file old) (λ f. log_end n f.bytes ≡ end) → n < 32
      → Runs file aside attaches is_attached clock moment IsWithin (torn_record n end m) old new
      → Leaves file aside attaches is_attached clock moment (OnlyRecord n m) old new
  record_only n end m {old} {new} sound ready ends few run = runs_leave run (λ after is. sound_image (file new) after (sound new) is) (λ before image is left.
      let torn_so : IsImage (torn_record n end m (all_synced before.bytes)) image = subst (λ (s : Since). IsImage (torn_record n end m s) image) (ready before is).synced left in
      let torn_there : IsImage (torn_record n (log_end n before.bytes) m (all_synced before.bytes)) image = subst (λ (e : ℕ). IsImage (torn_record n e m (all_synced before.bytes)) image) (sym (ends before is)) torn_so in
      record {
        no_shorter = torn_there.no_shorter;
        reach = omega (arith, torn_there.no_longer, (ready before is).long);
        same = λ i lt gate header pages. torn_there.kept i lt (pages, (header, tt));
      })

  -- and its gate is opened
  pub added_only : (n m : ℕ) {old middle new : D} → Leaves file aside attaches is_attached clock moment (OnlyRecord n m) old middle
      → Leaves file aside attaches is_attached clock moment (OnlyGate n) middle new
      → Leaves file aside attaches is_attached clock moment (OnlyRecord n m) old new
  added_only n m first second = leaves_then first second (λ before image is left. left) (λ before half image is is_half left more. record {
    no_shorter = omega (arith, left.no_shorter, more.size);
    reach = omega (arith, left.reach, more.size);
    same = λ i lt gate header pages. more.same i (omega (arith, left.no_shorter)) gate ∙ left.same i lt gate header pages;
  })

  -- while the overlay is written home
  pub home_only : (n : ℕ) (images : Numbered) {old new : D} → ((disk : D) → IfSome (file disk) IsSound) → ForSome (file old) (IsLogged n)
      → ForSome (file old) (λ f. AreOverlay n f.bytes images)
      → Runs file aside attaches is_attached clock moment IsWithin (torn_home images) old new
      → Leaves file aside attaches is_attached clock moment (OnlyHome n) old new
  home_only n images {old} {new} sound logged over run = runs_leave run (λ after is. sound_image (file new) after (sound new) is) (λ before image is left.
      let was = logged before is in
      let named = numbers_too (λ p. p < count_by n before.bytes) images (newest n before.bytes) (over before is) (newest_all (λ image. image.0 < count_by n before.bytes) n before.bytes was.formed.named) in
      let torn_so : IsImage (torn_home images (all_synced before.bytes)) image = subst (λ (s : Since). IsImage (torn_home images s) image) was.synced left in
      let synced : (torn_home images (all_synced before.bytes)).synced ≡ before.bytes = torn_home-synced images (all_synced before.bytes) in
      record {
        no_shorter = omega (arith, torn_so.no_shorter, ap length synced);
        reach = omega (arith, torn_so.no_longer, home_reach images (all_synced before.bytes) (count_by n before.bytes) named);
        same = λ i lt low other. torn_so.kept i (omega (arith, ap length synced)) (none_of_home i images (all_synced before.bytes) (λ k d less. inl (omega arith)) tt) ∙ ap (λ xs. get_or xs i 0) synced;
      })

  -- and a gate is closed behind that
  pub gate_closed_only : (n k : ℕ) {old middle new : D} → k < 32 → Leaves file aside attaches is_attached clock moment (OnlyHome n) old middle
      → Leaves file aside attaches is_attached clock moment (OnlyGate k) middle new
      → Leaves file aside attaches is_attached clock moment (OnlyHome n) old new
  gate_closed_only n k few first second = leaves_then first second (λ before image is left. left) (λ before half image is is_half left more. record {
    no_shorter = omega (arith, left.no_shorter, more.size);
    reach = omega (arith, left.reach, more.size);
    same = λ i lt low other. more.same i (omega (arith, left.no_shorter)) (outside i (2048 + k) 1 2048 32 (omega arith) (omega arith) other) ∙ left.same i lt low other;
  })

  -- and the gates behind the first
  pub strays_closed_only : (n : ℕ) {old middle new : D} → Leaves file aside attaches is_attached clock moment (OnlyHome n) old middle
      → Leaves file aside attaches is_attached clock moment (LeavesStrays 0) middle new
      → Leaves file aside attaches is_attached clock moment (OnlyHome n) old new
  strays_closed_only n first second = leaves_then first second (λ before image is left. left) (λ before half image is is_half left more. record {
    no_shorter = omega (arith, left.no_shorter, more.only.size);
    reach = omega (arith, left.reach, more.only.size);
    same = λ i lt low other. more.only.same i (omega (arith, left.no_shorter)) (outside i 2049 31 2048 32 (omega arith) (omega arith) other) ∙ left.same i lt low other;
  })
