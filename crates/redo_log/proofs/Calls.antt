-- The log of a file before and after a call.
use Rattle.std.proofs.Common.{◌≡◌, ◌+◌, ℕ, suc, add-one, Bool, List, get_or, length, Option, IfSome, arith, refl, sym, subst, ap, ◌∙◌}
use Rattle.std.specs.Option.{ForSome}
use Rattle.mdc_outside.specs.Disk.{File, Since, IsImage, IsSound}
use Rattle.mdc_outside.specs.Moments.{Beside}
use Rattle.page_file.specs.Leaving.{Leaves}
use Rattle.page_file.proofs.LeavesLemmas.{leaves_itself, sound_image, told_before}
use Rattle.redo_journal.specs.Images.{Numbered}
use Rattle.redo_log.specs.Appending.{IsAdded, OnlyRecord}
use Rattle.redo_log.specs.Checkpointing.{IsStill, OnlyHome, StandsStill}
use Rattle.redo_log.specs.declared.log.RedoLog.{RedoLog}
use Rattle.redo_log.specs.Layout.{log_end, need_of}
use Rattle.redo_log.specs.Log.{IsLogged, IsLogOf, BothFiles}
use Rattle.redo_log.proofs.Appends.{told_file}
use Rattle.redo_log.proofs.Homing.{logged_counts, only_itself, rests_still, stands_itself}

-- a file whose log this is has as many records
pub log_logged : (log : RedoLog) (n : ℕ) (told : Option File) → n ≡ log.gates → ForSome told (IsLogOf log) → ForSome told (IsLogged n)
log_logged log n told same is f there = subst (λ (m : ℕ). IsLogged m f) (sym same) (is f there).logged

-- and they end there
pub log_ends : (log : RedoLog) (n : ℕ) (told : Option File) → n ≡ log.gates → ForSome told (IsLogOf log) → ForSome told (λ f. log_end n f.bytes ≡ log.end)
log_ends log n told same is f there = ap (λ m. log_end m f.bytes) same ∙ (is f there).ends

-- where no record counts, a checkpoint has nothing to do
pub still_none : (log : RedoLog) (told : Option File) → log.gates ≡ 0 → ForSome told (IsLogOf log) → BothFiles told told (IsStill log.gates)
still_none log told none is = record {
  holds = λ before after there is_after.
      let one : after ≡ before = told_file {o = told} is_after there in
      let was = (is before there).logged in
      subst (λ (f : File). IsStill log.gates before f) (sym one) (record {
        logged = subst (λ (n : ℕ). IsLogged n before) none was;
        stands = stands_itself log.gates before.bytes was.formed was.has;
        closed = λ some. absurd (omega arith);
        journal = refl;
      });
}

module _ {D : Type 0} {file : D → Option File} {aside : D → Beside} {attaches : D → Option (List (List ℕ × Bool))} {is_attached : D → Bool} {clock : D → ℕ} {moment : D → ℕ → List ℕ → List ℕ → Type 0} where
  -- behind an append the log has one record more
  pub log_added : (old_log new_log : RedoLog) (n : ℕ) (images : Numbered) {Kind : File → List ℕ → Type 0} {old new : D} → Leaves file aside attaches is_attached clock moment Kind old new
      → BothFiles (file old) (file new) (IsAdded n images) → n ≡ old_log.gates → ForSome (file old) (IsLogOf old_log)
      → new_log.gates ≡ old_log.gates + 1 → new_log.end ≡ old_log.end + need_of (length images) → ForSome (file new) (IsLogOf new_log)
  log_added old_log new_log n images leaves added same is gates ends = λ f there.
      let before = told_before leaves f there in
      let now = added.holds before.0 f before.1 there in
      let one : new_log.gates ≡ suc n = gates ∙ (ap (λ m. m + 1) (sym same) ∙ add-one n) in
      let ended : log_end n before.0.bytes ≡ old_log.end = ap (λ m. log_end m before.0.bytes) same ∙ (is before.0 before.1).ends in
      record {
        logged = subst (λ (m : ℕ). IsLogged m f) (sym one) now.logged;
        ends = ap (λ m. log_end m f.bytes) one ∙ (now.ends ∙ (ap (λ e. e + need_of (length images)) ended ∙ sym ends));
      }

  -- behind a checkpoint it has none
  pub log_emptied : (n : ℕ) (log : RedoLog) {Kind : File → List ℕ → Type 0} {old new : D} → Leaves file aside attaches is_attached clock moment Kind old new
      → BothFiles (file old) (file new) (IsStill n) → log.gates ≡ 0 → log.end ≡ 2 → ForSome (file new) (IsLogOf log)
  log_emptied n log leaves emptied gates ends = λ f there.
      let before = told_before leaves f there in
      let now = emptied.holds before.0 f before.1 there in
      record { logged = subst (λ (m : ℕ). IsLogged m f) (sym gates) now.logged; ends = ap (λ m. log_end m f.bytes) gates ∙ sym ends }

  -- where nothing is called, a crash leaves what the file stands for
  pub still_stands : (n : ℕ) (disk : D) → ((disk : D) → IfSome (file disk) IsSound) → ForSome (file disk) (IsLogged n)
      → Leaves file aside attaches is_attached clock moment (StandsStill n) disk disk
  still_stands n disk sound logged = leaves_itself (λ before is. sound_image (file disk) before (sound disk) is)
      (λ before image is left. rests_still n before image (logged_counts n before (logged before is)) left)

  -- and no byte that is other
  pub still_home : (n : ℕ) (disk : D) → ((disk : D) → IfSome (file disk) IsSound) → ForSome (file disk) (IsLogged n)
      → Leaves file aside attaches is_attached clock moment (OnlyHome n) disk disk
  still_home n disk sound logged = leaves_itself (λ before is. sound_image (file disk) before (sound disk) is)
      (λ before image is left.
      let same : before.bytes ≡ image = only_itself before.bytes image (subst (λ (s : Since). IsImage s image) (logged before is).synced left) in
      record {
        no_shorter = omega (arith, ap length same);
        reach = omega (arith, ap length same);
        same = λ i lt low other. ap (λ xs. get_or xs i 0) (sym same);
      })

  -- the same of what a record changes
  pub still_only : (n m : ℕ) (disk : D) → ((disk : D) → IfSome (file disk) IsSound) → ForSome (file disk) (IsLogged n)
      → Leaves file aside attaches is_attached clock moment (OnlyRecord n m) disk disk
  still_only n m disk sound logged = leaves_itself (λ before is. sound_image (file disk) before (sound disk) is)
      (λ before image is left.
      let same : before.bytes ≡ image = only_itself before.bytes image (subst (λ (s : Since). IsImage s image) (logged before is).synced left) in
      record {
        no_shorter = omega (arith, ap length same);
        reach = omega (arith, ap length same);
        same = λ i lt gate header pages. ap (λ xs. get_or xs i 0) (sym same);
      })
