-- Gates that stand open behind one that doesn't, and how they are closed.
use Rattle.std.proofs.Common.{◌≡◌, ◌≤◌, ◌<◌, ◌+◌, ◌-◌, ℕ, suc, Bool, List, ◌++◌, Option, IfSome, Result, Ok, Err, OnOk, length, get_or, take, drop, replicate, min, arith, ap, sym, subst, ◌∙◌, inl, inr}
use Rattle.std.specs.Option.{option_map, ForSome}
use Rattle.std.proofs.lemmas.Bool.{cases_eq, cases_lt}
use Rattle.std.proofs.lemmas.Grind.{common_steps}
use Rattle.std.proofs.lemmas.List.{length-replicate, get_or_past}
use Rattle.mdc_outside.specs.Disk.{File, Since, IsImage, IsSound, all_synced, torn, written, settled, overwritten}
use Rattle.mdc_outside.specs.Moments.{Beside}
use Rattle.page_file.specs.Layout.{page_start}
use Rattle.page_file.specs.Leaving.{Leaves}
use Rattle.page_file.specs.Runs.{Runs, IsWithin}
use Rattle.page_file.proofs.BetweenLemmas.{mapped}
use Rattle.page_file.proofs.LeavesLemmas.{runs_leave, sound_image}
use Rattle.redo_log.specs.Checkpointing.{IsClosed, LeavesStrays}
use Rattle.redo_log.specs.Layout.{HasRecords}
use Rattle.redo_log.specs.Log.{BothFiles}
use Rattle.redo_log.proofs.Appends.{final_image}
use Rattle.redo_log.proofs.Leading.{zero_at}
use Rattle.redo_log.proofs.Steps.{outside, while_others_closed}

-- a byte within what was written
overwritten_in : (at i : ℕ) (piece bytes : List ℕ) → at ≤ length bytes → at ≤ i → i < at + length piece
    → get_or (take at bytes ++ piece ++ drop (at + length piece) bytes) i 0 ≡ get_or piece (i - at) 0
overwritten_in at i piece bytes within low high = grind (arith, common_steps)

-- a byte within zeros that were written
zeroed : (at n i : ℕ) (bytes : List ℕ) → at ≤ length bytes → at ≤ i → i < at + n → get_or (overwritten at (replicate n 0) bytes) i 0 ≡ 0
zeroed at n i bytes within low high =
    let zeros : List ℕ = replicate n 0 in
    let size : length (replicate {A = ℕ} n 0) ≡ n = length-replicate {A = ℕ} n 0 in
    overwritten_in at i (replicate n 0) bytes within low (omega (arith, size)) ∙ zero_at n (i - at)

-- where a write of gates ends that all lie in the file
whole_end : (n end : ℕ) (bytes : List ℕ) → end ≡ min (length bytes) 2080 → page_start 2 ≤ length bytes → end - (2049 + n) ≡ 31 - n
whole_end n end bytes ends long = omega arith

-- such a write ends within the file
pub end_within : (end : ℕ) (told : Option File) → ForSome told (λ f. end ≡ min (length f.bytes) 2080) → ForSome told (λ f. end ≤ length f.bytes)
end_within end told ends f is = omega (arith, ends f is)

-- an image of a file whose stray gates are torn
pub strays_torn : (n end : ℕ) (before : File) (image : List ℕ) → end ≡ min (length before.bytes) 2080 → 2049 + n ≤ end → HasRecords n before.bytes
    → IsImage (torn (2049 + n) (end - (2049 + n)) (all_synced before.bytes)) image → LeavesStrays n before image
strays_torn n end before image ends from has left =
    let size : length image ≡ length before.bytes = omega (arith, left.no_shorter, left.no_longer) in
    let below : (k : ℕ) → k ≤ n → get_or image (2048 + k) 0 ≡ get_or before.bytes (2048 + k) 0 = λ k le. left.kept (2048 + k) (omega arith) (inl (omega arith), tt) in
    record {
      only = record { size = size; same = λ i lt other. left.kept i lt (outside i (2049 + n) (end - (2049 + n)) (2049 + n) (31 - n) (omega arith) (omega arith) other, tt) };
      has = record {
        most = has.most;
        opened = λ k lt. below k (omega arith) ∙ has.opened k lt;
        stops = λ lt stays. has.stops lt (sym (below n (omega arith)) ∙ stays);
      };
      stands = λ formed. (while_others_closed n before.bytes image formed has (omega arith)
          (subst (λ (m : ℕ). IsImage (torn (2049 + n) m (all_synced before.bytes)) image) (whole_end n end before.bytes ends formed.long) left)).stands;
    }

module _ {D : Type 0} {file : D → Option File} {aside : D → Beside} {attaches : D → Option (List (List ℕ × Bool))} {is_attached : D → Bool} {clock : D → ℕ} {moment : D → ℕ → List ℕ → List ℕ → Type 0} where
  -- while they are closed
  pub strays_leave : (n end : ℕ) {old new : D} → ((disk : D) → IfSome (file disk) IsSound) → ForSome (file old) (λ f. f.since ≡ all_synced f.bytes) → ForSome (file old) (λ f. HasRecords n f.bytes)
      → ForSome (file old) (λ f. end ≡ min (length f.bytes) 2080) → 2049 + n ≤ end
      → Runs file aside attaches is_attached clock moment IsWithin (torn (2049 + n) (end - (2049 + n))) old new
      → Leaves file aside attaches is_attached clock moment (LeavesStrays n) old new
  strays_leave n end {old} {new} sound synced has ends from run = runs_leave run (λ after is. sound_image (file new) after (sound new) is)
      (λ before image is left.
      strays_torn n end before image (ends before is) from (has before is) (subst (λ (s : Since). IsImage (torn (2049 + n) (end - (2049 + n)) s) image) (synced before is) left))

  -- once they are closed
  pub strays_closed : {T E : Type 0} (result : Result T E) (n end : ℕ) {old new : D} → ((disk : D) → IfSome (file disk) IsSound) → ForSome (file old) (λ f. f.since ≡ all_synced f.bytes)
      → ForSome (file old) (λ f. HasRecords n f.bytes) → ForSome (file old) (λ f. end ≡ min (length f.bytes) 2080) → 2049 + n ≤ end
      → Runs file aside attaches is_attached clock moment IsWithin (torn (2049 + n) (end - (2049 + n))) old new
      → OnOk result (file new ≡ option_map (λ f. settled (written (2049 + n) (replicate (end - (2049 + n)) 0) f)) (file old))
      → OnOk result (BothFiles (file old) (file new) (IsClosed n))
  strays_closed (Ok done) n end {old} {new} sound synced has ends from run closed = record {
    holds = λ before after is is_after.
        let end_is : end ≡ min (length before.bytes) 2080 = ends before is in
        let left : IsImage (torn (2049 + n) (end - (2049 + n)) (all_synced before.bytes)) after.bytes =
        subst (λ (s : Since). IsImage (torn (2049 + n) (end - (2049 + n)) s) after.bytes) (synced before is) (final_image (torn (2049 + n) (end - (2049 + n))) sound run is is_after) in
        let by = strays_torn n end before after.bytes end_is from (has before is) left in
        let now : after ≡ settled (written (2049 + n) (replicate (end - (2049 + n)) 0) before) =
        mapped (λ f. settled (written (2049 + n) (replicate (end - (2049 + n)) 0) f)) (file old) (file new) before after closed is is_after in
        let bytes : after.bytes ≡ overwritten (2049 + n) (replicate (end - (2049 + n)) 0) before.bytes = ap (λ f. f.bytes) now in
        let zero_there : (k : ℕ) → suc n ≤ k → k < 32 → get_or after.bytes (2048 + k) 0 ≡ 0 = λ k above lt. elim (cases_lt (2048 + k) end) [
          | inl there ↦ ap (λ xs. get_or xs (2048 + k) 0) bytes ∙ zeroed (2049 + n) (end - (2049 + n)) (2048 + k) before.bytes (omega arith) (omega arith) (omega arith)
          | inr past ↦ get_or_past after.bytes (2048 + k) 0 (omega (arith, by.only.size))
        ] in
        record {
          settled = record {
            synced = ap (λ f. f.since) now ∙ ap (λ xs. all_synced xs) (sym bytes);
            none = record {
              shut = λ k above lt stays. elim (cases_eq k n) [
                | inl same ↦ by.has.stops (omega arith) (subst (λ (m : ℕ). get_or after.bytes (2048 + m) 0 ≡ 79) same stays)
                | inr other ↦ let zero_so = zero_there k (omega arith) lt in omega arith
              ];
            };
            left = by;
          };
          closed = record { zero = zero_there };
        };
  }
  strays_closed (Err e) n end {old} {new} sound synced has ends from run closed = closed
