-- What a run of calls of a disk may have done to its file, and what a crash may leave of it at each moment of the run.
use Rattle.std.specs.Prelude.{◌≡◌, ◌<◌, ◌≤◌, ℕ, Bool, List, [], Option, Some, None, length}
use Rattle.mdc_words.specs.Time.{OverTime}
use Rattle.mdc_outside.specs.Disk.{File, Since, IsImage, IsInNone}
use Rattle.mdc_outside.specs.Moments.{Beside, IsMoment}

-- each image that a crash may leave by the second, it may leave by the first
abbrev pub IsWithin : Since → Since → Type 0
IsWithin allowed since = (image : List ℕ) → IsImage since image → IsImage allowed image

-- What was written by the second lies in what was written by the first, or behind the synced bytes.
pub record IsCovered (allowed since : Since) : Type 0 where
  pub synced : since.synced ≡ allowed.synced
  pub longest : since.longest ≤ allowed.longest
  pub outside : (i : ℕ) → i < length allowed.synced → IsInNone i allowed.ranges → IsInNone i since.ranges

-- A run of calls of a disk: where the file is told, it stays told, and what a crash may leave of it is within what is
-- allowed, at its end and, where the tape is told too, at each moment of it. All beside the file is as it was.
pub record Runs {D : Type 0} (file : D → Option File) (aside : D → Beside) (attaches : D → Option (List (List ℕ × Bool))) (is_attached : D → Bool) (clock : D → ℕ) (moment : D → ℕ → List ℕ → List ℕ → Type 0) (Within : Since → Since → Type 0) (allowed : Since → Since) (old new : D) : Type 0 where
  pub untold : file old ≡ None → file new ≡ None
  pub told : (before : File) → file old ≡ Some before → (after : File) × (file new ≡ Some after) × Within (allowed before.since) after.since
  pub crash : (before : File) (said : List ℕ) → file old ≡ Some before → (aside old).tape ≡ Some said → OverTime clock moment (IsMoment (allowed before.since) said []) old new
  pub later : clock old ≤ clock new
  pub attached : is_attached new ≡ is_attached old
  pub listed : attaches new ≡ attaches old
  pub beside : aside new ≡ aside old

-- a fact of the bytes before and after, where both are told
pub record Between (old new : Option File) (fact : List ℕ → List ℕ → Type 0) : Type 0 where
  pub holds : (before after : File) → old ≡ Some before → new ≡ Some after → fact before.bytes after.bytes
