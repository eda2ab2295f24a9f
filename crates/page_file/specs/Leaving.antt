-- What a crash may leave of a file at each moment of a run of calls: images of one kind alone.
use Rattle.std.specs.Prelude.{◌≡◌, ◌≤◌, ℕ, Bool, List, Option, Some, None}
use Rattle.mdc_words.specs.Time.{OverTime}
use Rattle.mdc_outside.specs.Disk.{File, IsImage}
use Rattle.mdc_outside.specs.Moments.{Beside}

-- an image of the kind, with these bytes said
abbrev pub LeavesImage : (List ℕ → Type 0) → List ℕ → List ℕ → List ℕ → Type 0
LeavesImage Kind said image tape = Kind image × (tape ≡ said)

-- A run of calls of a disk: where the file is told, it stays told, and a crash after the run leaves images of the kind
-- alone, of which what it reads is one; where the tape is told too, so does a crash at each moment of the run. All beside
-- the file is as it was.
pub record Leaves {D : Type 0} (file : D → Option File) (aside : D → Beside) (attaches : D → Option (List (List ℕ × Bool))) (is_attached : D → Bool) (clock : D → ℕ) (moment : D → ℕ → List ℕ → List ℕ → Type 0) (Kind : File → List ℕ → Type 0) (old new : D) : Type 0 where
  pub untold : file old ≡ None → file new ≡ None
  pub told : (before : File) → file old ≡ Some before → (after : File) × (file new ≡ Some after) × Kind before after.bytes
      × ((image : List ℕ) → IsImage after.since image → Kind before image)
  pub crash : (before : File) (said : List ℕ) → file old ≡ Some before → (aside old).tape ≡ Some said → OverTime clock moment (LeavesImage (Kind before) said) old new
  pub later : clock old ≤ clock new
  pub attached : is_attached new ≡ is_attached old
  pub listed : attaches new ≡ attaches old
  pub beside : aside new ≡ aside old
