-- What a checkpoint and the closing of stray gates make of a file, and what a crash leaves meanwhile.
use Rattle.std.specs.Prelude.{◌≡◌, ◌<◌, ◌≤◌, ℕ, suc, ◌+◌, ◌-◌, List, length, max, slice_index}
use Rattle.mdc_outside.specs.Disk.{File, IsOutside, all_synced}
use Rattle.page_file.specs.Layout.{home_start}
use Rattle.redo_journal.specs.Images.{Numbered}
use Rattle.redo_journal.specs.Layout.{is_open}
use Rattle.redo_log.specs.declared.layout.TheConstants.{LOG_GATES, GATE_COUNT}
use Rattle.redo_log.specs.Layout.{newest, AreClosedFrom, HasRecords, NoneFrom}
use Rattle.redo_log.specs.Log.{IsLogged}
use Rattle.redo_log.specs.Standing.{image_of, count_by, pages_by, IsFormedBy, Stands}

-- these images are those of the first n records, of each page the newest
abbrev pub AreOverlay : ℕ → List ℕ → Numbered → Type 0
AreOverlay n file images = (p : ℕ) → image_of images p ≡ image_of (newest n file) p

-- an image stands for what the file stood for
abbrev pub StandsStill : ℕ → File → List ℕ → Type 0
StandsStill n before image = Stands before.bytes (pages_by n before.bytes) image

-- No byte before the home pages was changed but the gates of the log. Nothing was cut off, and the image is no longer than the
-- file, or than its pages.
pub record OnlyHome (n : ℕ) (before : File) (image : List ℕ) : Type 0 where
  pub no_shorter : length before.bytes ≤ length image
  pub reach : length image ≤ max (length before.bytes) (home_start (count_by n before.bytes))
  pub same : (i : ℕ) → i < length before.bytes → i < home_start 0 → IsOutside i (record { at = LOG_GATES; count = GATE_COUNT }) → slice_index image i ≡ slice_index before.bytes i

-- No record counts any more, no gate is open, and the file stands for what it stood for by n records. Where there were some,
-- all gates were closed. The journal's gate is as it was.
pub record IsStill (n : ℕ) (before after : File) : Type 0 where
  pub logged : IsLogged 0 after
  pub stands : Stands before.bytes (pages_by n before.bytes) after.bytes
  pub closed : 0 < n → AreClosedFrom 0 after.bytes
  pub journal : is_open after.bytes ≡ is_open before.bytes

-- no byte was changed but the gates behind gate n
pub record OnlyStrays (n : ℕ) (bytes image : List ℕ) : Type 0 where
  pub size : length image ≡ length bytes
  pub same : (i : ℕ) → i < length bytes → IsOutside i (record { at = LOG_GATES + 1 + n; count = GATE_COUNT - 1 - n }) → slice_index image i ≡ slice_index bytes i

-- An image of a file of which n records count, while stray gates are closed: as many count, and where the file is formed the
-- image stands for what it stood for.
pub record LeavesStrays (n : ℕ) (before : File) (image : List ℕ) : Type 0 where
  pub only : OnlyStrays n before.bytes image
  pub has : HasRecords n image
  pub stands : IsFormedBy n before.bytes → Stands before.bytes (pages_by n before.bytes) image

-- n records count as before, all is on the disk, and no other gate is open
pub record IsSettled (n : ℕ) (before after : File) : Type 0 where
  pub synced : after.since ≡ all_synced after.bytes
  pub none : NoneFrom n after.bytes
  pub left : LeavesStrays n before after.bytes

-- so it is, and all gates behind gate n were closed
pub record IsClosed (n : ℕ) (before after : File) : Type 0 where
  pub settled : IsSettled n before after
  pub closed : AreClosedFrom (suc n) after.bytes

-- So it is, and where a gate from gate n on was open all behind gate n were closed. Where none was, the file is as it was.
pub record HasClosed (n : ℕ) (before after : File) : Type 0 where
  pub settled : IsSettled n before after
  pub still : NoneFrom n before.bytes → after ≡ before
  pub closed : ¬ NoneFrom n before.bytes → AreClosedFrom (suc n) after.bytes

-- an image while that is done: where no gate from gate n on is open, it is the file
pub record LeavesClosing (n : ℕ) (before : File) (image : List ℕ) : Type 0 where
  pub strays : LeavesStrays n before image
  pub still : NoneFrom n before.bytes → image ≡ before.bytes
