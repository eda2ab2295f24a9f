-- What a replay finds in a file, and what it leaves of it.
use Rattle.std.specs.Prelude.{◌≡◌, ◌≤◌, ◌++◌, ℕ, List, length}
use Rattle.mdc_outside.specs.Disk.{File}
use Rattle.page_file.specs.Layout.{page_start}
use Rattle.page_file.specs.declared.layout.TheConstants.{FIRST_PAGE}
use Rattle.redo_journal.specs.Images.{Numbered, AreRising}
use Rattle.redo_log.specs.declared.log.RedoLog.{RedoLog}
use Rattle.redo_log.specs.Checkpointing.{AreOverlay, HasClosed, LeavesClosing}
use Rattle.redo_log.specs.Layout.{end_at, log_end, record_at, records_in, start_at, AreLaid}
use Rattle.redo_log.specs.Log.{IsLogOf, end_page_of, records_of}
use Rattle.redo_log.specs.Standing.{image_of, IsFormed}

-- record k lies from a file page on, within the log and within the file, and its numbers rise
pub record IsPlaced (low k : ℕ) (file : List ℕ) : Type 0 where
  pub behind : low ≤ start_at k file
  pub in_log : end_at k file ≤ FIRST_PAGE
  pub in_file : page_start (end_at k file) ≤ length file
  pub rising : AreRising (record_at k file)

-- the images are laid over an overlay: of each page its image among them, or else the old one
abbrev pub LaysOver : Numbered → Numbered → Numbered → Type 0
LaysOver images old new = (p : ℕ) → image_of new p ≡ image_of (images ++ old) p

-- The log of a file and its overlay were found: the records that count are laid as they should be, and end there, and the
-- overlay has of each page the newest image of theirs. No other gate is open any more. Where the file is formed, this is its log.
pub record FindsLog (log : RedoLog) (overlay : Numbered) (before after : File) : Type 0 where
  pub counts : records_in before.bytes ≡ records_of log
  pub ends : log_end (records_of log) before.bytes ≡ end_page_of log
  pub laid : AreLaid (records_of log) before.bytes
  pub overlay_is : AreOverlay (records_of log) before.bytes overlay
  pub closed : HasClosed (records_of log) before after
  pub log_of : IsFormed before.bytes → IsLogOf log after

-- an image while stray gates are closed behind the records that count
abbrev pub LeavesLog : File → List ℕ → Type 0
LeavesLog before image = LeavesClosing (records_in before.bytes) before image
