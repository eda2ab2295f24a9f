-- What a loop of writes, each at the end of the one before, reached.
use Rattle.std.proofs.Common.{◌≤◌, ◌+◌, ℕ, Bool, List, length, Option}
use Rattle.std.specs.Option.{ForSome}
use Rattle.mdc_outside.specs.Disk.{File, Since}
use Rattle.mdc_outside.specs.Moments.{Beside}
use Rattle.page_file.specs.Runs.{Runs, Between}
use Rattle.page_file.proofs.BetweenLemmas.{now_holds}
use Rattle.redo_journal.specs.Pieces.{Replaces}
use Rattle.redo_journal.proofs.PiecesLemmas.{replaces_length}

module _ {D : Type 0} {file : D → Option File} {aside : D → Beside} {attaches : D → Option (List (List ℕ × Bool))} {is_attached : D → Bool} {clock : D → ℕ} {moment : D → ℕ → List ℕ → List ℕ → Type 0} where
  -- what was replaced from a place on is within the file
  pub piece_reaches : (at : ℕ) (piece : List ℕ) {Within : Since → Since → Type 0} {allowed : Since → Since} {old new : D}
      → Runs file aside attaches is_attached clock moment Within allowed old new
      → Between (file old) (file new) (Replaces at piece)
      → ForSome (file old) (λ f. at ≤ length f.bytes) → ForSome (file new) (λ f. at + length piece ≤ length f.bytes)
  piece_reaches at piece run replaced reach = now_holds (λ f. at ≤ length f.bytes) (λ f. at + length piece ≤ length f.bytes) run replaced reach
      (λ before after le was. replaces_length at piece before.bytes after.bytes le was)
