-- Where the image of a page lies in images whose numbers rise.
use Rattle.std.specs.Prelude.{◌≡◌, ◌≤◌, ◌<◌, ℕ, List, Some, length, take, slice_get}
use Rattle.std.specs.List.{All}
use Rattle.redo_journal.specs.Images.{Numbered}

-- the image of page p lies there
abbrev pub IsThere : ℕ → ℕ → Numbered → Type 0
IsThere p at images = (page : List ℕ) × (slice_get images at ≡ Some (p, page))

-- there is none, and its number belongs there: those before are below it, and the one there, if any, is above it
pub record BelongsThere (p at : ℕ) (images : Numbered) : Type 0 where
  pub within : at ≤ length images
  pub below : All (λ image. image.0 < p) (take at images)
  pub above : (image : ℕ × List ℕ) → slice_get images at ≡ Some image → p < image.0
