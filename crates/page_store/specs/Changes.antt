-- What has changed of the pages of a store since its last commit.
pub use Rattle.dirty_pages.specs.Changes.{Overlay, Changed, unchanged, changed_in, nothing}
use Rattle.std.specs.Prelude.{◌≡◌, ◌<◌, ℕ, List, [], ◌∷◌, Option, Some, None, slice_index_or, nat_le, if◌then◌else◌}
use Rattle.std.specs.Option.{option_or}
use Rattle.std.specs.List.{All}
use Rattle.store_api.specs.StoreState.{zero_page}
use Rattle.redo_journal.specs.Images.{Numbered}
use Rattle.page_store.specs.Standing.{image_of}

-- pages with changes laid over them. A page behind the last one has zeros.
abbrev pub laid_over : Overlay → List (List ℕ) → List (List ℕ)
laid_over [] pages = []
laid_over (None ∷ changes) [] = zero_page ∷ laid_over changes []
laid_over (None ∷ changes) (page ∷ pages) = page ∷ laid_over changes pages
laid_over (Some page ∷ changes) [] = page ∷ laid_over changes []
laid_over (Some page ∷ changes) (old ∷ pages) = page ∷ laid_over changes pages

-- what is to be written for page p over a base of so many pages: its change, or else zeros where it was grown
abbrev pub image_in : ℕ → Overlay → ℕ → Option (List ℕ)
image_in base now p = option_or (slice_index_or now p None) (if nat_le base p then Some zero_page else None)

-- Images of the pages below a number, and of these alone: the image of each page is what f gives for it.
pub record HoldsBelow (n : ℕ) (f : ℕ → Option (List ℕ)) (images : Numbered) : Type 0 where
  pub below : All (λ image. image.0 < n) images
  pub found : (p : ℕ) → p < n → image_of images p ≡ f p
