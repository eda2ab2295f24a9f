-- The clean pages of a store that are in memory: numbers with the bytes of the pages, the one that was used last first.
use Rattle.std.specs.Prelude.{◌≡◌, ◌<◌, ℕ, List, ◌∷◌, map, unwrap_or}
use Rattle.std.specs.List.{All}
use Rattle.redo_journal.specs.Images.{Numbered}
use Rattle.page_file.specs.Layout.{home_page}
use Rattle.page_store.specs.Standing.{image_of}

-- each page is the home page of its number in this file, which is below the count
abbrev pub AreHome : List ℕ → ℕ → Numbered → Type 0
AreHome file count = All (λ entry. (entry.0 < count) × (entry.1 ≡ home_page file entry.0))

-- each page in the place of its image, where it has one
abbrev pub renewed : Numbered → Numbered → Numbered
renewed images = map (λ entry. (entry.0, unwrap_or (image_of images entry.0) entry.1))

-- the first page is this one
abbrev pub Leads : ℕ → List ℕ → Numbered → Type 0
Leads p page entries = (rest : Numbered) × (entries ≡ (p, page) ∷ rest)
