-- An empty database: what a file that was made stands for.
use Rattle.std.specs.Prelude.{◌≡◌, ℕ, ◌+◌, List, ◌∷◌, replicate}
use Rattle.store_api.specs.StoreState.{zero_page}
use Rattle.store_api.specs.Extents.{map_pages}
use Rattle.page_store.specs.Fresh.{root_page}
use Rattle.page_store.specs.Standing.{IsFormed, pages_in}
use Rattle.page_store.specs.Opening.{IsServed}

-- The file is formed and can be served, and its pages are the root page and zeros for all others.
pub record IsEmptyDatabase (extents : ℕ) (file : List ℕ) : Type 0 where
  pub formed : IsFormed file
  pub served : IsServed file
  pub pages : pages_in file ≡ root_page extents ∷ replicate (16 + map_pages extents) zero_page
