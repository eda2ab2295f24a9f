-- The pages of a database that was just made (docs/FORMAT.md, "Making").
use Rattle.std.specs.Prelude.{ℕ, ◌+◌, ◌∷◌, replicate}
use Rattle.store_api.specs.Extents.{map_pages}
use Rattle.store_api.specs.StoreState.{zero_page}
use Rattle.table_trees.specs.ToldPages.{PageList}
use Rattle.page_store.specs.Fresh.{root_page}

-- the root page, and zeros for the table pages and the extent map
abbrev pub made_pages : ℕ → PageList
made_pages extents = root_page extents ∷ replicate (16 + map_pages extents) zero_page
