-- The pages of the worked database with one byte changed, and what is read of them then.
use Rattle.std.specs.Prelude.{ℕ, slice_set}
use Rattle.store_api.specs.StoreState.{page_at}
use Rattle.table_trees.specs.ToldPages.{PageList}
use Rattle.sound_instances.specs.WorkedPages.{worked_pages}

-- another byte at a place of a page
abbrev pub with_byte : ℕ → ℕ → ℕ → PageList
with_byte p at byte = slice_set worked_pages p (slice_set (page_at worked_pages p) at byte)
