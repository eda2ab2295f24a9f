-- Space that is given back, and none that is taken.
use Rattle.std.specs.Prelude.{◌≡◌, ℕ, List, length}
use Rattle.store_api.specs.StoreState.{page_at}
use Rattle.store_api.specs.declared.shape.Shape.{Shape}
use Rattle.extent_map.specs.Map.{HoldsMap}
use Rattle.extent_map.specs.Owners.{IsUsedPage, owner_of}
use Rattle.extent_map.specs.declared.kind.Kind.{Kind}
use Rattle.extent_map.specs.declared.kind.Kind.TheVariants.{Free, Block}
use Rattle.table_trees.specs.ToldPages.{PageList, told_pages}

-- Index pages and extents were given back and none was taken: a page that is used was used, with these bytes; what was free is free, and
-- what is a block was a block of that table. The file is as long as it was.
pub record OnlyGivesBack (shape : Shape) (old new : PageList) : Type 0 where
  pub owners : List Kind
  pub owners_now : List Kind
  pub held : HoldsMap told_pages shape old owners
  pub held_now : HoldsMap told_pages shape new owners_now
  pub used : (p : ℕ) → IsUsedPage shape owners_now p → IsUsedPage shape owners p × (page_at new p ≡ page_at old p)
  pub free : (e : ℕ) → owner_of owners e ≡ Free → owner_of owners_now e ≡ Free
  pub blocks : (e t : ℕ) → owner_of owners_now e ≡ Block t → owner_of owners e ≡ Block t
  pub count : length new ≡ length old
