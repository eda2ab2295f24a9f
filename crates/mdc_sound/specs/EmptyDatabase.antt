-- An instance: the empty database of 16 extents of 2 pages.
use Rattle.std.specs.Prelude.{◌∷◌, replicate, None, refl}
use Rattle.store_api.specs.StoreState.{zero_page}
use Rattle.store_api.specs.declared.shape.Shape.{Shape}
use Rattle.extent_map.specs.declared.kind.Kind.TheVariants.{Free}
use Rattle.table_trees.specs.ToldPages.{PageList}
use Rattle.mdc_sound.specs.SpaceRules.{DatabaseView, stated_root}

-- 16 extents of 2 pages
abbrev pub few_extents : Shape
few_extents = record { extents = 16; extent_pages = 2; within = refl }

-- the root page, 16 table pages and a page of the extent map
abbrev pub empty_pages : PageList
empty_pages = stated_root 18 ∷ replicate 17 zero_page

-- each extent is free, and there is no table
abbrev pub empty_view : DatabaseView
empty_view = record { owners = replicate 16 Free; places = replicate 16 None }
