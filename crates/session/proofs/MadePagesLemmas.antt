-- The pages of a database that was just made keep all rules, whatever its extents, and show no table.
use Rattle.std.proofs.Common.{◌≡◌, ◌<◌, ◌+◌, ℕ, zero, suc, IsTrue, Option, None, length, replicate, refl, ap, sym, subst, ◌∙◌, arith}
use Rattle.std.specs.List.{AllZip, range_with_len}
use Rattle.std.proofs.lemmas.List.{get_or-replicate, length-replicate}
use Rattle.store_api.specs.Extents.{first_count, is_shape, map_pages}
use Rattle.store_api.specs.Frame.{HoldsPage}
use Rattle.store_api.specs.StoreState.{page_at, zero_page}
use Rattle.store_api.specs.declared.shape.Shape.{Shape}
use Rattle.extent_map.specs.Kinds.{is_used_place}
use Rattle.extent_map.specs.Map.{HoldsMap}
use Rattle.extent_map.specs.Owners.{IsUsedPage, extent_of, place_in_extent}
use Rattle.extent_map.specs.declared.kind.Kind.TheVariants.{Free}
use Rattle.extent_map.proofs.LawsOfTheMap.{fresh_map, owner_of-fresh}
use Rattle.table_trees.specs.ToldPages.{told_pages}
use Rattle.mdc_sound.specs.SoundDatabase.{IsSoundDatabase, KeepAllRules}
use Rattle.mdc_sound.specs.SpaceRules.{DatabaseView, IsRootSound, IsMapSound, AreTablePagesSound, IsTablePlaceSound, IsTreePageSound, IsOwnerThere, stated_root}
use Rattle.page_store.specs.Fresh.{root_page}
use Rattle.session.specs.file.MadePages.{made_pages}

-- what they show: each extent is free, and there is no table
abbrev made_view : Shape → DatabaseView
made_view shape = record { owners = replicate shape.extents Free; places = replicate 16 None }

-- there are as many pages as a new database has
length-made_pages : (extents : ℕ) → length (made_pages extents) ≡ first_count extents
length-made_pages extents = let many = length-replicate (16 + map_pages extents) zero_page in omega (arith, many)

-- the root page that is made is the one that its rule names
root_page-stated : (extents : ℕ) → root_page extents ≡ stated_root (first_count extents)
root_page-stated extents = refl

-- each page behind the root page has zeros alone
page_at-made_pages : (extents p : ℕ) → 0 < p → p < first_count extents → page_at (made_pages extents) p ≡ zero_page
page_at-made_pages extents zero behind within = absurd (omega (arith, behind))
page_at-made_pages extents (suc p) behind within = get_or-replicate (16 + map_pages extents) p zero_page _ (omega (arith, within))

root_sound : (shape : Shape) → IsRootSound shape (made_pages shape.extents)
root_sound shape = record {
  count = record { extents = 0; within = omega arith; count = omega (arith, length-made_pages shape.extents) };
  root = root_page-stated shape.extents ∙ ap stated_root (sym (length-made_pages shape.extents));
}

map_is_blank : (shape : Shape) (i : ℕ) → i < map_pages shape.extents → HoldsPage told_pages (made_pages shape.extents) (17 + i) zero_page
map_is_blank shape i low = record {
  is_told = refl;
  within = omega (arith, low, length-made_pages shape.extents);
  bytes_are = page_at-made_pages shape.extents (17 + i) (omega arith) (omega (arith, low));
}

map_held : (shape : Shape) → HoldsMap told_pages shape (made_pages shape.extents) (replicate shape.extents Free)
map_held shape = fresh_map shape (made_pages shape.extents) (map_is_blank shape)

map_sound : (shape : Shape) → IsMapSound shape (made_pages shape.extents) (replicate shape.extents Free)
map_sound shape = record {
  count = length-replicate shape.extents Free;
  each = λ i low. record {
    held = (map_held shape).pages i low;
    owned = λ e on. subst (λ kind. IsOwnerThere (made_pages shape.extents) kind) (sym (owner_of-fresh shape.extents e)) tt;
  };
}

-- what holds of each place with no table in it holds of them all
no_place_filled : {A : Type 0} (Holds : ℕ → Option A → Type 0) (first count : ℕ) → ((t : ℕ) → t < first + count → Holds t None)
    → AllZip Holds (range_with_len first count) (replicate count None)
no_place_filled Holds first zero each = tt
no_place_filled Holds first (suc count) each =
    (each first (omega arith), no_place_filled Holds (first + 1) count (λ t low. each t (omega (arith, low))))

tables_sound : (shape : Shape) → AreTablePagesSound shape (made_pages shape.extents) (made_view shape)
tables_sound shape = record {
  each = no_place_filled (IsTablePlaceSound shape (made_pages shape.extents) (made_view shape).owners) 0 16 (λ t low. page_at-made_pages shape.extents (1 + t) (omega arith) (omega (arith, low)));
  tables_differ = λ i j d low high. absurd (omega (arith, high));
  indexes_differ = λ i j d low high. absurd (omega (arith, high));
}

none_used : (shape : Shape) (p : ℕ) → IsUsedPage shape (replicate shape.extents Free) p → ⊥
none_used shape p used =
    let none : IsTrue (is_used_place (place_in_extent shape p) Free) =
    subst (λ kind. IsTrue (is_used_place (place_in_extent shape p) kind)) (owner_of-fresh shape.extents (extent_of shape p)) used.used in
    absurd (cc none)

tree_page_sound : (shape : Shape) (p : ℕ) → IsTreePageSound shape (made_view shape) p
tree_page_sound shape p = record { used = λ used. absurd (none_used shape p used); others = λ apart. refl }

made_pages-keep_all : (shape : Shape) → KeepAllRules shape (made_pages shape.extents) (made_view shape)
made_pages-keep_all shape = record {
  first = record {
    rule1 = root_sound shape;
    rule2 = map_sound shape;
    rule3 = tables_sound shape;
    rule4 = tt;
    rule5 = tree_page_sound shape;
    rule6 = tt;
    rule7 = tt;
    rule8 = record { used = tt; idle = tt };
    rule9 = tt;
    rule10 = tt;
  };
  rule11 = tt;
  rule12 = record { numbers = tt; unique = tt };
}

-- the pages that are made are sound
pub made_pages-sound : (shape : Shape) → IsSoundDatabase shape (made_pages shape.extents)
made_pages-sound shape = (made_view shape, made_pages-keep_all shape)

-- there is a shape of each two numbers within the limits
pub shape_of_numbers : (extents extent_pages : ℕ) → IsTrue (is_shape extents extent_pages) → (shape : Shape) × (shape.extents ≡ extents) × (shape.extent_pages ≡ extent_pages)
shape_of_numbers extents extent_pages within = (record { extents = extents; extent_pages = extent_pages; within = within }, refl, refl)
