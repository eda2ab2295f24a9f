-- The empty database of 16 extents of 2 pages keeps all rules, and stands for no table.
use Rattle.std.specs.Prelude.{◌≡◌, ◌<◌, ◌+◌, ℕ, zero, suc, IsTrue, length, replicate}
use Rattle.std.proofs.Common.{refl, arith, subst, sym}
use Rattle.store_api.specs.StoreState.{page_at, zero_page}
use Rattle.store_api.specs.Frame.{HoldsPage}
use Rattle.mdc_ast.specs.Database.{empty_database}
use Rattle.extent_map.specs.Kinds.{is_used_place}
use Rattle.extent_map.specs.Map.{HoldsMap}
use Rattle.extent_map.specs.Owners.{IsUsedPage, extent_of, place_in_extent}
use Rattle.extent_map.specs.declared.kind.Kind.TheVariants.{Free}
use Rattle.extent_map.proofs.LawsOfTheMap.{fresh_map, owner_of-fresh}
use Rattle.table_trees.specs.ToldPages.{told_pages}
use Rattle.mdc_sound.specs.EmptyDatabase.{few_extents, empty_pages, empty_view}
use Rattle.mdc_sound.specs.SoundDatabase.{IsSoundDatabase, KeepAllRules}
use Rattle.mdc_sound.specs.SpaceRules.{IsRootSound, IsMapSound, AreTablePagesSound, IsTreePageSound, IsOwnerThere, stated_root}
use Rattle.mdc_sound.specs.StandsForDatabase.{PagesStandFor}

root_is : page_at empty_pages 0 ≡ stated_root (length empty_pages)
root_is = refl

root_sound : IsRootSound few_extents empty_pages
root_sound = record {
  count = record { extents = 0; within = omega arith; count = refl };
  root = root_is;
}

map_is_blank : (i : ℕ) → i < 1 → HoldsPage told_pages empty_pages (17 + i) zero_page
map_is_blank zero low = record { is_told = refl; within = omega arith; bytes_are = refl }
map_is_blank (suc i) low = absurd (omega (arith, low))

map_held : HoldsMap told_pages few_extents empty_pages (replicate 16 Free)
map_held = fresh_map few_extents empty_pages map_is_blank

map_sound : IsMapSound few_extents empty_pages (replicate 16 Free)
map_sound = record {
  count = refl;
  each = λ i low. record {
    held = map_held.pages i low;
    owned = λ e on. subst (λ kind. IsOwnerThere empty_pages kind) (sym (owner_of-fresh 16 e)) tt;
  };
}

tables_sound : AreTablePagesSound few_extents empty_pages empty_view
tables_sound = record {
  each = (refl, (refl, (refl, (refl, (refl, (refl, (refl, (refl, (refl, (refl, (refl, (refl, (refl, (refl, (refl, (refl, tt))))))))))))))));
  tables_differ = λ i j d low high. absurd (omega (arith, high));
  indexes_differ = λ i j d low high. absurd (omega (arith, high));
}

none_used : (p : ℕ) → IsUsedPage few_extents (replicate 16 Free) p → ⊥
none_used p used =
    let none : IsTrue (is_used_place (place_in_extent few_extents p) Free) =
    subst (λ kind. IsTrue (is_used_place (place_in_extent few_extents p) kind)) (owner_of-fresh 16 (extent_of few_extents p)) used.used in
    absurd (cc none)

pages_sound : (p : ℕ) → IsTreePageSound few_extents empty_view p
pages_sound p = record { used = λ used. absurd (none_used p used); others = λ apart. refl }

keeps_all : KeepAllRules few_extents empty_pages empty_view
keeps_all = record {
  first = record {
    rule1 = root_sound;
    rule2 = map_sound;
    rule3 = tables_sound;
    rule4 = tt;
    rule5 = pages_sound;
    rule6 = tt;
    rule7 = tt;
    rule8 = record { used = tt; idle = tt };
    rule9 = tt;
    rule10 = tt;
  };
  rule11 = tt;
  rule12 = record { numbers = tt; unique = tt };
}

pub empty_is_sound : IsSoundDatabase few_extents empty_pages
empty_is_sound = (empty_view, keeps_all)

pub empty_stands : PagesStandFor few_extents empty_pages empty_database
empty_stands = (refl, (refl, (refl, (refl, (refl, (refl, (refl, (refl, (refl, (refl, (refl, (refl, (refl, (refl, (refl, (refl, tt))))))))))))))))
