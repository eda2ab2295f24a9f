-- The worked database keeps rules 1 to 3 and 6: its root page, its extent map, its table pages and its block maps.
use Rattle.std.specs.Prelude.{◌≡◌, ◌≢◌, ◌<◌, ◌≤◌, ◌+◌, ◌==◌, ◌&&◌, ◌||◌, not, nat_le, nat_lt, ℕ, true, zero, suc, [], ◌∷◌, Contains, slice_index}
use Rattle.std.specs.List.{list_any}
use Rattle.std.proofs.Common.{refl, arith, sym, ap, subst, inl, inr}
use Rattle.std.proofs.lemmas.Bool.{eqb-true, leb-true, ltb-true, not-true}
use Rattle.std.proofs.lemmas.Map.Views.{Contains-from_any}
use Rattle.mdc_ast.specs.declared.definition.IndexDef.{IndexDef}
use Rattle.mdc_ast.specs.declared.definition.TableDef.{TableDef}
use Rattle.mdc_ast.specs.TableLimits.{IsTableDef}
use Rattle.extent_map.specs.Owners.{extent_of, owner_of}
use Rattle.extent_map.specs.declared.kind.Kind.TheVariants.{Block}
use Rattle.block_map.specs.MapLines.{AreMapEntries, IsMapEntry}
use Rattle.table_page.specs.TablePage.{IsTablePageOf}
use Rattle.table_page.proofs.TablePageLemmas.{no_blank_table}
use Rattle.mdc_sound.specs.EmptyDatabase.{few_extents}
use Rattle.mdc_sound.specs.SpaceRules.{AreRootsInIndexes, AreTablePagesSound, IsBlockMapSound, IsIndexKind, IsIndexPage, IsMapPageSound, IsMapSound, IsRootSound, definitions_in, indexes_in}
use Rattle.mdc_sound.specs.TablePages.{DefinesTable, IsTableThere}
use Rattle.sound_instances.proofs.InstancesLemmas.{block_is_of, each_owner, each_pair, first_true, if_first, in_use_is_below, is_block_of, kinds_are, map_of_one_page, owners_are_there, second_true}
use Rattle.sound_instances.specs.WorkedDatabase.{view_news, view_sales, worked_view}
use Rattle.sound_instances.specs.WorkedPages.{worked_owners, worked_pages}
use Rattle.sound_instances.specs.WorkedTables.{def_news, def_sales, index_by_day, index_by_price}

-- ---- rule 1

pub root_is : IsRootSound few_extents worked_pages
root_is = record { count = record { extents = 13; within = omega arith; count = refl }; root = refl }

-- ---- rule 3, but for the roots

pub limits_of_sales : IsTableDef 2 def_sales
limits_of_sales = record {
  stands = refl;
  name = refl;
  columns = record { some = omega arith; few = omega arith; good = refl; differ = (refl, (refl, (refl, (refl, (refl, (refl, (refl, (refl, (refl, tt))))))))); narrow = omega arith };
  dims = record { some = omega arith; few = omega arith; good = refl; apart = (refl, (refl, tt)); short = refl };
  indexes = record {
    few = omega arith;
    good = (
      record { name = refl; some_parts = omega arith; few_parts = omega arith; there = refl; apart = (refl, (refl, tt)); short = refl; root = omega arith },
      (record { name = refl; some_parts = omega arith; few_parts = omega arith; there = refl; apart = (refl, (refl, tt)); short = refl; root = omega arith }, tt),
    );
    differ = (refl, (refl, tt));
  };
  next = omega arith;
  roots = record { map = omega arith; composite = omega arith; one_each = refl; dimensions = (omega arith, (omega arith, tt)) };
}

limits_of_news : IsTableDef 5 def_news
limits_of_news = record {
  stands = refl;
  name = refl;
  columns = record { some = omega arith; few = omega arith; good = refl; differ = (refl, (refl, tt)); narrow = omega arith };
  dims = record { some = omega arith; few = omega arith; good = refl; apart = (refl, (refl, tt)); short = refl };
  indexes = record { few = omega arith; good = tt; differ = tt };
  next = omega arith;
  roots = record { map = omega arith; composite = omega arith; one_each = refl; dimensions = (omega arith, tt) };
}

pub defines_sales : DefinesTable worked_pages 2 def_sales
defines_sales = record { limits = limits_of_sales; printed = refl }

pub defines_news : DefinesTable worked_pages 5 def_news
defines_news = record { limits = limits_of_news; printed = refl }

-- ---- rule 2

is_there : IsTableThere worked_pages 2
is_there = (omega arith, λ blank. no_blank_table 2 def_sales (subst (λ page. IsTablePageOf 2 def_sales page) blank defines_sales))

first_map_page : IsMapPageSound few_extents worked_pages worked_owners 0
first_map_page = record {
  held = record {
    page = record { is_told = refl; within = omega arith; bytes_are = refl };
    kinds = λ e on. kinds_are 2 worked_owners refl e;
    there = λ e on owned. let low = in_use_is_below 13 worked_owners refl e owned in omega (arith, low);
  };
  owned = λ e on. owners_are_there worked_pages 2 worked_owners is_there refl e;
}

pub map_is_sound : IsMapSound few_extents worked_pages worked_owners
map_is_sound = map_of_one_page few_extents worked_pages worked_owners refl refl first_map_page

-- ---- rule 3

-- a page of an extent is one of an index extent where the map says so
in_index : (p : ℕ) → (nat_le 18 p && nat_lt p 50) ≡ true → IsIndexKind (owner_of worked_owners (extent_of few_extents p)) → IsIndexPage few_extents worked_owners p
in_index p is index = record {
  page = record { behind = leb-true 18 p (first_true (nat_le 18 p) (nat_lt p 50) is); within = ltb-true p 50 (second_true (nat_le 18 p) (nat_lt p 50) is) };
  index = index;
}

roots_of_sales : AreRootsInIndexes few_extents worked_owners def_sales
roots_of_sales = (in_index 18 refl tt, (in_index 27 refl tt, (in_index 23 refl tt, (in_index 19 refl tt, (in_index 33 refl tt, (in_index 36 refl tt, tt))))))

roots_of_news : AreRootsInIndexes few_extents worked_owners def_news
roots_of_news = (in_index 32 refl tt, (in_index 41 refl tt, (in_index 37 refl tt, tt)))

-- S in the place of N, and P in that of D
table_names_differ : def_sales.name ≢ def_news.name
table_names_differ same = let wrong : 83 ≡ 78 = ap (λ name. slice_index name.0 0) same in absurd (omega (arith, wrong))

index_names_differ : index_by_price.name ≢ index_by_day.name
index_names_differ same = let wrong : 80 ≡ 68 = ap (λ name. slice_index name.0 2) same in absurd (omega (arith, wrong))

pub tables_are : AreTablePagesSound few_extents worked_pages worked_view
tables_are = record {
  each = (refl, (refl, ((defines_sales, roots_of_sales), (refl, (refl, ((defines_news, roots_of_news), (refl, (refl, (refl, (refl, (refl, (refl, (refl, (refl, (refl, (refl, tt))))))))))))))));
  tables_differ = each_pair (λ (a b : TableDef). a.name ≢ b.name) (definitions_in worked_view) ((table_names_differ, tt), (tt, tt));
  indexes_differ = each_pair (λ (a b : IndexDef). a.name ≢ b.name) (indexes_in worked_view) ((index_names_differ, tt), (tt, tt));
}

-- ---- rule 6

entries_of_sales : AreMapEntries view_sales.map
entries_of_sales entry (inl e) = subst IsMapEntry (sym e) (record { bytes_are = refl })
entries_of_sales entry (inr (inl e)) = subst IsMapEntry (sym e) (record { bytes_are = refl })
entries_of_sales entry (inr (inr (inl e))) = subst IsMapEntry (sym e) (record { bytes_are = refl })
entries_of_sales entry (inr (inr (inr (inl e)))) = subst IsMapEntry (sym e) (record { bytes_are = refl })
entries_of_sales entry (inr (inr (inr (inr (inl e))))) = subst IsMapEntry (sym e) (record { bytes_are = refl })
entries_of_sales entry (inr (inr (inr (inr (inr wrong))))) = absurd wrong

blocks_of_sales : (e : ℕ) → owner_of worked_owners e ≡ Block 2 → Contains (1 ∷ 5 ∷ 6 ∷ 8 ∷ 10 ∷ []) e
blocks_of_sales e is =
    let test = each_owner (λ e kind. not (is_block_of 2 kind) || list_any (λ n. e == n) (1 ∷ 5 ∷ 6 ∷ 8 ∷ 10 ∷ [])) worked_owners refl (λ e. refl) e in
    Contains-from_any eqb-true e (1 ∷ 5 ∷ 6 ∷ 8 ∷ 10 ∷ [])
    (if_first (is_block_of 2 (owner_of worked_owners e)) (list_any (λ n. e == n) (1 ∷ 5 ∷ 6 ∷ 8 ∷ 10 ∷ [])) test (block_is_of 2 (owner_of worked_owners e) is))

pub blocks_are : IsBlockMapSound few_extents worked_owners def_sales view_sales.map
blocks_are = record {
  entries = entries_of_sales;
  lines = (
    record { state = omega arith; within = omega arith; owned = refl },
    (
      record { state = omega arith; within = omega arith; owned = refl },
      (
        record { state = omega arith; within = omega arith; owned = refl },
        (record { state = omega arith; within = omega arith; owned = refl }, (record { state = omega arith; within = omega arith; owned = refl }, tt)),
      ),
    ),
  );
  once_each = each_pair
      (λ (a b : ℕ). a ≢ b)
      (1 ∷ 5 ∷ 6 ∷ 8 ∷ 10 ∷ []) (
        ((λ e. omega (arith, e)), ((λ e. omega (arith, e)), ((λ e. omega (arith, e)), ((λ e. omega (arith, e)), tt)))),
        (
          ((λ e. omega (arith, e)), ((λ e. omega (arith, e)), ((λ e. omega (arith, e)), tt))),
          (((λ e. omega (arith, e)), ((λ e. omega (arith, e)), tt)), (((λ e. omega (arith, e)), tt), (tt, tt))),
        ),
      );
  all_named = λ e low is. blocks_of_sales e is;
}

no_block_of_news : (e : ℕ) → owner_of worked_owners e ≡ Block 5 → Contains {X = ℕ} [] e
no_block_of_news e is =
    let test = each_owner (λ e kind. not (is_block_of 5 kind)) worked_owners refl (λ e. refl) e in
    let of = block_is_of 5 (owner_of worked_owners e) is in
    let never = not-true (is_block_of 5 (owner_of worked_owners e)) test in absurd (cc)

pub no_blocks : IsBlockMapSound few_extents worked_owners def_news view_news.map
no_blocks = record {
  entries = λ entry wrong. absurd wrong;
  lines = tt;
  once_each = each_pair (λ (a b : ℕ). a ≢ b) [] tt;
  all_named = λ e low is. no_block_of_news e is;
}
