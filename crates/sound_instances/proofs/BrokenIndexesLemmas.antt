-- One byte of the worked pages breaks each of rules 10 to 12.
use Rattle.std.specs.Prelude.{◌≡◌, ℕ, zero, suc, true, List, [], ◌∷◌, ◌++◌, map, Contains}
use Rattle.std.proofs.Common.{refl, arith, subst, inl, inr}
use Rattle.mdc_words.specs.ByteOrder.{Entry, below}
use Rattle.mdc_ast.specs.declared.definition.IndexDef.{IndexDef}
use Rattle.mdc_ast.specs.declared.definition.TableDef.{TableDef}
use Rattle.store_api.specs.StoreState.{zero_page}
use Rattle.node_page.specs.Node.{node_of}
use Rattle.row_page.specs.Row.{column_value, row_in}
use Rattle.entry_tree.specs.Forest.{Forest}
use Rattle.entry_tree.specs.Forest.Forest.{Leaf, Fork, Nil}
use Rattle.block_map.specs.MapLines.{pending_blocks}
use Rattle.table_page.specs.TablePage.{table_page}
use Rattle.table_trees.specs.TableTrees.{dimension_place, map_place, record_place, rising_parts}
use Rattle.table_trees.specs.ToldPages.{HasTree, PageList}
use Rattle.mdc_sound.specs.BlockRules.{AreRowNumbersSound, IsBlockIndexSound, IsSoundIndex, IsUniqueSound, entry_of_block, entry_of_row}
use Rattle.mdc_sound.specs.Breaks.{BreaksRule}
use Rattle.mdc_sound.specs.EmptyDatabase.{few_extents}
use Rattle.mdc_sound.specs.TablePages.{DefinesTable}
use Rattle.mdc_sound.specs.TableRows.{rows_in_table}
use Rattle.sound_instances.proofs.InstancesLemmas.{leaf_is_held, not_among}
use Rattle.sound_instances.proofs.WorkedRowsLemmas.{placed_one, placed_seven, sales_rows}
use Rattle.sound_instances.proofs.WorkedSpaceLemmas.{limits_of_sales}
use Rattle.sound_instances.proofs.WorkedTreesLemmas.{prices_once}
use Rattle.sound_instances.specs.ChangedPages.{with_byte}
use Rattle.sound_instances.specs.WorkedEntries.{entry_separator, high_prices, in_block, in_slot, key_hundred, key_nine, key_no_price, key_null, key_os, middle_prices, price_separator}
use Rattle.sound_instances.specs.WorkedTables.{def_sales, index_by_day, index_by_price}
use Rattle.sound_instances.proofs.ShownSalesLemmas.{of_known, old_map, shows, still_defined, still_mapped}

-- ---- rule 10: the Pending block listed under a city

-- the pages with block 6 listed for block 8
abbrev city_pages : PageList
city_pages = with_byte 23 33 6

-- block 6 in the place of block 8
abbrev cities_with_6 : List Entry
cities_with_6 = (key_os ++ in_block 1) ∷ (key_os ++ in_block 6) ∷ (key_null ++ in_block 10) ∷ []

cities_held : HasTree city_pages (record { root = 23; width = 9 }) (Leaf 23 cities_with_6 Nil)
unfolding node_of zero_page below
cities_held = leaf_is_held city_pages (record { root = 23; width = 9 }) cities_with_6 refl (tt, tt, (refl, tt, (refl, tt, tt)))

mapped_by_23 : HasTree city_pages (record { root = 18; width = 7 }) old_map
unfolding node_of zero_page
mapped_by_23 = still_mapped city_pages refl

rows_by_23 : rows_in_table few_extents city_pages def_sales old_map ≡ sales_rows
unfolding zero_page row_in column_value
rows_by_23 = refl

no_block_8 : IsBlockIndexSound def_sales sales_rows (rising_parts (2 ∷ [])) (Leaf 23 cities_with_6 Nil) → ⊥
no_block_8 sound = not_among cities_with_6 (entry_of_block def_sales (rising_parts (2 ∷ [])) placed_one) refl sound.has.1.1.0

pub breaks_block_index : BreaksRule few_extents (with_byte 23 33 6) 10 23
breaks_block_index = BreaksRule.dimension
    2
    0
    23
    def_sales
    (2 ∷ [])
    (omega arith)
    (still_defined city_pages refl)
    refl
    refl
    (λ map_tree index held index_held sound.
    let by_map =
    of_known city_pages (map_place def_sales) map_tree old_map
    (λ t. IsBlockIndexSound def_sales (rows_in_table few_extents city_pages def_sales t) (rising_parts (2 ∷ [])) index) held mapped_by_23 sound in
    let by_rows = subst (λ rows. IsBlockIndexSound def_sales rows (rising_parts (2 ∷ [])) index) rows_by_23 by_map in
    no_block_8 (of_known city_pages (dimension_place def_sales (2 ∷ []) 23) index (Leaf 23 cities_with_6 Nil)
    (IsBlockIndexSound def_sales sales_rows (rising_parts (2 ∷ []))) index_held cities_held by_rows))

-- ---- rule 11: an entry left behind that names the Free block

-- the pages with block 5 named for block 6
abbrev price_pages : PageList
price_pages = with_byte 22 53 5

-- block 5 in the place of block 6
abbrev low_prices_with_5 : List Entry
low_prices_with_5 = (key_no_price ++ key_null ++ in_slot 10 12) ∷ (key_hundred ++ key_os ++ in_slot 5 14) ∷ (key_nine ++ key_os ++ in_slot 1 13) ∷ []

abbrev prices_with_5 : Forest
prices_with_5 =
    Fork 33 (price_separator ∷ []) (Leaf 22 low_prices_with_5 (Fork 42 (entry_separator ∷ []) (Leaf 40 middle_prices (Leaf 43 high_prices Nil)) Nil)) Nil

prices_held : HasTree price_pages (record { root = 33; width = 20 }) prices_with_5
unfolding node_of zero_page below
prices_held = record {
  is_tree = record {
    head = refl;
    holds = (refl, (refl, (refl, (refl, (refl, tt)), tt)), tt);
    fits = (
      tt,
      (
        tt,
        (tt, refl, (refl, refl, (refl, refl, tt))),
        (tt, (refl, (refl, refl, (refl, refl, tt)), (tt, (refl, tt, (refl, tt, tt)), refl)), refl),
      ),
      refl,
    );
    distinct = prices_once;
  };
  trim = (tt, (tt, (tt, (tt, tt)), tt));
}

mapped_by_22 : HasTree price_pages (record { root = 18; width = 7 }) old_map
unfolding node_of zero_page
mapped_by_22 = still_mapped price_pages refl

rows_by_22 : rows_in_table few_extents price_pages def_sales old_map ≡ sales_rows
unfolding zero_page row_in column_value
rows_by_22 = refl

names_block_5 : IsSoundIndex def_sales sales_rows (6 ∷ []) index_by_price prices_with_5 → ⊥
names_block_5 sound = elim sound.only.1.0 [
  | inl row ↦ not_among (map (entry_of_row def_sales index_by_price) sales_rows) (key_hundred ++ key_os ++ in_slot 5 14) refl row
  | inr pending ↦ only_six pending
]
  where
    only_six : Contains {X = ℕ} (6 ∷ []) 5 → ⊥
    only_six (zero, low, is) = omega (arith, is)
    only_six (suc k, low, is) = omega (arith, low)

pub breaks_record_index : BreaksRule few_extents (with_byte 22 53 5) 11 33
breaks_record_index = BreaksRule.record_index
    2
    def_sales
    index_by_price
    (omega arith)
    (still_defined price_pages refl)
    (0, omega arith, refl)
    (λ map_tree tree held tree_held sound.
    let by_map =
    of_known price_pages (map_place def_sales) map_tree old_map
    (λ t. IsSoundIndex def_sales (rows_in_table few_extents price_pages def_sales t) (pending_blocks t) index_by_price tree) held mapped_by_22 sound in
    let by_rows = subst (λ rows. IsSoundIndex def_sales rows (6 ∷ []) index_by_price tree) rows_by_22 by_map in
    names_block_5 (of_known price_pages (record_place def_sales index_by_price) tree prices_with_5
    (IsSoundIndex def_sales sales_rows (6 ∷ []) index_by_price) tree_held prices_held by_rows))

-- ---- rule 12: the next row number is that of a row, and an index of equal keys is UNIQUE

-- the pages with 8 for the next row number
abbrev late_pages : PageList
late_pages = with_byte 3 29 8

-- SALES with another next row number
abbrev def_late : TableDef
def_late = record def_sales { next = 8 }

defines_late : DefinesTable late_pages 2 def_late
unfolding table_page zero_page
defines_late = record {
  limits = record {
    stands = refl;
    name = limits_of_sales.name;
    columns = limits_of_sales.columns;
    dims = limits_of_sales.dims;
    indexes = limits_of_sales.indexes;
    next = omega arith;
    roots = limits_of_sales.roots;
  };
  printed = refl;
}

mapped_by_3 : (at byte : ℕ) → HasTree (with_byte 3 at byte) (record { root = 18; width = 7 }) old_map
unfolding node_of zero_page
mapped_by_3 at byte = still_mapped (with_byte 3 at byte) refl

rows_by_3 : rows_in_table few_extents late_pages def_late old_map ≡ sales_rows
unfolding zero_page row_in column_value
rows_by_3 = refl

not_below : AreRowNumbersSound def_late sales_rows → ⊥
not_below sound = let low = sound.below_next.1.1.1.0 in omega (arith, low)

pub breaks_row_numbers : BreaksRule few_extents (with_byte 3 29 8) 12 3
breaks_row_numbers = BreaksRule.numbers
    2
    def_late
    (shows late_pages def_late old_map (λ map_tree. AreRowNumbersSound def_late (rows_in_table few_extents late_pages def_late map_tree) → ⊥) defines_late (mapped_by_3 29 8)
    (λ sound. not_below (subst (AreRowNumbersSound def_late) rows_by_3 sound)))

-- the pages with the index by PRICE a UNIQUE one
abbrev unique_pages : PageList
unique_pages = with_byte 3 636 1

-- that index
abbrev unique_by_price : IndexDef
unique_by_price = record index_by_price { unique = true }

-- SALES with it
abbrev def_unique : TableDef
def_unique = record def_sales { indexes = unique_by_price ∷ index_by_day ∷ [] }

defines_unique : DefinesTable unique_pages 2 def_unique
unfolding table_page zero_page
defines_unique = record {
  limits = record {
    stands = refl;
    name = limits_of_sales.name;
    columns = limits_of_sales.columns;
    dims = limits_of_sales.dims;
    indexes = record {
      few = omega arith;
      good = (
        record { name = refl; some_parts = omega arith; few_parts = omega arith; there = refl; apart = (refl, (refl, tt)); short = refl; root = omega arith },
        limits_of_sales.indexes.good.1,
      );
      differ = limits_of_sales.indexes.differ;
    };
    next = limits_of_sales.next;
    roots = limits_of_sales.roots;
  };
  printed = refl;
}

rows_with_unique : rows_in_table few_extents unique_pages def_unique old_map ≡ sales_rows
unfolding zero_page row_in column_value
rows_with_unique = refl

-- rows 7 and 1 have one price and one city
equal_keys : IsUniqueSound sales_rows unique_by_price → ⊥
equal_keys sound = sound refl 0 2 placed_seven (omega arith) (omega arith) (refl, (refl, tt))

pub breaks_unique : BreaksRule few_extents (with_byte 3 636 1) 12 3
breaks_unique = BreaksRule.unique
    2
    def_unique
    unique_by_price
    (0, omega arith, refl)
    (shows unique_pages def_unique old_map (λ map_tree. IsUniqueSound (rows_in_table few_extents unique_pages def_unique map_tree) unique_by_price → ⊥) defines_unique (mapped_by_3 636 1)
    (λ sound. equal_keys (subst (λ rows. IsUniqueSound rows unique_by_price) rows_with_unique sound)))
