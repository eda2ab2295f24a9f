-- The pages of the worked database stand for its plain tables, and these are valid.
use Rattle.std.specs.Prelude.{◌<◌, List, [], ◌∷◌, map, IsPermutation}
use Rattle.std.proofs.Common.{refl, arith, sym, subst}
use Rattle.std.proofs.lemmas.List.Sorted.{IsPermutation-refl}
use Rattle.mdc_ast.specs.ValidDatabase.{AreValidDefs, IsValid, IsValidTable}
use Rattle.mdc_ast.specs.Database.{defs_of}
use Rattle.mdc_ast.specs.declared.row.Row.{Row}
use Rattle.mdc_sound.specs.EmptyDatabase.{few_extents}
use Rattle.mdc_sound.specs.SoundDatabase.{KeepAllRules}
use Rattle.mdc_sound.specs.StandsForDatabase.{HoldsTable, PagesStandFor, rootless}
use Rattle.mdc_sound.specs.TableRows.{PlacedRow}
use Rattle.sound_instances.proofs.InstancesLemmas.{each_pair}
use Rattle.sound_instances.proofs.WorkedIndexesLemmas.{HaveOtherKeys, four_eight, four_seven, keys_are, one_eight, one_four, one_seven, one_two, record_indexes_are, seven_eight, two_eight, two_four, two_seven}
use Rattle.sound_instances.proofs.WorkedRowsLemmas.{block_indexes_are, cells_are, eight_fits, four_fits, idle_counts_are, one_fits, row_pages_are, rows_are, seven_fits, two_fits, used_counts_are}
use Rattle.sound_instances.proofs.WorkedSpaceLemmas.{blocks_are, defines_news, defines_sales, map_is_sound, no_blocks, root_is, tables_are}
use Rattle.sound_instances.proofs.WorkedTreesLemmas.{lines_at_18, lines_at_32, tree_pages_are, trees_are}
use Rattle.sound_instances.specs.WorkedDatabase.{view_news, view_sales, worked_database, worked_view}
use Rattle.sound_instances.specs.WorkedPages.{worked_pages}
use Rattle.sound_instances.specs.WorkedTables.{def_news, def_sales, row_eight, row_four, row_one, row_seven, row_two}

-- ---- the rules

pub worked_is_sound : KeepAllRules few_extents worked_pages worked_view
worked_is_sound = record {
  first = record {
    rule1 = root_is;
    rule2 = map_is_sound;
    rule3 = tables_are;
    rule4 = trees_are;
    rule5 = tree_pages_are;
    rule6 = (blocks_are, (no_blocks, tt));
    rule7 = row_pages_are;
    rule8 = record { used = used_counts_are; idle = idle_counts_are };
    rule9 = cells_are;
    rule10 = block_indexes_are;
  };
  rule11 = record_indexes_are;
  rule12 = keys_are;
}

-- ---- what the pages stand for

-- the rows of SALES by rising number
abbrev rising_sales : List Row
rising_sales = row_one ∷ row_two ∷ row_four ∷ row_seven ∷ row_eight ∷ []

-- four swaps bring them there from where they lie
same_rows : IsPermutation (row_seven ∷ row_four ∷ row_one ∷ row_eight ∷ row_two ∷ []) rising_sales
same_rows = record {
  moves = (3, 4) ∷ (2, 4) ∷ (1, 4) ∷ (0, 2) ∷ [];
  below = (omega arith, omega arith, (omega arith, omega arith, (omega arith, omega arith, (omega arith, omega arith, tt))));
  is = refl;
}

stands_sales : HoldsTable few_extents worked_pages 2 (record { def = rootless def_sales; rows = rising_sales })
stands_sales = record {
  def = def_sales;
  map_tree = view_sales.map;
  defines = defines_sales;
  has_map = lines_at_18;
  def_is = refl;
  same_rows = subst (λ rows. IsPermutation (map (λ (placed : PlacedRow). placed.row) rows) rising_sales) (sym rows_are) same_rows;
  rising = each_pair
      (λ (a b : Row). a.number < b.number)
      rising_sales (
        (omega arith, (omega arith, (omega arith, (omega arith, tt)))),
        ((omega arith, (omega arith, (omega arith, tt))), ((omega arith, (omega arith, tt)), ((omega arith, tt), (tt, tt)))),
      );
}

stands_news : HoldsTable few_extents worked_pages 5 (record { def = rootless def_news; rows = [] })
stands_news = record {
  def = def_news;
  map_tree = view_news.map;
  defines = defines_news;
  has_map = lines_at_32;
  def_is = refl;
  same_rows = IsPermutation-refl [];
  rising = each_pair (λ (a b : Row). a.number < b.number) [] tt;
}

pub worked_stands : PagesStandFor few_extents worked_pages worked_database
worked_stands = (refl, (refl, (stands_sales, (refl, (refl, (stands_news, (refl, (refl, (refl, (refl, (refl, (refl, (refl, (refl, (refl, (refl, tt))))))))))))))))

-- ---- a valid database

defs_are : AreValidDefs (defs_of worked_database)
defs_are = record {
  places = refl;
  differ = (refl, (refl, tt));
  index_names_differ = (refl, (refl, tt));
  each = (
    tt,
    (
      tt,
      (
        record {
          stands = refl;
          short = omega arith;
          few = omega arith;
          short_names = (omega arith, (omega arith, (omega arith, (omega arith, (omega arith, (omega arith, (omega arith, (omega arith, (omega arith, tt)))))))));
          good_types = refl;
          names_differ = (refl, (refl, (refl, (refl, (refl, (refl, (refl, (refl, (refl, tt)))))))));
          narrow = omega arith;
          few_dims = omega arith;
          dims_there = refl;
          dims_apart = (refl, (refl, tt));
          short_keys = refl;
          short_composite = refl;
          sources = refl;
          few_indexes = omega arith;
          indexes = (
            record { short = omega arith; there = refl; apart = (refl, (refl, tt)); short_key = refl },
            (record { short = omega arith; there = refl; apart = (refl, (refl, tt)); short_key = refl }, tt),
          );
          few_rows = omega arith;
        },
        (
          tt,
          (
            tt,
            (
              record {
                stands = refl;
                short = omega arith;
                few = omega arith;
                short_names = (omega arith, (omega arith, tt));
                good_types = refl;
                names_differ = (refl, (refl, tt));
                narrow = omega arith;
                few_dims = omega arith;
                dims_there = refl;
                dims_apart = (refl, (refl, tt));
                short_keys = refl;
                short_composite = refl;
                sources = refl;
                few_indexes = omega arith;
                indexes = tt;
                few_rows = omega arith;
              },
              (tt, (tt, (tt, (tt, (tt, (tt, (tt, (tt, (tt, (tt, tt)))))))))),
            ),
          ),
        ),
      ),
    ),
  );
}

sales_are : IsValidTable (record { def = rootless def_sales; rows = rising_sales })
sales_are = record {
  rising = (omega arith, (omega arith, (omega arith, (omega arith, (omega arith, omega arith)))));
  fitting = (
    record { values = one_fits.values; generated = one_fits.generated },
    (
      record { values = two_fits.values; generated = two_fits.generated },
      (
        record { values = four_fits.values; generated = four_fits.generated },
        (record { values = seven_fits.values; generated = seven_fits.generated }, (record { values = eight_fits.values; generated = eight_fits.generated }, tt)),
      ),
    ),
  );
  unique = (
    (λ unique. absurd (cc)),
    (
      (
          λ unique. each_pair
          (λ (a b : Row). HaveOtherKeys a b)
          rising_sales (
            (one_two, (one_four, (one_seven, (one_eight, tt)))),
            ((two_four, (two_seven, (two_eight, tt))), ((four_seven, (four_eight, tt)), ((seven_eight, tt), (tt, tt)))),
          )
          ),
      tt,
    ),
  );
}

news_are : IsValidTable (record { def = rootless def_news; rows = [] })
news_are = record { rising = omega arith; fitting = tt; unique = tt }

pub worked_is_valid : IsValid worked_database
worked_is_valid = record {
  defs = defs_are;
  tables = (tt, (tt, (sales_are, (tt, (tt, (news_are, (tt, (tt, (tt, (tt, (tt, (tt, (tt, (tt, (tt, (tt, tt))))))))))))))));
}
