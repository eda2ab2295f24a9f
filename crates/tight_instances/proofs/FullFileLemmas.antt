-- The full file is sound, and stands for a valid database.
use Rattle.std.specs.Prelude.{◌<◌, List, [], ◌∷◌, map, IsPermutation}
use Rattle.std.proofs.Common.{refl, arith, sym, subst}
use Rattle.std.proofs.lemmas.List.Sorted.{IsPermutation-cons, IsPermutation-middle}
use Rattle.mdc_ast.specs.Database.{defs_of}
use Rattle.mdc_ast.specs.ValidDatabase.{AreValidDefs, IsValid, IsValidTable}
use Rattle.mdc_ast.specs.declared.row.Row.{Row}
use Rattle.mdc_sound.specs.SmallDatabase.{def_t, row_null, row_ten, row_without}
use Rattle.mdc_sound.specs.SoundDatabase.{KeepAllRules}
use Rattle.mdc_sound.specs.StandsForDatabase.{HoldsTable, PagesStandFor, rootless}
use Rattle.mdc_sound.specs.TableRows.{PlacedRow}
use Rattle.sound_instances.proofs.InstancesLemmas.{each_pair}
use Rattle.tight_instances.proofs.FullRowsLemmas.{HaveOtherKeys, block_indexes_are, cells_are, idle_counts_are, keys_are, null_without, record_indexes_are, row_pages_are, rows_are, ten_null, ten_without, used_counts_are}
use Rattle.tight_instances.proofs.FullSpaceLemmas.{blocks_are, defines, lines_at_18, map_is_sound, root_is, tables_are, tree_pages_are, trees_are}
use Rattle.tight_instances.specs.FullFile.{four_extents, full_database, full_pages, full_table, full_view}

pub full_is_sound : KeepAllRules four_extents full_pages full_view
full_is_sound = record {
  first = record {
    rule1 = root_is;
    rule2 = map_is_sound;
    rule3 = tables_are;
    rule4 = trees_are;
    rule5 = tree_pages_are;
    rule6 = (blocks_are, tt);
    rule7 = row_pages_are;
    rule8 = record { used = used_counts_are; idle = idle_counts_are };
    rule9 = cells_are;
    rule10 = block_indexes_are;
  };
  rule11 = record_indexes_are;
  rule12 = keys_are;
}

-- the rows by rising number
abbrev pub rising_rows : List Row
rising_rows = row_ten ∷ row_null ∷ row_without ∷ []

stands_t : HoldsTable four_extents full_pages 0 (record { def = rootless def_t; rows = rising_rows })
stands_t = record {
  def = def_t;
  map_tree = full_table.map;
  defines = defines;
  has_map = lines_at_18;
  def_is = refl;
  same_rows = subst (λ rows. IsPermutation (map (λ (placed : PlacedRow). placed.row) rows) rising_rows) (sym rows_are)
      (IsPermutation-cons row_ten (row_without ∷ row_null ∷ []) (row_null ∷ row_without ∷ []) (IsPermutation-middle (row_without ∷ []) row_null []));
  rising = each_pair (λ (a b : Row). a.number < b.number) rising_rows ((omega arith, (omega arith, tt)), ((omega arith, tt), (tt, tt)));
}

pub full_stands : PagesStandFor four_extents full_pages full_database
full_stands = (stands_t, (refl, (refl, (refl, (refl, (refl, (refl, (refl, (refl, (refl, (refl, (refl, (refl, (refl, (refl, (refl, tt))))))))))))))))

defs_are : AreValidDefs (defs_of full_database)
defs_are = record {
  places = refl;
  differ = (refl, tt);
  index_names_differ = (refl, tt);
  each = (
    record {
      stands = refl;
      short = omega arith;
      few = omega arith;
      short_names = (omega arith, (omega arith, tt));
      good_types = refl;
      names_differ = (refl, (refl, tt));
      narrow = omega arith;
      few_dims = omega arith;
      dims_there = refl;
      dims_apart = (refl, tt);
      short_keys = refl;
      short_composite = refl;
      sources = refl;
      few_indexes = omega arith;
      indexes = (record { short = omega arith; there = refl; apart = (refl, tt); short_key = refl }, tt);
      few_rows = omega arith;
    },
    (tt, (tt, (tt, (tt, (tt, (tt, (tt, (tt, (tt, (tt, (tt, (tt, (tt, (tt, (tt, tt))))))))))))))),
  );
}

rows_valid : IsValidTable (record { def = rootless def_t; rows = rising_rows })
rows_valid = record {
  rising = (omega arith, (omega arith, (omega arith, omega arith)));
  fitting = (
    record { values = refl; generated = (tt, (tt, tt)) },
    (record { values = refl; generated = (tt, (tt, tt)) }, (record { values = refl; generated = (tt, (tt, tt)) }, tt)),
  );
  unique = ((λ unique. each_pair (λ (a b : Row). HaveOtherKeys a b) rising_rows ((ten_null, (ten_without, tt)), ((null_without, tt), (tt, tt)))), tt);
}

pub full_is_valid : IsValid full_database
full_is_valid = record {
  defs = defs_are;
  tables = (rows_valid, (tt, (tt, (tt, (tt, (tt, (tt, (tt, (tt, (tt, (tt, (tt, (tt, (tt, (tt, (tt, tt))))))))))))))));
}
