-- The full file keeps rules 1 to 6: its root page, extent map, table pages, trees and block map.
use Rattle.std.specs.Prelude.{◌≡◌, ◌≢◌, ◌≤◌, ◌==◌, ◌||◌, not, ℕ, [], ◌∷◌, Contains}
use Rattle.std.specs.List.{list_any}
use Rattle.std.proofs.Common.{refl, arith, sym, subst, inl, inr}
use Rattle.std.proofs.lemmas.Bool.{eqb-true}
use Rattle.std.proofs.lemmas.Map.Views.{Contains-from_any}
use Rattle.mdc_words.specs.ByteOrder.{below}
use Rattle.mdc_ast.specs.TableLimits.{IsTableDef}
use Rattle.mdc_ast.specs.declared.definition.IndexDef.{IndexDef}
use Rattle.mdc_ast.specs.declared.definition.TableDef.{TableDef}
use Rattle.store_api.specs.StoreState.{zero_page}
use Rattle.extent_map.specs.Owners.{owner_of}
use Rattle.extent_map.specs.declared.kind.Kind.TheVariants.{Block}
use Rattle.node_page.specs.Node.{node_of}
use Rattle.entry_tree.specs.Forest.Forest.{Leaf, Nil}
use Rattle.entry_tree.proofs.ForestLemmas.{once_other}
use Rattle.block_map.specs.MapLines.{AreMapEntries, IsMapEntry}
use Rattle.table_page.specs.TablePage.{IsTablePageOf}
use Rattle.table_page.proofs.TablePageLemmas.{no_blank_table}
use Rattle.table_trees.specs.ToldPages.{HasTree}
use Rattle.mdc_sound.specs.SmallDatabase.{def_t}
use Rattle.mdc_sound.specs.SpaceRules.{AreRootsInIndexes, AreTablePagesSound, AreTreePagesSound, AreTreesSound, IsBlockMapSound, IsMapPageSound, IsMapSound, IsRootSound, definitions_in, indexes_in, times_in_trees}
use Rattle.mdc_sound.specs.TablePages.{DefinesTable, IsTableThere}
use Rattle.sound_instances.proofs.InstancesLemmas.{block_is_of, counted_pages_are_sound, each_owner, each_pair, if_first, in_use_is_below, is_block_of, kinds_are, leaf_is_held, map_of_one_page, owners_are_there}
use Rattle.tight_instances.specs.FullFile.{four_extents, full_cells, full_lines, full_owners, full_pages, full_rows, full_table, full_view}

-- ---- rules 1 and 2

pub root_is : IsRootSound four_extents full_pages
root_is = record { count = record { extents = 4; within = omega arith; count = refl }; root = refl }

limits_are : IsTableDef 0 def_t
limits_are = record {
  stands = refl;
  name = refl;
  columns = record { some = omega arith; few = omega arith; good = refl; differ = (refl, (refl, tt)); narrow = omega arith };
  dims = record { some = omega arith; few = omega arith; good = refl; apart = (refl, tt); short = refl };
  indexes = record {
    few = omega arith;
    good = (record { name = refl; some_parts = omega arith; few_parts = omega arith; there = refl; apart = (refl, tt); short = refl; root = omega arith }, tt);
    differ = (refl, tt);
  };
  next = omega arith;
  roots = record { map = omega arith; composite = omega arith; one_each = refl; dimensions = (omega arith, tt) };
}

pub defines : DefinesTable full_pages 0 def_t
defines = record { limits = limits_are; printed = refl }

is_there : IsTableThere full_pages 0
is_there = (omega arith, λ blank. no_blank_table 0 def_t (subst (λ page. IsTablePageOf 0 def_t page) blank defines))

first_map_page : IsMapPageSound four_extents full_pages full_owners 0
first_map_page = record {
  held = record {
    page = record { is_told = refl; within = omega arith; bytes_are = refl };
    kinds = λ e on. kinds_are 2 full_owners refl e;
    there = λ e on owned. let low = in_use_is_below 4 full_owners refl e owned in omega (arith, low);
  };
  owned = λ e on. owners_are_there full_pages 0 full_owners is_there refl e;
}

pub map_is_sound : IsMapSound four_extents full_pages full_owners
map_is_sound = map_of_one_page four_extents full_pages full_owners refl refl first_map_page

-- ---- rule 3

roots_are : AreRootsInIndexes four_extents full_owners def_t
roots_are = (
  record { page = record { behind = omega arith; within = omega arith }; index = tt },
  (
    record { page = record { behind = omega arith; within = omega arith }; index = tt },
    (
      record { page = record { behind = omega arith; within = omega arith }; index = tt },
      (record { page = record { behind = omega arith; within = omega arith }; index = tt }, tt),
    ),
  ),
)

pub tables_are : AreTablePagesSound four_extents full_pages full_view
tables_are = record {
  each = ((defines, roots_are), (refl, (refl, (refl, (refl, (refl, (refl, (refl, (refl, (refl, (refl, (refl, (refl, (refl, (refl, (refl, tt))))))))))))))));
  tables_differ = each_pair (λ (a b : TableDef). a.name ≢ b.name) (definitions_in full_view) (tt, tt);
  indexes_differ = each_pair (λ (a b : IndexDef). a.name ≢ b.name) (indexes_in full_view) (tt, tt);
}

-- ---- rule 4

pub lines_at_18 : HasTree full_pages (record { root = 18; width = 7 }) (Leaf 18 full_lines Nil)
unfolding node_of zero_page below
lines_at_18 = leaf_is_held full_pages (record { root = 18; width = 7 }) full_lines refl (tt, tt, (refl, tt, tt))

cells_at_19 : HasTree full_pages (record { root = 19; width = 9 }) (Leaf 19 full_cells Nil)
unfolding node_of zero_page below
cells_at_19 = leaf_is_held full_pages (record { root = 19; width = 9 }) full_cells refl (tt, tt, (refl, tt, tt))

cells_at_20 : HasTree full_pages (record { root = 20; width = 9 }) (Leaf 20 full_cells Nil)
unfolding node_of zero_page below
cells_at_20 = leaf_is_held full_pages (record { root = 20; width = 9 }) full_cells refl (tt, tt, (refl, tt, tt))

rows_at_21 : HasTree full_pages (record { root = 21; width = 11 }) (Leaf 21 full_rows Nil)
unfolding node_of zero_page below
rows_at_21 = leaf_is_held full_pages (record { root = 21; width = 11 }) full_rows refl (tt, tt, (refl, tt, (refl, tt, tt)))

pub trees_are : AreTreesSound full_pages full_view
trees_are = ((lines_at_18, (cells_at_19, (cells_at_20, (rows_at_21, tt)))), tt)

-- ---- rule 5

no_tree_behind : (p : ℕ) → 26 ≤ p → times_in_trees p full_view ≡ 0
no_tree_behind p far = omega (
  arith,
  once_other p 18 (λ e. omega (arith, e, far)),
  once_other p 19 (λ e. omega (arith, e, far)),
  once_other p 20 (λ e. omega (arith, e, far)),
  once_other p 21 (λ e. omega (arith, e, far)),
)

pub tree_pages_are : AreTreePagesSound four_extents full_view
tree_pages_are = counted_pages_are_sound four_extents full_view 26 refl refl no_tree_behind

-- ---- rule 6

entries_are : AreMapEntries full_table.map
entries_are entry (inl e) = subst IsMapEntry (sym e) (record { bytes_are = refl })
entries_are entry (inr (inl e)) = subst IsMapEntry (sym e) (record { bytes_are = refl })
entries_are entry (inr (inr wrong)) = absurd wrong

named : (e : ℕ) → owner_of full_owners e ≡ Block 0 → Contains (2 ∷ 3 ∷ []) e
named e is =
    let test = each_owner (λ e kind. not (is_block_of 0 kind) || list_any (λ n. e == n) (2 ∷ 3 ∷ [])) full_owners refl (λ e. refl) e in
    Contains-from_any eqb-true e (2 ∷ 3 ∷ []) (if_first (is_block_of 0 (owner_of full_owners e)) (list_any (λ n. e == n) (2 ∷ 3 ∷ [])) test (block_is_of 0 (owner_of full_owners e) is))

pub blocks_are : IsBlockMapSound four_extents full_owners def_t full_table.map
blocks_are = record {
  entries = entries_are;
  lines = (record { state = omega arith; within = omega arith; owned = refl }, (record { state = omega arith; within = omega arith; owned = refl }, tt));
  once_each = each_pair (λ (a b : ℕ). a ≢ b) (2 ∷ 3 ∷ []) (((λ e. omega (arith, e)), tt), (tt, tt));
  all_named = λ e low is. named e is;
}
