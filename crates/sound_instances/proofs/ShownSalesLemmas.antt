-- What pages with one byte changed still show of SALES: its definition and its block map, where these are as they were.
use Rattle.std.specs.Prelude.{◌≡◌}
use Rattle.std.proofs.Common.{refl, arith, subst}
use Rattle.mdc_words.specs.ByteOrder.{below}
use Rattle.mdc_ast.specs.declared.definition.TableDef.{TableDef}
use Rattle.store_api.specs.StoreState.{page_at}
use Rattle.node_page.specs.Node.{node_of}
use Rattle.node_page.specs.Node.Node.{LeafNode}
use Rattle.entry_tree.specs.Forest.{Forest}
use Rattle.entry_tree.specs.Forest.Forest.{Leaf, Nil}
use Rattle.table_page.specs.TablePage.{table_page}
use Rattle.table_trees.specs.TableTrees.{TreePlace, map_place}
use Rattle.table_trees.specs.ToldPages.{HasTree, PageList}
use Rattle.mdc_sound.specs.Breaks.{ShowsTable}
use Rattle.mdc_sound.specs.TablePages.{DefinesTable}
use Rattle.mdc_sound.proofs.StandsForLemmas.{one_tree_at}
use Rattle.sound_instances.proofs.InstancesLemmas.{leaf_is_held}
use Rattle.sound_instances.proofs.WorkedSpaceLemmas.{limits_of_sales}
use Rattle.sound_instances.specs.WorkedEntries.{sales_lines}
use Rattle.sound_instances.specs.WorkedTables.{def_sales}

-- the block map of SALES as it was
abbrev pub old_map : Forest
old_map = Leaf 18 sales_lines Nil

-- what holds of a tree that stands at a place holds of the one that is known there
pub of_known : (pages : PageList) (place : TreePlace) (t known : Forest) (P : Forest → Type 0) → HasTree pages place t → HasTree pages place known → P t → P known
of_known pages place t known P held known_held holds = subst P (one_tree_at pages place t known held known_held) holds

-- SALES is defined so, has this block map, and P holds of it
pub shows : (pages : PageList) (def : TableDef) (map_tree : Forest) (P : Forest → Type 0) → DefinesTable pages 2 def → HasTree pages (map_place def) map_tree
    → P map_tree → ShowsTable pages 2 def P
shows pages def map_tree P defines held holds = record {
  within = omega arith;
  defines = defines;
  map = λ other other_held. of_known pages (map_place def) map_tree other P held other_held holds;
}

-- the table page is as it was
pub still_defined : (pages : PageList) → page_at pages 3 ≡ table_page def_sales → DefinesTable pages 2 def_sales
still_defined pages same = record { limits = limits_of_sales; printed = same }

-- the block map is as it was
pub still_mapped : (pages : PageList) → node_of 7 (page_at pages 18) ≡ LeafNode sales_lines → HasTree pages (record { root = 18; width = 7 }) old_map
unfolding below
still_mapped pages same = leaf_is_held pages (record { root = 18; width = 7 }) sales_lines same (tt, tt, (refl, tt, (refl, tt, (refl, tt, (refl, tt, tt)))))
