-- The worked database keeps rules 4 and 5: its trees, and whose pages they are.
use Rattle.std.specs.Prelude.{◌≡◌, ◌≤◌, nat_le, ℕ, []}
use Rattle.std.proofs.Common.{refl, arith, inl, inr}
use Rattle.std.proofs.lemmas.Bool.{cases_lt, leb-true}
use Rattle.mdc_words.specs.ByteOrder.{below}
use Rattle.store_api.specs.StoreState.{zero_page}
use Rattle.node_page.specs.Node.{node_of}
use Rattle.entry_tree.specs.Forest.{times}
use Rattle.entry_tree.specs.Forest.Forest.{Leaf, Nil}
use Rattle.entry_tree.proofs.ForestLemmas.{once_other}
use Rattle.table_trees.specs.ToldPages.{HasTree}
use Rattle.mdc_sound.specs.EmptyDatabase.{few_extents}
use Rattle.mdc_sound.specs.SpaceRules.{AreTreePagesSound, AreTreesSound, times_in_trees}
use Rattle.sound_instances.proofs.InstancesLemmas.{counted_pages_are_sound, leaf_is_held, passes}
use Rattle.sound_instances.specs.WorkedDatabase.{price_tree, worked_view}
use Rattle.sound_instances.specs.WorkedEntries.{sales_cells, sales_cities, sales_days, sales_lines, sales_months}
use Rattle.sound_instances.specs.WorkedPages.{worked_pages}

-- ---- rule 4

pub lines_at_18 : HasTree worked_pages (record { root = 18; width = 7 }) (Leaf 18 sales_lines Nil)
unfolding node_of zero_page below
lines_at_18 = leaf_is_held worked_pages (record { root = 18; width = 7 }) sales_lines refl (tt, tt, (refl, tt, (refl, tt, (refl, tt, (refl, tt, tt)))))

cells_at_27 : HasTree worked_pages (record { root = 27; width = 14 }) (Leaf 27 sales_cells Nil)
unfolding node_of zero_page below
cells_at_27 = leaf_is_held worked_pages (record { root = 27; width = 14 }) sales_cells refl (tt, tt, (refl, tt, (refl, tt, tt)))

cities_at_23 : HasTree worked_pages (record { root = 23; width = 9 }) (Leaf 23 sales_cities Nil)
unfolding node_of zero_page below
cities_at_23 = leaf_is_held worked_pages (record { root = 23; width = 9 }) sales_cities refl (tt, tt, (refl, tt, (refl, tt, tt)))

months_at_19 : HasTree worked_pages (record { root = 19; width = 9 }) (Leaf 19 sales_months Nil)
unfolding node_of zero_page below
months_at_19 = leaf_is_held worked_pages (record { root = 19; width = 9 }) sales_months refl (tt, tt, (refl, tt, (refl, tt, tt)))

-- no page stands twice in the tree of two levels
pub prices_once : (n : ℕ) → times n price_tree ≤ 1
prices_once n = elim (cases_lt n 50) [
  | inl low ↦ leb-true (times n price_tree) 1 (passes (λ n. nat_le (times n price_tree) 1) 50 refl n low)
  | inr far ↦ omega (
    arith,
    once_other n 33 (λ e. omega (arith, e, far)),
    once_other n 22 (λ e. omega (arith, e, far)),
    once_other n 42 (λ e. omega (arith, e, far)),
    once_other n 40 (λ e. omega (arith, e, far)),
    once_other n 43 (λ e. omega (arith, e, far)),
  )
]

prices_at_33 : HasTree worked_pages (record { root = 33; width = 20 }) price_tree
unfolding node_of zero_page below
prices_at_33 = record {
  is_tree = record {
    head = refl;
    holds = (refl, (refl, (refl, (refl, (refl, tt)), tt)), tt);
    fits = (
      tt,
      (
        tt,
        (tt, refl, (refl, refl, (refl, refl, tt))),
        (tt, (refl, (refl, refl, (refl, refl, tt)), (tt, (refl, tt, (refl, tt, tt)), refl)), refl),
      ),
      refl,
    );
    distinct = prices_once;
  };
  trim = (tt, (tt, (tt, (tt, tt)), tt));
}

days_at_36 : HasTree worked_pages (record { root = 36; width = 20 }) (Leaf 36 sales_days Nil)
unfolding node_of zero_page below
days_at_36 = leaf_is_held worked_pages (record { root = 36; width = 20 }) sales_days refl (tt, tt, (refl, tt, (refl, tt, (refl, tt, (refl, tt, (refl, tt, (refl, tt, tt)))))))

pub lines_at_32 : HasTree worked_pages (record { root = 32; width = 7 }) (Leaf 32 [] Nil)
unfolding node_of zero_page below
lines_at_32 = leaf_is_held worked_pages (record { root = 32; width = 7 }) [] refl tt

cells_at_41 : HasTree worked_pages (record { root = 41; width = 13 }) (Leaf 41 [] Nil)
unfolding node_of zero_page below
cells_at_41 = leaf_is_held worked_pages (record { root = 41; width = 13 }) [] refl tt

cells_at_37 : HasTree worked_pages (record { root = 37; width = 13 }) (Leaf 37 [] Nil)
unfolding node_of zero_page below
cells_at_37 = leaf_is_held worked_pages (record { root = 37; width = 13 }) [] refl tt

pub trees_are : AreTreesSound worked_pages worked_view
trees_are = (
  (lines_at_18, (cells_at_27, (cities_at_23, (months_at_19, (prices_at_33, (days_at_36, tt)))))),
  ((lines_at_32, (cells_at_41, (cells_at_37, tt))), tt),
)

-- ---- rule 5

no_tree_behind : (p : ℕ) → 50 ≤ p → times_in_trees p worked_view ≡ 0
no_tree_behind p far = omega (
  arith,
  once_other p 18 (λ e. omega (arith, e, far)),
  once_other p 27 (λ e. omega (arith, e, far)),
  once_other p 23 (λ e. omega (arith, e, far)),
  once_other p 19 (λ e. omega (arith, e, far)),
  once_other p 33 (λ e. omega (arith, e, far)),
  once_other p 22 (λ e. omega (arith, e, far)),
  once_other p 42 (λ e. omega (arith, e, far)),
  once_other p 40 (λ e. omega (arith, e, far)),
  once_other p 43 (λ e. omega (arith, e, far)),
  once_other p 36 (λ e. omega (arith, e, far)),
  once_other p 32 (λ e. omega (arith, e, far)),
  once_other p 41 (λ e. omega (arith, e, far)),
  once_other p 37 (λ e. omega (arith, e, far)),
)

pub tree_pages_are : AreTreePagesSound few_extents worked_view
tree_pages_are = counted_pages_are_sound few_extents worked_view 50 refl refl no_tree_behind
