-- The tables around a place of a database: they are other ones, and each of them stands.
use Rattle.std.proofs.Common.{◌≡◌, ◌≢◌, ◌<◌, ◌≤◌, ◌+◌, ◌∙◌, ℕ, List, [], ◌∷◌, Some, None, sum_by, inl, inr, refl, ap, arith, sym}
use Rattle.std.specs.Prelude.{IsTrue, slice_get}
use Rattle.std.specs.List.{AllByRecursion, AllZip}
use Rattle.std.proofs.lemmas.List.Sums.{sum_by-cons}
use Rattle.std.proofs.lemmas.Option.{slice_get_within}
use Rattle.store_api.specs.declared.shape.Shape.{Shape}
use Rattle.extent_map.specs.Owners.{IsUsedPage, extent_of, owner_of, place_in_extent}
use Rattle.extent_map.specs.declared.kind.Kind.{Kind}
use Rattle.extent_map.specs.declared.kind.Kind.TheVariants.{Free, Block, Index}
use Rattle.extent_map.specs.Kinds.{is_used_place}
use Rattle.entry_tree.specs.Forest.{Forest, heads, once, times}
use Rattle.entry_tree.specs.Forest.Forest.{Nil, Leaf, Fork}
use Rattle.entry_tree.proofs.ForestLemmas.{once_same}
use Rattle.block_map.specs.MapLines.{map_lines, used_blocks}
use Rattle.table_trees.specs.TableTrees.{TreePlace, tree_places}
use Rattle.table_trees.specs.ToldPages.{HasTree, PageList, told_pages}
use Rattle.table_trees.specs.TreesBeside.{table_of_block}
use Rattle.table_trees.proofs.KeptOwnersLemmas.{used_no_block}
use Rattle.mdc_sound.specs.BlockRules.{AreBlockRowsSound, AreTableBlockIndexesSound, IsIdleCountSound, IsOfOneCell, IsUsedCountSound}
use Rattle.mdc_sound.specs.SpaceRules.{DatabaseView, IsBlockMapSound, IsIndexKind, IsIndexPage, times_in_trees}
use Rattle.mdc_sound.specs.StandingTable.{StandsTable}
use Rattle.mdc_sound.specs.TableViews.{TableView, trees_of_table}
use Rattle.mdc_sound.proofs.SpaceRulesLemmas.{there_at, there_sum, used_or_not}
use Rattle.mdc_sound.proofs.StandingTableLemmas.{forests_of}
use Rattle.stored_catalog.specs.AroundTable.{StandsBut}

-- ---- roots

root_in_tree : (root : ℕ) (t : Forest) → heads t ≡ root ∷ [] → 0 < times root t
root_in_tree root Nil is = absurd (cc)
root_in_tree root (Leaf page items next) is = let same : page ≡ root = cc in omega (arith, ap (once root) same, once_same root)
root_in_tree root (Fork page seps kids next) is = let same : page ≡ root = cc in omega (arith, ap (once root) same, once_same root)

index_of_used : (j : ℕ) (kind : Kind) → IsTrue (is_used_place j kind) → IsIndexKind kind
index_of_used j Free used = absurd (cc)
index_of_used j (Block t) used = absurd (cc)
index_of_used j (Index places) used = tt

-- the roots of trees whose pages are used lie in index extents
pub roots_used : (shape : Shape) (pages : PageList) (owners : List Kind) (places : List TreePlace) (trees : List Forest) → AllZip (HasTree pages) places trees
    → ((p : ℕ) → 0 < sum_by (times p) trees → IsUsedPage shape owners p) → AllByRecursion (λ place. IsIndexPage shape owners place.root) places
roots_used shape pages owners [] trees has used = tt
roots_used shape pages owners (place ∷ places) [] has used = absurd has
roots_used shape pages owners (place ∷ places) (t ∷ trees) has used =
    let is_used = used place.root (omega (arith, root_in_tree place.root t has.0.is_tree.head, sum_by-cons (times place.root) t trees)) in (
      record { page = is_used.page; index = index_of_used (place_in_extent shape place.root) (owner_of owners (extent_of shape place.root)) is_used.used },
      roots_used shape pages owners places trees has.1 (λ p some. used p (omega (arith, some, sum_by-cons (times p) t trees))),
    )

-- ---- around the place

module _ (shape : Shape) (pages : PageList) (view : DatabaseView) (t : ℕ) (places : List TreePlace) (trees : List Forest) (st : StandsBut shape pages view t places trees) where
  -- a table of the view is one of the 16, and another one
  pub other_place : (u : ℕ) (other : TableView) → slice_get view.places u ≡ Some (Some other) → (u < 16) × (u ≢ t)
  other_place u other at = (
    omega (arith, slice_get_within view.places u (Some other) at, st.count),
    λ e. let wrong : Some (Some other) ≡ Some None = sym at ∙ ap (slice_get view.places) e ∙ st.absent in absurd (cc),
  )

  pub number_of_other : (u : ℕ) (other : TableView) → slice_get view.places u ≡ Some (Some other) → (other.def.number ≡ u) × (other.def.number ≢ t)
  number_of_other u other at =
      let apart = (other_place u other at).1 in
      let number = (st.each u (Some other) apart at).0.limits.stands in
      (number, λ same. apart (sym number ∙ same))

  -- each page is in one tree at most, and then it is a used one
  pub times_all : (p : ℕ) → times_in_trees p view + sum_by (times p) trees ≤ 1
  times_all p = elim (used_or_not shape view.owners p) [ inl used ↦ omega (arith, st.used p used) | inr unused ↦ omega (arith, st.unused p unused) ]

  pub all_used : (p : ℕ) → 0 < times_in_trees p view + sum_by (times p) trees → IsUsedPage shape view.owners p
  all_used p some = elim (used_or_not shape view.owners p) [ inl used ↦ used | inr unused ↦ absurd (omega (arith, some, st.unused p unused)) ]

  pub times_of_other : (p u : ℕ) (other : TableView) → slice_get view.places u ≡ Some (Some other) → sum_by (times p) (trees_of_table other) ≤ times_in_trees p view
  times_of_other p u other at = there_sum (λ x. sum_by (times p) (trees_of_table x)) view.places u other at

  -- each table stands
  pub other_stood : (u : ℕ) (other : TableView) → slice_get view.places u ≡ Some (Some other) → StandsTable told_pages shape pages other.def view.owners (forests_of other)
  other_stood u other at = record {
    told = refl;
    trees = record {
      map = st.extents;
      held = there_at (λ x. AllZip (HasTree pages) (tree_places x.def) (trees_of_table x)) view.places u other at st.trees_stand;
      used = λ p some. all_used p (omega (arith, some, times_of_other p u other at));
      apart = λ p. omega (arith, times_of_other p u other at, times_all p);
    };
    map = there_at (λ x. IsBlockMapSound shape view.owners x.def x.map) view.places u other at st.block_maps;
    rows = there_at (λ x. AllByRecursion (AreBlockRowsSound shape pages x.def) (used_blocks x.map)) view.places u other at st.rows;
    used_counts = there_at (λ x. AllByRecursion (IsUsedCountSound shape pages x.def) (map_lines x.map)) view.places u other at st.counts.used;
    idle_counts = there_at (λ x. AllByRecursion IsIdleCountSound (map_lines x.map)) view.places u other at st.counts.idle;
    cells = there_at (λ x. AllByRecursion (IsOfOneCell shape pages x.def) (used_blocks x.map)) view.places u other at st.cells;
    indexes = there_at (AreTableBlockIndexesSound shape pages) view.places u other at st.block_indexes;
  }

  -- a used page lies in no block
  pub used_off : (p u : ℕ) → IsUsedPage shape view.owners p → owner_of view.owners (extent_of shape p) ≡ Block u → ⊥
  used_off p u used block =
      let none : table_of_block (owner_of view.owners (extent_of shape p)) ≡ None = used_no_block (place_in_extent shape p) (owner_of view.owners (extent_of shape p)) used.used in
      let some : table_of_block (owner_of view.owners (extent_of shape p)) ≡ Some u = ap table_of_block block in absurd (cc)
