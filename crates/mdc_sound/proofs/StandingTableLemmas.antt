-- Tables that stand: each table of a sound database does, and it does still where no page of its own is touched.
use Rattle.std.proofs.Common.{◌≡◌, ◌≢◌, ◌<◌, ◌≤◌, ◌+◌, ◌/◌, ℕ, List, [], ◌∷◌, Some, length, sum_by, refl, ap, arith, sym, ◌∙◌, subst, inl, inr}
use Rattle.std.specs.Prelude.{IsTrue, slice_get}
use Rattle.std.specs.List.{AllByRecursion, AllZip}
use Rattle.std.proofs.lemmas.Bool.{cases_lt}
use Rattle.std.proofs.lemmas.List.{get_or_past}
use Rattle.mdc_ast.specs.declared.definition.TableDef.{TableDef}
use Rattle.store_api.specs.Extents.{first_page_of}
use Rattle.store_api.specs.Frame.{HoldsPage, OnlyPage, Touches}
use Rattle.store_api.specs.StoreState.{page_at}
use Rattle.store_api.specs.declared.pages.Pages.{Ghosts}
use Rattle.store_api.specs.declared.shape.Shape.{Shape}
use Rattle.store_api.proofs.FrameLemmas.{touches_same}
use Rattle.extent_map.specs.Map.{HoldsMap, IsMapPage}
use Rattle.extent_map.specs.Owners.{IsUsedPage, owner_of}
use Rattle.extent_map.specs.declared.kind.Kind.{Kind}
use Rattle.extent_map.specs.declared.kind.Kind.TheVariants.{Free, Block}
use Rattle.extent_map.proofs.ExtentsLemmas.{extent_of-page, is_extent_page}
use Rattle.extent_map.proofs.HoldsMapLemmas.{holds_map_still, on_map}
use Rattle.extent_map.proofs.LawsOfTheMap.{one_map}
use Rattle.entry_tree.specs.Forest.{Forest, times}
use Rattle.entry_tree.specs.HeldTrees.{nodes_in}
use Rattle.entry_tree.proofs.ForestLemmas.{same_forest}
use Rattle.table_trees.specs.TableTrees.{TreePlace, tree_places}
use Rattle.table_trees.specs.TreesBeside.{HoldsTreeAt}
use Rattle.table_trees.proofs.SideBySideLemmas.{trees_still}
use Rattle.block_map.specs.MapLines.{map_lines, used_blocks}
use Rattle.mdc_sound.specs.BlockRules.{AreBlockRowsSound, AreTableBlockIndexesSound, IsIdleCountSound, IsOfOneCell, IsUsedCountSound}
use Rattle.mdc_sound.specs.SoundDatabase.{IsSoundWith, KeepFirstRules, with_table_page}
use Rattle.mdc_sound.specs.SpaceRules.{DatabaseView, IsBlockMapSound, IsTablePlaceSound, times_in_trees}
use Rattle.mdc_sound.specs.StandingTable.{IsBlockPageOf, StandsTable, TableForests, forests_in_order, pages_of}
use Rattle.mdc_sound.specs.TableViews.{TableView, trees_of_table}
use Rattle.mdc_sound.proofs.BlockRulesLemmas.{block_map_kept, cells_kept, indexes_kept, rows_kept, used_counts_kept}
use Rattle.mdc_sound.proofs.SoundDatabaseLemmas.{length-with_table_page, without_table_page}
use Rattle.mdc_sound.proofs.SpaceRulesLemmas.{range_at, there_at, there_sum, used_or_not}
use Rattle.mdc_sound.proofs.TableRowsLemmas.{KeepsBlockPages}
use Rattle.table_trees.proofs.ToldPagesLemmas.{map_of_told, told_of_map, told_of_tree, tree_of_told}
use Rattle.table_trees.specs.ToldPages.{HasTree, PageList, told_pages}

-- a block lies within the list of owners
pub block_below : (owners : List Kind) (e t : ℕ) → owner_of owners e ≡ Block t → e < length owners
block_below owners e t is = elim (cases_lt e (length owners)) [
  | inl low ↦ low
  | inr past ↦ let wrong = sym is ∙ get_or_past owners e Free past in absurd (cc)
]

-- ---- where pages of its own are as they were

module _ {S : Type 0} {g : Ghosts S} where
  -- a block that the map shows lies within the pages
  block_within : (shape : Shape) (s : S) (owners : List Kind) (e j : ℕ) → HoldsMap g shape s owners → e < shape.extents → owner_of owners e ≢ Free → j < shape.extent_pages
      → first_page_of shape.extents shape.extent_pages e + j < length (g.state s).work
  block_within shape s owners e j map low owned within =
      let there = (map.pages (e / 512) (on_map shape.extents e low)).there e refl owned in
      let end : first_page_of shape.extents shape.extent_pages e + shape.extent_pages ≡ first_page_of shape.extents shape.extent_pages (e + 1) = omega arith in
      omega (arith, there, within, end)

  -- the pages of a block that no call touched
  pub block_kept : (Mine : ℕ → Type 0) (shape : Shape) (old new : S) (owners : List Kind) (t e : ℕ) → HoldsMap g shape old owners → IsTrue (g.state old).is_told
      → Touches g Mine old new → ((p : ℕ) → IsBlockPageOf shape owners t p → Mine p → ⊥) → e < shape.extents → owner_of owners e ≡ Block t
      → KeepsBlockPages shape (pages_of g old) (pages_of g new) e
  block_kept Mine shape old new owners t e map told touched apart low is = record {
    each = λ j within.
        let p = first_page_of shape.extents shape.extent_pages e + j in
        let owned : owner_of owners e ≢ Free = λ free. let wrong = sym is ∙ free in absurd (cc) in
        let mine : IsBlockPageOf shape owners t p = record { page = is_extent_page shape e j low within; block = ap (owner_of owners) (extent_of-page shape e j within) ∙ is } in
        let was : HoldsPage g old p (page_at (g.state old).work p) = record { is_told = told; within = block_within shape old owners e j map low owned within; bytes_are = refl } in
        let now = touched.others p (page_at (g.state old).work p) (apart p mine) was in
        let same : first_page_of shape.extents shape.extent_pages e + j ≡ p = refl in
        ap (page_at (g.state new).work) same ∙ now.bytes_are;
  }

  pub stands_kept : (Mine : ℕ → Type 0) (shape : Shape) (old new : S) (def : TableDef) (owners owners_now : List Kind) (forests : TableForests)
      → StandsTable g shape old def owners forests → HoldsMap g shape new owners_now → Touches g Mine old new → (g.state new).is_told ≡ (g.state old).is_told
      → ((p : ℕ) → 0 < sum_by (times p) (forests_in_order forests) → IsUsedPage shape owners p → IsUsedPage shape owners_now p)
      → ((e : ℕ) → owner_of owners e ≡ Block def.number → owner_of owners_now e ≡ Block def.number)
      → ((e : ℕ) → owner_of owners_now e ≡ Block def.number → owner_of owners e ≡ Block def.number)
      → ((p : ℕ) → 0 < sum_by (times p) (forests_in_order forests) → Mine p → ⊥) → ((p : ℕ) → IsBlockPageOf shape owners def.number p → Mine p → ⊥)
      → StandsTable g shape new def owners_now forests
  stands_kept Mine shape old new def owners owners_now forests st map touched told used still back off_trees off_blocks =
      let kept : (e : ℕ) → owner_of owners e ≡ Block def.number → KeepsBlockPages shape (pages_of g old) (pages_of g new) e =
      λ e is. block_kept Mine shape old new owners def.number e st.trees.map st.told touched off_blocks (below_cap e is) is in record {
        told = told ∙ st.told;
        trees = record {
          map = map;
          held = trees_still Mine old new (tree_places def) (forests_in_order forests) st.trees.held touched told off_trees;
          used = λ p l. used p l (st.trees.used p l);
          apart = st.trees.apart;
        };
        map = block_map_kept shape owners owners_now def forests.map still back st.map;
        rows = rows_kept shape (pages_of g old) (pages_of g new) def owners forests.map st.map kept st.rows;
        used_counts = used_counts_kept shape (pages_of g old) (pages_of g new) def owners forests.map st.map kept st.used_counts;
        idle_counts = st.idle_counts;
        cells = cells_kept shape (pages_of g old) (pages_of g new) def owners forests.map st.map kept st.cells;
        indexes = indexes_kept shape (pages_of g old) (pages_of g new) def owners forests.map st.map kept forests.composite forests.dims forests.indexes st.indexes;
      }
    where
      below_cap : (e : ℕ) → owner_of owners e ≡ Block def.number → e < shape.extents
      below_cap e is = omega (arith, block_below owners e def.number is, st.trees.map.count)

  -- and where no page of its trees, of its blocks and of the extent map is touched
  pub stands_still : (Mine : ℕ → Type 0) (shape : Shape) (old new : S) (def : TableDef) (owners : List Kind) (forests : TableForests) → StandsTable g shape old def owners forests
      → Touches g Mine old new → (g.state new).is_told ≡ (g.state old).is_told → length (g.state old).work ≤ length (g.state new).work → ((p : ℕ) → IsMapPage shape p → Mine p → ⊥)
      → ((p : ℕ) → 0 < sum_by (times p) (forests_in_order forests) → Mine p → ⊥) → ((p : ℕ) → IsBlockPageOf shape owners def.number p → Mine p → ⊥)
      → StandsTable g shape new def owners forests
  stands_still Mine shape old new def owners forests st touched told longer off_map off_trees off_blocks =
      stands_kept Mine shape old new def owners owners forests st (holds_map_still touched off_map longer st.trees.map) touched told
      (λ p l used. used) (λ e is. is) (λ e is. is) off_trees off_blocks

  -- and where the work stays
  pub stands_same : (shape : Shape) (old new : S) (def : TableDef) (owners : List Kind) (forests : TableForests) → (g.state new).is_told ≡ (g.state old).is_told → (g.state new).work ≡ (g.state old).work
      → StandsTable g shape old def owners forests → StandsTable g shape new def owners forests
  stands_same shape old new def owners forests told same st =
      stands_still (λ p. ⊥) shape old new def owners forests st (touches_same told same) told (omega (arith, ap length same)) (λ p on mine. mine) (λ p l mine. mine) (λ p of mine. mine)

-- ---- stores and their lists of pages

module _ {S : Type 0} (g : Ghosts S) (s : S) (told : IsTrue (g.state s).is_told) where
  trees_of_list : (places : List TreePlace) (trees : List Forest) → AllZip (HasTree (pages_of g s)) places trees → AllZip (HoldsTreeAt g s) places trees
  trees_of_list [] [] h = tt
  trees_of_list [] (t ∷ trees) h = absurd h
  trees_of_list (place ∷ places) [] h = absurd h
  trees_of_list (place ∷ places) (t ∷ trees) h = (told_of_tree g s told place t h.0, trees_of_list places trees h.1)

  list_of_trees : (places : List TreePlace) (trees : List Forest) → AllZip (HoldsTreeAt g s) places trees → AllZip (HasTree (pages_of g s)) places trees
  list_of_trees [] [] h = tt
  list_of_trees [] (t ∷ trees) h = absurd h
  list_of_trees (place ∷ places) [] h = absurd h
  list_of_trees (place ∷ places) (t ∷ trees) h = (tree_of_told g s told place t h.0, list_of_trees places trees h.1)

  -- a table stands in a store that tells its pages where it stands in their list
  pub stands_told : (shape : Shape) (def : TableDef) (owners : List Kind) (forests : TableForests) → StandsTable told_pages shape (pages_of g s) def owners forests → StandsTable g shape s def owners forests
  stands_told shape def owners forests st = record {
    told = told;
    trees = record {
      map = told_of_map g s told shape owners st.trees.map;
      held = trees_of_list (tree_places def) (forests_in_order forests) st.trees.held;
      used = st.trees.used;
      apart = st.trees.apart;
    };
    map = st.map;
    rows = st.rows;
    used_counts = st.used_counts;
    idle_counts = st.idle_counts;
    cells = st.cells;
    indexes = st.indexes;
  }

  pub stands_listed : (shape : Shape) (def : TableDef) (owners : List Kind) (forests : TableForests) → StandsTable g shape s def owners forests → StandsTable told_pages shape (pages_of g s) def owners forests
  stands_listed shape def owners forests st = record {
    told = refl;
    trees = record {
      map = map_of_told g s told shape owners st.trees.map;
      held = list_of_trees (tree_places def) (forests_in_order forests) st.trees.held;
      used = st.trees.used;
      apart = st.trees.apart;
    };
    map = st.map;
    rows = st.rows;
    used_counts = st.used_counts;
    idle_counts = st.idle_counts;
    cells = st.cells;
    indexes = st.indexes;
  }

-- ---- tables of sound pages

-- the trees of a table
abbrev pub forests_of : TableView → TableForests
forests_of table = record { map = table.map; composite = table.composite; dims = table.dims; indexes = table.indexes }

module _ (shape : Shape) (pages : PageList) (view : DatabaseView) (keeps : KeepFirstRules shape pages view) where
  -- the number of a table is its place
  pub number_of_place : (t : ℕ) (table : TableView) → slice_get view.places t ≡ Some (Some table) → (t < 16) × (table.def.number ≡ t)
  number_of_place t table at =
      let here = range_at (IsTablePlaceSound shape pages view.owners) 0 16 view.places t (Some table) keeps.rule3.each at in
      let same : 0 + t ≡ t = omega arith in
      (here.0, here.1.0.limits.stands ∙ same)

  -- how often a page stands in the trees of one table
  pub times_of_table : (p t : ℕ) (table : TableView) → slice_get view.places t ≡ Some (Some table) → sum_by (times p) (trees_of_table table) ≤ times_in_trees p view
  times_of_table p t table at = there_sum (λ other. sum_by (times p) (trees_of_table other)) view.places t table at

  pub times_once : (p : ℕ) → times_in_trees p view ≤ 1
  times_once p = elim (used_or_not shape view.owners p) [
    | inl used ↦ omega (arith, (keeps.rule5 p).used used)
    | inr unused ↦ omega (arith, (keeps.rule5 p).others unused)
  ]

  pub trees_used : (p t : ℕ) (table : TableView) → slice_get view.places t ≡ Some (Some table) → 0 < sum_by (times p) (trees_of_table table) → IsUsedPage shape view.owners p
  trees_used p t table at some = elim (used_or_not shape view.owners p) [
    | inl used ↦ used
    | inr unused ↦ absurd (omega (arith, (keeps.rule5 p).others unused, times_of_table p t table at, some))
  ]

  pub map_of_rules : HoldsMap told_pages shape pages view.owners
  map_of_rules = record { count = keeps.rule2.count; pages = λ i low. (keeps.rule2.each i low).held }

  -- each table stands
  pub stands_of_rules : (t : ℕ) (table : TableView) → slice_get view.places t ≡ Some (Some table) → StandsTable told_pages shape pages table.def view.owners (forests_of table)
  stands_of_rules t table at = record {
    told = refl;
    trees = record {
      map = map_of_rules;
      held = there_at (λ other. AllZip (HasTree pages) (tree_places other.def) (trees_of_table other)) view.places t table at keeps.rule4;
      used = λ p some. trees_used p t table at some;
      apart = λ p. omega (arith, times_of_table p t table at, times_once p);
    };
    map = there_at (λ other. IsBlockMapSound shape view.owners other.def other.map) view.places t table at keeps.rule6;
    rows = there_at (λ other. AllByRecursion (AreBlockRowsSound shape pages other.def) (used_blocks other.map)) view.places t table at keeps.rule7;
    used_counts = there_at (λ other. AllByRecursion (IsUsedCountSound shape pages other.def) (map_lines other.map)) view.places t table at keeps.rule8.used;
    idle_counts = there_at (λ other. AllByRecursion IsIdleCountSound (map_lines other.map)) view.places t table at keeps.rule8.idle;
    cells = there_at (λ other. AllByRecursion (IsOfOneCell shape pages other.def) (used_blocks other.map)) view.places t table at keeps.rule9;
    indexes = there_at (AreTableBlockIndexesSound shape pages) view.places t table at keeps.rule10;
  }

-- ---- with a definition in hand

-- The table of the definition in hand stands, with its page as it is.
pub stands_of_sound : {S : Type 0} (g : Ghosts S) (shape : Shape) (s : S) (def : TableDef) (sound : IsSoundWith shape def (pages_of g s)) → IsTrue (g.state s).is_told
    → StandsTable g shape s def sound.view.owners (forests_of sound.table)
stands_of_sound g shape s def sound told =
    let pages = pages_of g s in
    let with = with_table_page def pages in
    let place = number_of_place shape with sound.view sound.first def.number sound.table sound.there in
    let as_it_was : StandsTable told_pages shape with def sound.view.owners (forests_of sound.table) =
    subst (λ d. StandsTable told_pages shape with d sound.view.owners (forests_of sound.table)) sound.same (stands_of_rules shape with sound.view sound.first def.number sound.table sound.there) in
    let here : StandsTable told_pages shape pages def sound.view.owners (forests_of sound.table) =
    stands_still (OnlyPage (1 + def.number)) shape with pages def sound.view.owners (forests_of sound.table) as_it_was (without_table_page def pages) refl
    (omega (arith, length-with_table_page def pages))
    (λ p on only. omega (arith, on.0, only, place.0))
    (λ p l only. omega (arith, (as_it_was.trees.used p l).page.behind, only, place.0))
    (λ p of only. omega (arith, of.page.behind, only, place.0)) in
    stands_told g s told shape def sound.view.owners (forests_of sound.table) here

-- ---- one of each

same_trees : {S : Type 0} (g : Ghosts S) (s : S) (places : List TreePlace) (trees others : List Forest) → AllZip (HoldsTreeAt g s) places trees → AllZip (HoldsTreeAt g s) places others → trees ≡ others
same_trees g s [] [] [] h k = refl
same_trees g s [] [] (u ∷ others) h k = absurd k
same_trees g s [] (t ∷ trees) others h k = absurd h
same_trees g s (place ∷ places) [] others h k = absurd h
same_trees g s (place ∷ places) (t ∷ trees) [] h k = absurd k
same_trees g s (place ∷ places) (t ∷ trees) (u ∷ others) h k =
    let first : t ≡ u = same_forest (nodes_in place.width (g.state s)) t u h.0.is_tree.holds k.0.is_tree.holds (h.0.is_tree.head ∙ sym k.0.is_tree.head) in
    let rest : trees ≡ others = same_trees g s places trees others h.1 k.1 in
    cc (first, rest)

-- A table stands with one list of owners and one list of trees at most, so that those of the view of sound pages are these.
pub one_standing : {S : Type 0} (g : Ghosts S) (shape : Shape) (s : S) (def : TableDef) (owners others : List Kind) (forests more : TableForests) → StandsTable g shape s def owners forests
    → StandsTable g shape s def others more → (owners ≡ others) × (forests_in_order forests ≡ forests_in_order more)
one_standing g shape s def owners others forests more one other =
    (one_map one.trees.map other.trees.map, same_trees g s (tree_places def) (forests_in_order forests) (forests_in_order more) one.trees.held other.trees.held)
