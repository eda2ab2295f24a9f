-- A change of one table keeps the first ten rules of all tables: its own table stands, and no page of any other was touched.
use Rattle.std.proofs.Common.{◌≡◌, ◌≢◌, ◌<◌, ◌≤◌, ◌+◌, ◌/◌, ℕ, zero, suc, List, [], ◌∷◌, ◌++◌, false, Option, Some, None, length, set, sum_by, refl, ap, arith, sym, ◌∙◌, subst, ◌⊎◌, inl, inr}
use Rattle.std.specs.Prelude.{IsTrue, AllPairs, flat_map, map, slice_get, slice_index_or}
use Rattle.std.specs.List.{AllByRecursion, AllZip}
use Rattle.std.proofs.lemmas.Bool.{cases_eq, cases_lt}
use Rattle.std.proofs.lemmas.List.{get_or-map, length-map, length-set}
use Rattle.std.proofs.lemmas.List.Sums.{sum_by-cons}
use Rattle.mdc_words.proofs.PlacesLemmas.{slice_get-set_same, slice_get-set_other}
use Rattle.mdc_ast.specs.declared.definition.IndexDef.{IndexDef}
use Rattle.mdc_ast.specs.declared.definition.TableDef.{TableDef}
use Rattle.store_api.specs.Extents.{map_pages}
use Rattle.store_api.specs.Frame.{HoldsPage, Touches}
use Rattle.store_api.specs.StoreState.{zero_page}
use Rattle.store_api.specs.declared.shape.Shape.{Shape}
use Rattle.extent_map.specs.Kinds.{is_used_place, is_unused_place}
use Rattle.extent_map.specs.Map.{IsSpacePage}
use Rattle.extent_map.specs.Owners.{IsUsedPage, extent_of, owner_of, place_in_extent}
use Rattle.extent_map.specs.declared.kind.Kind.{Kind}
use Rattle.extent_map.specs.declared.kind.Kind.TheVariants.{Free, Block, Index}
use Rattle.extent_map.proofs.HoldsMapLemmas.{on_map}
use Rattle.entry_tree.specs.Forest.{Forest, heads, once, times}
use Rattle.entry_tree.specs.Forest.Forest.{Nil, Leaf, Fork}
use Rattle.entry_tree.specs.Standing.{IsIdlePage}
use Rattle.entry_tree.proofs.ForestLemmas.{once_same}
use Rattle.entry_tree.proofs.StandingLemmas.{extent_not_space, used_not_space}
use Rattle.entry_tree.proofs.UsedPagesLemmas.{used_not_idle}
use Rattle.table_page.specs.TablePage.{IsTablePageOf}
use Rattle.table_page.proofs.TablePageLemmas.{no_blank_table}
use Rattle.table_trees.specs.TableTrees.{TreePlace, tree_places}
use Rattle.table_trees.specs.ToldPages.{HasTree, PageList, told_pages}
use Rattle.block_map.specs.MapLines.{map_lines, used_blocks}
use Rattle.mdc_sound.specs.BlockRules.{AreBlockRowsSound, AreTableBlockIndexesSound, IsIdleCountSound, IsOfOneCell, IsUsedCountSound}
use Rattle.mdc_sound.specs.SoundDatabase.{KeepFirstRules}
use Rattle.mdc_sound.specs.SpaceRules.{AreTablePagesSound, AreTreePagesSound, DatabaseView, IsBlockMapSound, IsIndexKind, IsIndexPage, IsMapSound, IsOwnerThere, IsRootSound, IsTablePlaceSound, definitions_in, tables_there, times_in_trees}
use Rattle.mdc_sound.specs.StandingTable.{IsBlockPageOf, StandsTable, TableForests, forests_in_order, view_of}
use Rattle.mdc_sound.specs.TablePages.{DefinesTable, IsTableThere, table_page_at}
use Rattle.mdc_sound.specs.TableRows.{PlacedRow, rows_in_table}
use Rattle.mdc_sound.specs.TableViews.{TableView, trees_of_table}
use Rattle.mdc_sound.proofs.BlockRulesLemmas.{table_rows_kept}
use Rattle.mdc_sound.proofs.SpaceRulesLemmas.{each_there, range_at, range_each, range_length, same_table, set_there_sum, there_at, two_there_sum, used_or_not}
use Rattle.mdc_sound.proofs.StandingTableLemmas.{block_below, block_kept, forests_of, number_of_place, stands_kept, stands_of_rules, times_of_table, times_once, trees_used}

-- ---- kinds of extents

used_block : (j t : ℕ) (kind : Kind) → IsTrue (is_used_place j kind) → kind ≡ Block t → ⊥
used_block j t kind used is = let no : is_used_place j kind ≡ false = ap (is_used_place j) is in absurd (cc)

unused_block : (j t : ℕ) (kind : Kind) → IsTrue (is_unused_place j kind) → kind ≡ Block t → ⊥
unused_block j t kind unused is = let no : is_unused_place j kind ≡ false = ap (is_unused_place j) is in absurd (cc)

index_of_used : (j : ℕ) (kind : Kind) → IsTrue (is_used_place j kind) → IsIndexKind kind
index_of_used j Free used = absurd (cc)
index_of_used j (Block t) used = absurd (cc)
index_of_used j (Index places) used = tt

idle_no_block : (shape : Shape) (owners : List Kind) (p t : ℕ) → IsIdlePage shape owners p → owner_of owners (extent_of shape p) ≡ Block t → ⊥
idle_no_block shape owners p t idle is = elim idle.idle [
  | inl unused ↦ unused_block (place_in_extent shape p) t (owner_of owners (extent_of shape p)) unused.unused is
  | inr free ↦ let wrong = sym is ∙ free in absurd (cc)
]

used_no_block : (shape : Shape) (owners : List Kind) (p t : ℕ) → IsUsedPage shape owners p → owner_of owners (extent_of shape p) ≡ Block t → ⊥
used_no_block shape owners p t used is = used_block (place_in_extent shape p) t (owner_of owners (extent_of shape p)) used.used is

-- ---- names

-- lists of things of the same names
pairs_along : {X Y : Type 0} (f : X → Y) (xs ys : List X) → map f xs ≡ map f ys → AllPairs (λ a b. f a ≢ f b) ys → AllPairs (λ a b. f a ≢ f b) xs
pairs_along f xs ys same apart i j d low high e =
    let count : length xs ≡ length ys = sym (length-map xs f) ∙ ap length same ∙ length-map ys f in
    let at : (k : ℕ) → k < length xs → f (slice_index_or ys k d) ≡ f (slice_index_or xs k d) =
    λ k l. sym (get_or-map f ys k d (f d) (omega (arith, l, count))) ∙ ap (λ l. slice_index_or l k (f d)) (sym same) ∙ get_or-map f xs k d (f d) l in
    apart i j d low (omega (arith, high, count)) (at i (omega (arith, low, high)) ∙ e ∙ sym (at j high))

-- a table of the same definition's name, or indexes, takes the place of one
names_of_set : (places : List (Option TableView)) (t : ℕ) (table now : TableView) → slice_get places t ≡ Some (Some table) → now.def.name ≡ table.def.name
    → map (λ (def : TableDef). def.name) (map (λ (x : TableView). x.def) (tables_there (set places t (Some now)))) ≡ map (λ (def : TableDef). def.name) (map (λ (x : TableView). x.def) (tables_there places))
names_of_set [] t table now at same = absurd (cc)
names_of_set (None ∷ places) zero table now at same = absurd (cc)
names_of_set (Some first ∷ places) zero table now at same =
    ap (λ name. name ∷ map (λ (def : TableDef). def.name) (map (λ (x : TableView). x.def) (tables_there places))) (same ∙ sym (ap (λ (x : TableView). x.def.name) (same_table first table at)))
names_of_set (None ∷ places) (suc t) table now at same = names_of_set places t table now at same
names_of_set (Some first ∷ places) (suc t) table now at same = ap (λ names. first.def.name ∷ names) (names_of_set places t table now at same)

indexes_of_set : (places : List (Option TableView)) (t : ℕ) (table now : TableView) → slice_get places t ≡ Some (Some table) → now.def.indexes ≡ table.def.indexes
    → flat_map (λ (def : TableDef). def.indexes) (map (λ (x : TableView). x.def) (tables_there (set places t (Some now)))) ≡ flat_map (λ (def : TableDef). def.indexes) (map (λ (x : TableView). x.def) (tables_there places))
indexes_of_set [] t table now at same = absurd (cc)
indexes_of_set (None ∷ places) zero table now at same = absurd (cc)
indexes_of_set (Some first ∷ places) zero table now at same =
    ap (λ all. all ++ flat_map (λ (def : TableDef). def.indexes) (map (λ (x : TableView). x.def) (tables_there places))) (same ∙ sym (ap (λ (x : TableView). x.def.indexes) (same_table first table at)))
indexes_of_set (None ∷ places) (suc t) table now at same = indexes_of_set places t table now at same
indexes_of_set (Some first ∷ places) (suc t) table now at same = ap (λ more. first.def.indexes ++ more) (indexes_of_set places t table now at same)

-- ---- roots

root_in_tree : (root : ℕ) (t : Forest) → heads t ≡ root ∷ [] → 0 < times root t
root_in_tree root Nil is = absurd (cc)
root_in_tree root (Leaf page items next) is = let same : page ≡ root = cc in omega (arith, ap (once root) same, once_same root)
root_in_tree root (Fork page seps kids next) is = let same : page ≡ root = cc in omega (arith, ap (once root) same, once_same root)

-- the roots of trees whose pages are used lie in index extents
roots_used : (shape : Shape) (pages : PageList) (owners : List Kind) (places : List TreePlace) (trees : List Forest) → AllZip (HasTree pages) places trees
    → ((p : ℕ) → 0 < sum_by (times p) trees → IsUsedPage shape owners p) → AllByRecursion (λ place. IsIndexPage shape owners place.root) places
roots_used shape pages owners [] trees has used = tt
roots_used shape pages owners (place ∷ places) [] has used = absurd has
roots_used shape pages owners (place ∷ places) (t ∷ trees) has used =
    let is_used = used place.root (omega (arith, root_in_tree place.root t has.0.is_tree.head, sum_by-cons (times place.root) t trees)) in (
      record { page = is_used.page; index = index_of_used (place_in_extent shape place.root) (owner_of owners (extent_of shape place.root)) is_used.used },
      roots_used shape pages owners places trees has.1 (λ p some. used p (omega (arith, some, sum_by-cons (times p) t trees))),
    )

-- ---- a change of one table

-- the pages that are a table's own, or may become so: those of its trees and blocks, of the extent map with page 0, idle ones,
-- and its table page
abbrev pub IsPlaceSpace : Shape → List Kind → TableView → ℕ → ℕ → Type 0
IsPlaceSpace shape owners table t p =
    0 < sum_by (times p) (trees_of_table table) ⊎ (IsBlockPageOf shape owners t p ⊎ (IsSpacePage shape p ⊎ (IsIdlePage shape owners p ⊎ (p ≡ 1 + t))))

-- The table in a place became another one that stands. The blocks and the used index pages of the others are as they were, and
-- so is each page that isn't one of its own.
pub record ChangesPlace (shape : Shape) (old new : PageList) (owners : List Kind) (table : TableView) (def_now : TableDef) (owners_now : List Kind) (forests_now : TableForests) (t : ℕ) : Type 0 where
  pub stands : StandsTable told_pages shape new def_now owners_now forests_now
  pub defines : DefinesTable new t def_now
  pub name : def_now.name ≡ table.def.name
  pub indexes : def_now.indexes ≡ table.def.indexes
  pub root : IsRootSound shape new
  pub others_blocks : (e u : ℕ) → u ≢ t → owner_of owners e ≡ Block u → owner_of owners_now e ≡ Block u
  pub no_others_blocks : (e u : ℕ) → u ≢ t → owner_of owners_now e ≡ Block u → owner_of owners e ≡ Block u
  pub others_pages : (p : ℕ) → IsUsedPage shape owners p → sum_by (times p) (trees_of_table table) ≡ 0 → IsUsedPage shape owners_now p
  pub used_pages : (p : ℕ) → IsUsedPage shape owners_now p
      → 0 < sum_by (times p) (forests_in_order forests_now) ⊎ (IsUsedPage shape owners p × (sum_by (times p) (trees_of_table table) ≡ 0))
  pub pages : (p : ℕ) → 0 < sum_by (times p) (forests_in_order forests_now) → 0 < sum_by (times p) (trees_of_table table) ⊎ IsIdlePage shape owners p
  pub touched : Touches told_pages (IsPlaceSpace shape owners table t) old new

module _ (shape : Shape) (old new : PageList) (view : DatabaseView) (table : TableView) (def_now : TableDef) (owners_now : List Kind) (forests_now : TableForests) (t : ℕ)
    (keeps : KeepFirstRules shape old view) (there : slice_get view.places t ≡ Some (Some table))
    (changes : ChangesPlace shape old new view.owners table def_now owners_now forests_now t) where
  low : t < 16
  low = (number_of_place shape old view keeps t table there).0

  -- a page of another table's trees, or blocks, isn't one of this one's own
  off_trees : (p u : ℕ) (other : TableView) → u ≢ t → slice_get view.places u ≡ Some (Some other) → 0 < sum_by (times p) (trees_of_table other)
      → IsPlaceSpace shape view.owners table t p → ⊥
  off_trees p u other apart at some mine = go mine
    where
      used : IsUsedPage shape view.owners p
      used = trees_used shape old view keeps p u other at some

      go : IsPlaceSpace shape view.owners table t p → ⊥
      go (inl l) = omega (arith, l, some, two_there_sum (λ x. sum_by (times p) (trees_of_table x)) view.places u t other table apart at there, times_once shape old view keeps p)
      go (inr (inl of)) = used_no_block shape view.owners p t used of.block
      go (inr (inr (inl space))) = used_not_space shape view.owners p used space
      go (inr (inr (inr (inl idle)))) = used_not_idle shape view.owners p used idle
      go (inr (inr (inr (inr only)))) = omega (arith, only, used.page.behind, low)

  off_blocks : (p u : ℕ) → u ≢ t → IsBlockPageOf shape view.owners u p → IsPlaceSpace shape view.owners table t p → ⊥
  off_blocks p u apart block mine = go mine
    where
      go : IsPlaceSpace shape view.owners table t p → ⊥
      go (inl l) = used_no_block shape view.owners p u (trees_used shape old view keeps p t table there l) block.block
      go (inr (inl of)) = let kinds : Block u ≡ Block t = sym block.block ∙ of.block in let same : u ≡ t = cc in apart same
      go (inr (inr (inl space))) = extent_not_space shape p block.page space
      go (inr (inr (inr (inl idle)))) = idle_no_block shape view.owners p u idle block.block
      go (inr (inr (inr (inr only)))) = omega (arith, only, block.page.behind, low)

  off_table_pages : (u : ℕ) → u < 16 → u ≢ t → IsPlaceSpace shape view.owners table t (1 + u) → ⊥
  off_table_pages u few apart mine = go mine
    where
      go : IsPlaceSpace shape view.owners table t (1 + u) → ⊥
      go (inl l) = omega (arith, few, (trees_used shape old view keeps (1 + u) t table there l).page.behind)
      go (inr (inl of)) = omega (arith, few, of.page.behind)
      go (inr (inr (inl (inl zero_is)))) = omega (arith, zero_is)
      go (inr (inr (inl (inr on)))) = omega (arith, on.0, few)
      go (inr (inr (inr (inl idle)))) = omega (arith, few, idle.page.behind)
      go (inr (inr (inr (inr only)))) = apart (omega (arith, only))

  -- ---- all tables stand

  pub other_stands : (u : ℕ) (other : TableView) → u ≢ t → slice_get view.places u ≡ Some (Some other) → StandsTable told_pages shape new other.def owners_now (forests_of other)
  other_stands u other apart at =
      let number : other.def.number ≡ u = (number_of_place shape old view keeps u other at).1 in
      let differs : other.def.number ≢ t = λ same. apart (sym number ∙ same) in
      stands_kept (IsPlaceSpace shape view.owners table t) shape old new other.def view.owners owners_now (forests_of other) (stands_of_rules shape old view keeps u other at) changes.stands.trees.map changes.touched refl
      (λ p some used. changes.others_pages p used
      (omega (arith, some, two_there_sum (λ x. sum_by (times p) (trees_of_table x)) view.places u t other table apart at there, times_once shape old view keeps p)))
      (λ e is. changes.others_blocks e other.def.number differs is) (λ e is. changes.no_others_blocks e other.def.number differs is)
      (λ p some mine. off_trees p u other apart at some mine) (λ p of mine. off_blocks p other.def.number differs of mine)

  places_now : List (Option TableView)
  places_now = set view.places t (Some (view_of def_now forests_now))

  count_places : length view.places ≡ 16
  count_places = range_length (IsTablePlaceSound shape old view.owners) 0 16 view.places keeps.rule3.each

  now_there : slice_get places_now t ≡ Some (Some (view_of def_now forests_now))
  unfolding places_now
  now_there = slice_get-set_same view.places t (Some (view_of def_now forests_now)) (omega (arith, low, count_places))

  other_there : (u : ℕ) → u ≢ t → slice_get places_now u ≡ slice_get view.places u
  unfolding places_now
  other_there u apart = slice_get-set_other view.places t (Some (view_of def_now forests_now)) u apart

  standing_now : (u : ℕ) (other : TableView) → slice_get places_now u ≡ Some (Some other) → StandsTable told_pages shape new other.def owners_now (forests_of other)
  standing_now u other at = elim (cases_eq u t) [
    | inl e ↦
        let same : Some (Some (view_of def_now forests_now)) ≡ Some (Some other) = sym now_there ∙ ap (slice_get places_now) (sym e) ∙ at in
        subst (λ (x : TableView). StandsTable told_pages shape new x.def owners_now (forests_of x)) (same_table (view_of def_now forests_now) other same) changes.stands
    | inr apart ↦ other_stands u other apart (sym (other_there u apart) ∙ at)
  ]

  -- ---- rules 1 to 5

  view_now : DatabaseView
  view_now = record { owners = owners_now; places = places_now }

  pub table_page_kept : (u : ℕ) → u < 16 → u ≢ t → table_page_at new u ≡ table_page_at old u
  table_page_kept u few apart =
      let count = keeps.rule1.count in
      let was : HoldsPage told_pages old (1 + u) (table_page_at old u) = record { is_told = refl; within = omega (arith, count.count, few); bytes_are = refl } in
      (changes.touched.others (1 + u) (table_page_at old u) (off_table_pages u few apart) was).bytes_are

  owner_there : (e : ℕ) (kind : Kind) → owner_of owners_now e ≡ kind → IsOwnerThere new kind
  owner_there e Free is = tt
  owner_there e (Index used) is = tt
  owner_there e (Block u) is = elim (cases_eq u t) [
    | inl same ↦ subst (λ v. IsTableThere new v) (sym same) (low, λ blank. no_blank_table t def_now (subst (λ page. IsTablePageOf t def_now page) blank changes.defines))
    | inr apart ↦
        let was : owner_of view.owners e ≡ Block u = changes.no_others_blocks e u apart is in
        let on : e / 512 < map_pages shape.extents = on_map shape.extents e (omega (arith, block_below view.owners e u was, keeps.rule2.count)) in
        let there_then : IsTableThere old u = subst (λ kind. IsOwnerThere old kind) was ((keeps.rule2.each (e / 512) on).owned e refl) in
        (there_then.0, λ blank. there_then.1 (sym (table_page_kept u there_then.0 apart) ∙ blank))
  ]

  rule2_now : IsMapSound shape new owners_now
  rule2_now = record {
    count = changes.stands.trees.map.count;
    each = λ i within. record { held = changes.stands.trees.map.pages i within; owned = λ e on. owner_there e (owner_of owners_now e) refl };
  }

  place_now : (u : ℕ) (place : Option TableView) → slice_get places_now u ≡ Some place → IsTablePlaceSound shape new owners_now u place
  place_now u None at = elim (cases_eq u t) [
    | inl e ↦ let wrong : Some None ≡ Some (Some (view_of def_now forests_now)) = sym at ∙ ap (slice_get places_now) e ∙ now_there in absurd (cc)
    | inr apart ↦
        let was = range_at (IsTablePlaceSound shape old view.owners) 0 16 view.places u None keeps.rule3.each (sym (other_there u apart) ∙ at) in
        let same : 0 + u ≡ u = omega arith in
        table_page_kept u was.0 apart ∙ subst (λ v. table_page_at old v ≡ zero_page) same was.1
  ]
  place_now u (Some other) at = (
    defines u other at,
    roots_used shape new owners_now (tree_places other.def) (trees_of_table other) (standing_now u other at).trees.held (standing_now u other at).trees.used,
  )
    where
      defines : (v : ℕ) (x : TableView) → slice_get places_now v ≡ Some (Some x) → DefinesTable new v x.def
      defines v x is = elim (cases_eq v t) [
        | inl e ↦
            let same : Some (Some (view_of def_now forests_now)) ≡ Some (Some x) = sym now_there ∙ ap (slice_get places_now) (sym e) ∙ is in
            let def : def_now ≡ x.def = ap (λ (y : TableView). y.def) (same_table (view_of def_now forests_now) x same) in
            subst (λ (w : ℕ). DefinesTable new w x.def) (sym e) (subst (λ d. DefinesTable new t d) def changes.defines)
        | inr apart ↦
            let was = range_at (IsTablePlaceSound shape old view.owners) 0 16 view.places v (Some x) keeps.rule3.each (sym (other_there v apart) ∙ is) in
            let same : 0 + v ≡ v = omega arith in
            let then : DefinesTable old v x.def = subst (λ w. DefinesTable old w x.def) same was.1.0 in
            subst (λ page. IsTablePageOf v x.def page) (sym (table_page_kept v was.0 apart)) then
      ]

  rule3_now : AreTablePagesSound shape new view_now
  unfolding view_now places_now
  rule3_now = record {
    each = range_each (IsTablePlaceSound shape new owners_now) 0 16 places_now (length-set view.places t (Some (view_of def_now forests_now)) ∙ count_places)
        (λ u place at. let same : u ≡ 0 + u = omega arith in subst (λ v. IsTablePlaceSound shape new owners_now v place) same (place_now u place at));
    tables_differ = pairs_along (λ (def : TableDef). def.name) (definitions_in view_now) (definitions_in view) (names_of_set view.places t table (view_of def_now forests_now) there changes.name) keeps.rule3.tables_differ;
    indexes_differ = subst (λ indexes. AllPairs (λ (a b : IndexDef). a.name ≢ b.name) indexes) (sym (indexes_of_set view.places t table (view_of def_now forests_now) there changes.indexes)) keeps.rule3.indexes_differ;
  }

  -- how often a page stands in all trees now, and did then
  times_now : (p : ℕ) → times_in_trees p view_now + sum_by (times p) (trees_of_table table) ≡ times_in_trees p view + sum_by (times p) (forests_in_order forests_now)
  unfolding view_now places_now
  times_now p = set_there_sum (λ x. sum_by (times p) (trees_of_table x)) view.places t table (view_of def_now forests_now) there

  module _ (p : ℕ) where
    mine : ℕ
    mine = sum_by (times p) (trees_of_table table)

    mine_least : mine ≤ times_in_trees p view
    unfolding mine
    mine_least = times_of_table shape old view keeps p t table there

    used_once : IsUsedPage shape owners_now p → times_in_trees p view_now ≡ 1
    unfolding mine
    used_once used = elim (changes.used_pages p used) [
      | inl some ↦ elim (changes.pages p some) [
        | inl l ↦ omega (arith, times_now p, l, mine_least, times_once shape old view keeps p, some, changes.stands.trees.apart p)
        | inr idle ↦
            let none = (keeps.rule5 p).others (λ was. used_not_idle shape view.owners p was idle) in
            omega (arith, times_now p, none, mine_least, some, changes.stands.trees.apart p)
      ]
      | inr was ↦ elim (cases_lt 0 (sum_by (times p) (forests_in_order forests_now))) [
        | inl some ↦ elim (changes.pages p some) [
          | inl l ↦ absurd (omega (arith, l, was.1))
          | inr idle ↦ absurd (used_not_idle shape view.owners p was.0 idle)
        ]
        | inr none ↦ omega (arith, times_now p, none, was.1, (keeps.rule5 p).used was.0)
      ]
    ]

    unused_none : (IsUsedPage shape owners_now p → ⊥) → times_in_trees p view_now ≡ 0
    unfolding mine
    unused_none unused = elim (cases_lt 0 (sum_by (times p) (forests_in_order forests_now))) [
      | inl some ↦ absurd (unused (changes.stands.trees.used p some))
      | inr none ↦ elim (used_or_not shape view.owners p) [
        | inr idle ↦ omega (arith, times_now p, none, mine_least, (keeps.rule5 p).others idle)
        | inl used ↦ elim (cases_lt 0 mine) [
          | inl l ↦ omega (arith, times_now p, none, l, mine_least, (keeps.rule5 p).used used)
          | inr zero_is ↦
              let is_zero : sum_by (times p) (trees_of_table table) ≡ 0 = omega (arith, zero_is) in
              absurd (unused (changes.others_pages p used is_zero))
        ]
      ]
    ]

  rule5_now : AreTreePagesSound shape view_now
  unfolding view_now
  rule5_now p = record {
    used = λ used. used_once p (used);
    others = λ unused. unused_none p unused;
  }

  -- ---- all ten

  pub first_rules_now : KeepFirstRules shape new (record { owners = owners_now; places = set view.places t (Some (view_of def_now forests_now)) })
  unfolding view_now places_now
  first_rules_now = record {
    rule1 = changes.root;
    rule2 = rule2_now;
    rule3 = rule3_now;
    rule4 = each_there (λ x. AllZip (HasTree new) (tree_places x.def) (trees_of_table x)) places_now (λ u x at. (standing_now u x at).trees.held);
    rule5 = rule5_now;
    rule6 = each_there (λ x. IsBlockMapSound shape owners_now x.def x.map) places_now (λ u x at. (standing_now u x at).map);
    rule7 = each_there (λ x. AllByRecursion (AreBlockRowsSound shape new x.def) (used_blocks x.map)) places_now (λ u x at. (standing_now u x at).rows);
    rule8 = record {
      used = each_there (λ x. AllByRecursion (IsUsedCountSound shape new x.def) (map_lines x.map)) places_now (λ u x at. (standing_now u x at).used_counts);
      idle = each_there (λ x. AllByRecursion IsIdleCountSound (map_lines x.map)) places_now (λ u x at. (standing_now u x at).idle_counts);
    };
    rule9 = each_there (λ x. AllByRecursion (IsOfOneCell shape new x.def) (used_blocks x.map)) places_now (λ u x at. (standing_now u x at).cells);
    rule10 = each_there (AreTableBlockIndexesSound shape new) places_now (λ u x at. (standing_now u x at).indexes);
  }

  -- ---- what is said of the rows of each table

  -- the rows of another table are as they were
  pub other_rows : (u : ℕ) (other : TableView) → u ≢ t → slice_get view.places u ≡ Some (Some other) → rows_in_table shape new other.def other.map ≡ rows_in_table shape old other.def other.map
  other_rows u other apart at =
      let number : other.def.number ≡ u = (number_of_place shape old view keeps u other at).1 in
      let differs : other.def.number ≢ t = λ same. apart (sym number ∙ same) in
      let stood = stands_of_rules shape old view keeps u other at in
      table_rows_kept shape old new other.def view.owners other.map stood.map
      (λ e is. block_kept (IsPlaceSpace shape view.owners table t) shape old new view.owners other.def.number e stood.trees.map refl changes.touched
      (λ p of mine. off_blocks p other.def.number differs of mine) (omega (arith, block_below view.owners e other.def.number is, stood.trees.map.count)) is)

  -- so what was said of the rows of each table is said of them now, where it is of the changed one's
  pub each_table_now : (P : TableView → List PlacedRow → Type 0) → AllByRecursion (λ x. P x (rows_in_table shape old x.def x.map)) (tables_there view.places)
      → P (view_of def_now forests_now) (rows_in_table shape new def_now forests_now.map)
      → AllByRecursion (λ x. P x (rows_in_table shape new x.def x.map)) (tables_there (set view.places t (Some (view_of def_now forests_now))))
  unfolding places_now
  each_table_now P were is = each_there (λ x. P x (rows_in_table shape new x.def x.map)) places_now (λ u other at. elim (cases_eq u t) [
    | inl e ↦
        let same : Some (Some (view_of def_now forests_now)) ≡ Some (Some other) = sym now_there ∙ ap (slice_get places_now) (sym e) ∙ at in
        subst (λ (x : TableView). P x (rows_in_table shape new x.def x.map)) (same_table (view_of def_now forests_now) other same) is
    | inr apart ↦
        let was = sym (other_there u apart) ∙ at in
        subst (P other) (sym (other_rows u other apart was)) (there_at (λ x. P x (rows_in_table shape old x.def x.map)) view.places u other was were)
  ])
