-- A database but for one of its places: it stays so where calls change the trees and the blocks of that place alone, and each other
-- place holds what it held.
use Rattle.std.proofs.Common.{◌≡◌, ◌≢◌, ◌<◌, ◌≤◌, ◌+◌, ◌∙◌, ℕ, List, [], Option, Some, None, length, set, sum_by, ◌⊎◌, inl, inr, refl, ap, arith, sym, subst, get_or-set_other, get_or-set_same, length-set}
use Rattle.std.specs.Prelude.{IsPermutation, IsTrue, map, slice_get, slice_index_or, slice_set}
use Rattle.std.specs.List.{AllByRecursion, AllZip, range_with_len}
use Rattle.std.proofs.lemmas.Bool.{cases_eq, cases_lt}
use Rattle.std.proofs.lemmas.Option.{same_Some, slice_get-get_or, slice_get_within}
use Rattle.mdc_words.proofs.PlacesLemmas.{slice_get-set_other, slice_get-set_same}
use Rattle.mdc_ast.specs.declared.definition.TableDef.{TableDef}
use Rattle.mdc_ast.specs.Database.{Database, PlainTable, with_place}
use Rattle.mdc_ast.specs.Definitions.{Definitions}
use Rattle.store_api.specs.Frame.{HoldsPage, OnlyPage, Touches}
use Rattle.store_api.specs.declared.pages.Pages.{Ghosts}
use Rattle.store_api.specs.declared.shape.Shape.{Shape}
use Rattle.store_api.proofs.FrameLemmas.{touches_wider}
use Rattle.extent_map.specs.Map.{HoldsMap, IsSpacePage, root_stating}
use Rattle.extent_map.specs.Owners.{IsUsedPage, extent_of, owner_of}
use Rattle.extent_map.specs.declared.kind.Kind.{Kind}
use Rattle.extent_map.specs.declared.kind.Kind.TheVariants.{Block}
use Rattle.extent_map.proofs.HoldsMapLemmas.{holds_map_still}
use Rattle.entry_tree.specs.Forest.{Forest, times}
use Rattle.entry_tree.specs.Standing.{IsIdlePage}
use Rattle.entry_tree.proofs.StandingLemmas.{extent_not_space, used_not_space}
use Rattle.entry_tree.proofs.UsedPagesLemmas.{used_not_idle}
use Rattle.table_page.specs.TablePage.{IsTablePageOf}
use Rattle.table_page.proofs.TablePageLemmas.{no_blank_table, one_definition}
use Rattle.block_map.specs.MapLines.{map_lines, pending_blocks, used_blocks}
use Rattle.table_trees.specs.TableTrees.{TreePlace, map_place, tree_places}
use Rattle.table_trees.specs.ToldPages.{HasTree, PageList, told_pages}
use Rattle.table_trees.specs.TreesBeside.{GrowsPages, table_of_block}
use Rattle.table_trees.proofs.KeptOwnersLemmas.{idle_no_block}
use Rattle.table_trees.proofs.SideBySideLemmas.{trees_still}
use Rattle.mdc_sound.specs.BlockRules.{AreBlockRowsSound, AreRowNumbersSound, AreTableBlockIndexesSound, IsOfOneCell, IsSoundIndex, IsUniqueSound, IsUsedCountSound}
use Rattle.mdc_sound.specs.SpaceRules.{DatabaseView, IsBlockMapSound, IsRootSound, IsTablePlaceSound, stated_root, tables_there, times_in_trees}
use Rattle.mdc_sound.specs.StandingTable.{IsBlockPageOf, StandsTable, pages_of}
use Rattle.mdc_sound.specs.StandsForDatabase.{HoldsPlace, HoldsTable, PagesStandFor, rootless}
use Rattle.mdc_sound.specs.TablePages.{IsTableThere, table_page_at}
use Rattle.mdc_sound.specs.TableRows.{PlacedRow, rows_in_table}
use Rattle.mdc_sound.specs.TableViews.{TableView, trees_of_table}
use Rattle.mdc_sound.proofs.BlockRulesLemmas.{table_rows_kept}
use Rattle.mdc_sound.proofs.SpaceRulesLemmas.{each_there, range_at, range_each, range_length, there_at, used_or_not}
use Rattle.mdc_sound.proofs.StandingTableLemmas.{block_below, block_kept, forests_of, stands_kept}
use Rattle.mdc_sound.proofs.StandsForLemmas.{one_tree_at}
use Rattle.stored_catalog.specs.AroundTable.{StandsBut, with_owners}
use Rattle.stored_catalog.specs.StoredDefinitions.{AreStored, IsStoredPlace}
use Rattle.stored_catalog.proofs.TablesAroundLemmas.{all_used, number_of_other, other_place, other_stood, roots_used, times_all, times_of_other, used_off}

-- ---- what may change

-- the pages of the place's own: those of its trees and blocks, of the extent map with page 0, idle ones, and its table page
abbrev pub IsAroundSpace : Shape → List Kind → List Forest → ℕ → ℕ → Type 0
IsAroundSpace shape owners trees t p =
    0 < sum_by (times p) trees ⊎ (IsBlockPageOf shape owners t p ⊎ (IsSpacePage shape p ⊎ (IsIdlePage shape owners p ⊎ (p ≡ 1 + t))))

-- The trees of place t became others at other places. The blocks of all other tables and the used index pages outside these trees are
-- as they were, and so is each page that isn't one of the place's own.
pub record ChangesAround (shape : Shape) (old new : PageList) (owners : List Kind) (t : ℕ) (trees : List Forest)
    (owners_now : List Kind) (places_now : List TreePlace) (trees_now : List Forest) : Type 0 where
  pub root : IsRootSound shape new
  pub extents : HoldsMap told_pages shape new owners_now
  pub held : AllZip (HasTree new) places_now trees_now
  pub others_blocks : (e u : ℕ) → u ≢ t → owner_of owners e ≡ Block u → owner_of owners_now e ≡ Block u
  pub no_others_blocks : (e u : ℕ) → u ≢ t → owner_of owners_now e ≡ Block u → owner_of owners e ≡ Block u
  pub others_pages : (p : ℕ) → IsUsedPage shape owners p → sum_by (times p) trees ≡ 0 → IsUsedPage shape owners_now p
  pub used_pages : (p : ℕ) → IsUsedPage shape owners_now p → 0 < sum_by (times p) trees_now ⊎ (IsUsedPage shape owners p × (sum_by (times p) trees ≡ 0))
  pub used : (p : ℕ) → 0 < sum_by (times p) trees_now → IsUsedPage shape owners_now p
  pub apart : (p : ℕ) → sum_by (times p) trees_now ≤ 1
  pub pages : (p : ℕ) → 0 < sum_by (times p) trees_now → 0 < sum_by (times p) trees ⊎ IsIdlePage shape owners p
  pub touched : Touches told_pages (IsAroundSpace shape owners trees t) old new

-- ---- around the place

module _ (shape : Shape) (pages : PageList) (view : DatabaseView) (t : ℕ) (places : List TreePlace) (trees : List Forest) (st : StandsBut shape pages view t places trees) where
  -- pages of other tables aren't the place's own
  off_trees : (p u : ℕ) (other : TableView) → slice_get view.places u ≡ Some (Some other) → 0 < sum_by (times p) (trees_of_table other) → IsAroundSpace shape view.owners trees t p → ⊥
  off_trees p u other at some mine = go mine
    where
      used : IsUsedPage shape view.owners p
      used = (other_stood shape pages view t places trees st u other at).trees.used p some

      go : IsAroundSpace shape view.owners trees t p → ⊥
      go (inl l) = omega (arith, l, some, times_of_other shape pages view t places trees st p u other at, times_all shape pages view t places trees st p)
      go (inr (inl of)) = used_off shape pages view t places trees st p t used of.block
      go (inr (inr (inl space))) = used_not_space shape view.owners p used space
      go (inr (inr (inr (inl idle)))) = used_not_idle shape view.owners p used idle
      go (inr (inr (inr (inr only)))) = omega (arith, only, used.page.behind, st.within)

  off_blocks : (p u : ℕ) → u ≢ t → IsBlockPageOf shape view.owners u p → IsAroundSpace shape view.owners trees t p → ⊥
  off_blocks p u apart block mine = go mine
    where
      go : IsAroundSpace shape view.owners trees t p → ⊥
      go (inl l) = used_off shape pages view t places trees st p u (all_used shape pages view t places trees st p (omega (arith, l))) block.block
      go (inr (inl of)) = let kinds : Block u ≡ Block t = sym block.block ∙ of.block in let same : u ≡ t = cc in apart same
      go (inr (inr (inl space))) = extent_not_space shape p block.page space
      go (inr (inr (inr (inl idle)))) =
          let none : table_of_block (owner_of view.owners (extent_of shape p)) ≡ None = idle_no_block shape view.owners p idle in
          let some : table_of_block (owner_of view.owners (extent_of shape p)) ≡ Some u = ap table_of_block block.block in absurd (cc)
      go (inr (inr (inr (inr only)))) = omega (arith, only, block.page.behind, st.within)

  off_table_pages : (u : ℕ) → u < 16 → u ≢ t → IsAroundSpace shape view.owners trees t (1 + u) → ⊥
  off_table_pages u few apart mine = go mine
    where
      go : IsAroundSpace shape view.owners trees t (1 + u) → ⊥
      go (inl l) = omega (arith, few, (all_used shape pages view t places trees st (1 + u) (omega (arith, l))).page.behind)
      go (inr (inl of)) = omega (arith, few, of.page.behind)
      go (inr (inr (inl (inl zero_is)))) = omega (arith, zero_is)
      go (inr (inr (inl (inr on)))) = omega (arith, on.0, few)
      go (inr (inr (inr (inl idle)))) = omega (arith, few, idle.page.behind)
      go (inr (inr (inr (inr only)))) = apart (omega (arith, only))

-- ---- what stays

module _ (shape : Shape) (old new : PageList) (view : DatabaseView) (t : ℕ) (places : List TreePlace) (trees : List Forest)
    (owners_now : List Kind) (places_now : List TreePlace) (trees_now : List Forest) (st : StandsBut shape old view t places trees)
    (changes : ChangesAround shape old new view.owners t trees owners_now places_now trees_now) where
  -- each other place has the table page that it had
  pub around_table_page_kept : (u : ℕ) → u < 16 → u ≢ t → table_page_at new u ≡ table_page_at old u
  around_table_page_kept u low apart =
      let was : HoldsPage told_pages old (1 + u) (table_page_at old u) = record { is_told = refl; within = omega (arith, st.root.count.count, low); bytes_are = refl } in
      (changes.touched.others (1 + u) (table_page_at old u) (off_table_pages shape old view t places trees st u low apart) was).bytes_are

  other_stands : (u : ℕ) (other : TableView) → slice_get view.places u ≡ Some (Some other) → StandsTable told_pages shape new other.def owners_now (forests_of other)
  other_stands u other at =
      let differs : other.def.number ≢ t = (number_of_other shape old view t places trees st u other at).1 in
      stands_kept (IsAroundSpace shape view.owners trees t) shape old new other.def view.owners owners_now (forests_of other) (other_stood shape old view t places trees st u other at) changes.extents changes.touched refl
      (λ p some used. changes.others_pages p used
      (omega (arith, some, times_of_other shape old view t places trees st p u other at, times_all shape old view t places trees st p)))
      (λ e is. changes.others_blocks e other.def.number differs is) (λ e is. changes.no_others_blocks e other.def.number differs is)
      (λ p some mine. off_trees shape old view t places trees st p u other at some mine) (λ p of mine. off_blocks shape old view t places trees st p other.def.number differs of mine)

  -- the rows of another table are as they were
  other_rows : (u : ℕ) (other : TableView) → slice_get view.places u ≡ Some (Some other) → rows_in_table shape new other.def other.map ≡ rows_in_table shape old other.def other.map
  other_rows u other at =
      let differs : other.def.number ≢ t = (number_of_other shape old view t places trees st u other at).1 in
      let stood = other_stood shape old view t places trees st u other at in
      table_rows_kept shape old new other.def view.owners other.map stood.map
      (λ e is. block_kept (IsAroundSpace shape view.owners trees t) shape old new view.owners other.def.number e st.extents refl changes.touched
      (λ p of mine. off_blocks shape old view t places trees st p other.def.number differs of mine) (omega (arith, block_below view.owners e other.def.number is, st.extents.count)) is)

  -- so what was said of the rows of each table is said of them now
  each_other_now : (P : TableView → List PlacedRow → Type 0) → AllByRecursion (λ x. P x (rows_in_table shape old x.def x.map)) (tables_there view.places)
      → AllByRecursion (λ x. P x (rows_in_table shape new x.def x.map)) (tables_there view.places)
  each_other_now P were = each_there (λ x. P x (rows_in_table shape new x.def x.map)) view.places
      (λ u other at. subst (P other) (sym (other_rows u other at)) (there_at (λ x. P x (rows_in_table shape old x.def x.map)) view.places u other at were))

  place_now : (u : ℕ) (place : Option TableView) → u ≢ t → slice_get view.places u ≡ Some place → IsTablePlaceSound shape new owners_now u place
  place_now u None apart at = around_table_page_kept u (omega (arith, slice_get_within view.places u None at, st.count)) apart ∙ st.each u None apart at
  place_now u (Some other) apart at = (
    subst (λ page. IsTablePageOf u other.def page) (sym (around_table_page_kept u (other_place shape old view t places trees st u other at).0 apart)) (st.each u (Some other) apart at).0,
    roots_used shape new owners_now (tree_places other.def) (trees_of_table other) (other_stands u other at).trees.held (other_stands u other at).trees.used,
  )

  owned_now : (e u : ℕ) → owner_of owners_now e ≡ Block u → (u ≡ t) ⊎ IsTableThere new u
  owned_now e u is = elim (cases_eq u t) [
    | inl same ↦ inl same
    | inr apart ↦ elim (st.owned e u (changes.no_others_blocks e u apart is)) [
      | inl same ↦ inl same
      | inr there ↦ inr (there.0, λ blank. there.1 (sym (around_table_page_kept u there.0 apart) ∙ blank))
    ]
  ]

  used_once : (p : ℕ) → IsUsedPage shape owners_now p → times_in_trees p view + sum_by (times p) trees_now ≡ 1
  used_once p used = elim (changes.used_pages p used) [
    | inl some ↦ elim (changes.pages p some) [
      | inl l ↦ omega (arith, l, some, times_all shape old view t places trees st p, changes.apart p)
      | inr idle ↦ omega (arith, some, st.unused p (λ was. used_not_idle shape view.owners p was idle), changes.apart p)
    ]
    | inr was ↦ elim (cases_lt 0 (sum_by (times p) trees_now)) [
      | inl some ↦ elim (changes.pages p some) [ inl l ↦ absurd (omega (arith, l, was.1)) | inr idle ↦ absurd (used_not_idle shape view.owners p was.0 idle) ]
      | inr none ↦ omega (arith, none, was.1, st.used p was.0)
    ]
  ]

  unused_none : (p : ℕ) → (IsUsedPage shape owners_now p → ⊥) → times_in_trees p view + sum_by (times p) trees_now ≡ 0
  unused_none p unused = elim (cases_lt 0 (sum_by (times p) trees_now)) [
    | inl some ↦ absurd (unused (changes.used p some))
    | inr none ↦ elim (used_or_not shape view.owners p) [
      | inr idle ↦ omega (arith, none, st.unused p idle)
      | inl used ↦ elim (cases_lt 0 (sum_by (times p) trees)) [
        | inl l ↦ omega (arith, none, l, times_all shape old view t places trees st p)
        | inr zero_is ↦ absurd (unused (changes.others_pages p used (omega (arith, zero_is))))
      ]
    ]
  ]

  -- the rules of all other tables still hold, with these trees beside them
  pub around_kept : StandsBut shape new (with_owners view owners_now) t places_now trees_now
  around_kept = record {
    within = st.within;
    count = st.count;
    absent = st.absent;
    root = changes.root;
    extents = changes.extents;
    owned = owned_now;
    each = place_now;
    tables_differ = st.tables_differ;
    indexes_differ = st.indexes_differ;
    trees_stand = each_there (λ x. AllZip (HasTree new) (tree_places x.def) (trees_of_table x)) view.places (λ u x at. (other_stands u x at).trees.held);
    held = changes.held;
    used = λ p used. used_once p used;
    unused = λ p unused. unused_none p unused;
    block_maps = each_there (λ x. IsBlockMapSound shape owners_now x.def x.map) view.places (λ u x at. (other_stands u x at).map);
    rows = each_there (λ x. AllByRecursion (AreBlockRowsSound shape new x.def) (used_blocks x.map)) view.places (λ u x at. (other_stands u x at).rows);
    counts = record {
      used = each_there (λ x. AllByRecursion (IsUsedCountSound shape new x.def) (map_lines x.map)) view.places (λ u x at. (other_stands u x at).used_counts);
      idle = st.counts.idle;
    };
    cells = each_there (λ x. AllByRecursion (IsOfOneCell shape new x.def) (used_blocks x.map)) view.places (λ u x at. (other_stands u x at).cells);
    block_indexes = each_there (AreTableBlockIndexesSound shape new) view.places (λ u x at. (other_stands u x at).indexes);
    record_indexes = each_other_now (λ x rows. AllZip (IsSoundIndex x.def rows (pending_blocks x.map)) x.def.indexes x.indexes) st.record_indexes;
    keys = record {
      numbers = each_other_now (λ x rows. AreRowNumbersSound x.def rows) st.keys.numbers;
      unique = each_other_now (λ x rows. AllByRecursion (IsUniqueSound rows) x.def.indexes) st.keys.unique;
    };
  }

  -- the table that the view has in a place is the one that the place holds
  table_kept : (u : ℕ) (table : PlainTable) (place : Option TableView) → u < 16 → u ≢ t → slice_get view.places u ≡ Some place → HoldsTable shape old u table → HoldsTable shape new u table
  table_kept u table None low apart at h = absurd (no_blank_table u h.def (subst (λ page. IsTablePageOf u h.def page) (st.each u None apart at) h.defines))
  table_kept u table (Some other) low apart at h =
      let def : h.def ≡ other.def = one_definition u h.def other.def (table_page_at old u) h.defines (st.each u (Some other) apart at).0 in
      let has : HasTree old (map_place other.def) h.map_tree = subst (λ d. HasTree old (map_place d) h.map_tree) def h.has_map in
      let tree : h.map_tree ≡ other.map = one_tree_at old (map_place other.def) h.map_tree other.map has (other_stood shape old view t places trees st u other at).trees.held.0 in
      let rows : rows_in_table shape old h.def h.map_tree ≡ rows_in_table shape new other.def other.map =
      ap (λ d. rows_in_table shape old d h.map_tree) def ∙ (ap (λ m. rows_in_table shape old other.def m) tree ∙ sym (other_rows u other at)) in record {
        def = other.def;
        map_tree = other.map;
        defines = (place_now u (Some other) apart at).0;
        has_map = (other_stands u other at).trees.held.0;
        def_is = h.def_is ∙ ap rootless def;
        same_rows = subst (λ (all : List PlacedRow). IsPermutation (map (λ placed. placed.row) all) table.rows) rows h.same_rows;
        rising = h.rising;
      }

  -- and each other place holds the plain table that it held
  pub around_place_kept : (u : ℕ) (table : Option PlainTable) → u < 16 → u ≢ t → HoldsPlace shape old u table → HoldsPlace shape new u table
  around_place_kept u None low apart held = around_table_page_kept u low apart ∙ held
  around_place_kept u (Some table) low apart held =
      table_kept u table (slice_index_or view.places u None) low apart (slice_get-get_or view.places u None (omega (arith, low, st.count))) held

-- ---- the table page

page_set_other : (pages : PageList) (t : ℕ) (bytes : List ℕ) → Touches told_pages (OnlyPage (1 + t)) pages (slice_set pages (1 + t) bytes)
page_set_other pages t bytes = record {
  others = λ p was other holds. record {
    is_told = refl;
    within = omega (arith, holds.within, length-set pages (1 + t) bytes);
    bytes_are = get_or-set_other pages (1 + t) p bytes [] other ∙ holds.bytes_are;
  };
}

-- table page t is written over: so nothing changes around it
pub page_around : (shape : Shape) (pages : PageList) (view : DatabaseView) (t : ℕ) (places : List TreePlace) (trees : List Forest) (bytes : List ℕ)
    → StandsBut shape pages view t places trees → ChangesAround shape pages (slice_set pages (1 + t) bytes) view.owners t trees view.owners places trees
page_around shape pages view t places trees bytes st =
    let touched = page_set_other pages t bytes in
    let count = length-set pages (1 + t) bytes in
    let some_tree : (p : ℕ) → 0 < sum_by (times p) trees → IsUsedPage shape view.owners p = λ p some. all_used shape pages view t places trees st p (omega (arith, some)) in record {
      root = record {
        count = record { extents = st.root.count.extents; within = st.root.count.within; count = count ∙ st.root.count.count };
        root = get_or-set_other pages (1 + t) 0 bytes [] (λ e. omega (arith, e)) ∙ (st.root.root ∙ ap stated_root (sym count));
      };
      extents = holds_map_still touched (λ p on only. omega (arith, on.0, only, st.within)) (omega (arith, count)) st.extents;
      held = trees_still (OnlyPage (1 + t)) pages (slice_set pages (1 + t) bytes) places trees st.held touched refl (λ p some only. omega (arith, only, (some_tree p some).page.behind, st.within));
      others_blocks = λ e u apart is. is;
      no_others_blocks = λ e u apart is. is;
      others_pages = λ p used none. used;
      used_pages = λ p used. elim (cases_lt 0 (sum_by (times p) trees)) [ inl some ↦ inl some | inr none ↦ inr (used, omega (arith, none)) ];
      used = some_tree;
      apart = λ p. omega (arith, times_all shape pages view t places trees st p);
      pages = λ p some. inl some;
      touched = touches_wider touched (λ p only. inr (inr (inr (inr only))));
    }

-- and has these bytes
pub page_written : (shape : Shape) (pages : PageList) (view : DatabaseView) (t : ℕ) (places : List TreePlace) (trees : List Forest) (bytes : List ℕ)
    → StandsBut shape pages view t places trees → table_page_at (slice_set pages (1 + t) bytes) t ≡ bytes
page_written shape pages view t places trees bytes st = get_or-set_same pages (1 + t) bytes [] (omega (arith, st.root.count.count, st.within))

-- ---- whole databases and catalogs

-- one of 16 places has another thing, and each other what it had
range_set : {B : Type 0} (R Q : ℕ → B → Type 0) (ys : List B) (t : ℕ) (y : B) → AllZip R (range_with_len 0 16) ys → ((u : ℕ) (x : B) → u < 16 → u ≢ t → R u x → Q u x) → Q t y
    → AllZip Q (range_with_len 0 16) (set ys t y)
range_set R Q ys t y were kept now =
    range_each Q 0 16 (set ys t y) (length-set ys t y ∙ range_length R 0 16 ys were) (λ i x at. elim (cases_eq i t) [
      | inl e ↦
          let within : t < length ys = omega (arith, slice_get_within (set ys t y) i x at, length-set ys t y, e) in
          let same : y ≡ x = same_Some y x (sym (slice_get-set_same ys t y within) ∙ (ap (slice_get (set ys t y)) (sym e) ∙ at)) in
          let place : t ≡ 0 + i = omega (arith, e) in
          subst (λ u. Q u x) place (subst (Q t) same now)
      | inr apart ↦
          let was = range_at R 0 16 ys i x were (sym (slice_get-set_other ys t y i apart) ∙ at) in
          let place : i ≡ 0 + i = omega arith in
          subst (λ u. Q u x) place (kept i x was.0 apart (subst (λ u. R u x) (sym place) was.1))
    ])

-- one place holds another table, or none, and each other place what it held
pub stands_for_but : (shape : Shape) (old new : PageList) (db : Database) (t : ℕ) (table : Option PlainTable) → PagesStandFor shape old db
    → ((u : ℕ) (other : Option PlainTable) → u < 16 → u ≢ t → HoldsPlace shape old u other → HoldsPlace shape new u other) → HoldsPlace shape new t table
    → PagesStandFor shape new (with_place db t table)
stands_for_but shape old new db t table were kept now = range_set (HoldsPlace shape old) (HoldsPlace shape new) db t table were kept now

-- a place of a catalog is stored still where its table page is the same
stored_still : (old new : PageList) (u : ℕ) (def : Option TableDef) → table_page_at new u ≡ table_page_at old u → IsStoredPlace old u def → IsStoredPlace new u def
stored_still old new u None same is = same ∙ is
stored_still old new u (Some def) same is = subst (λ page. IsTablePageOf u def page) (sym same) is

-- the same of the definitions of a catalog
pub stored_but : (old new : PageList) (defs : Definitions) (t : ℕ) (def : Option TableDef) → AreStored old defs
    → ((u : ℕ) → u < 16 → u ≢ t → table_page_at new u ≡ table_page_at old u) → IsStoredPlace new t def → AreStored new (slice_set defs t def)
stored_but old new defs t def were kept now = range_set (IsStoredPlace old) (IsStoredPlace new) defs t def were (λ u x low apart is. stored_still old new u x (kept u low apart) is) now

-- ---- stores and their lists of pages

module _ {S : Type 0} (g : Ghosts S) where
  -- what a call touches of a store that tells its pages it touches of their list
  pub touched_listed : (Mine : ℕ → Type 0) (old new : S) → IsTrue (g.state old).is_told → Touches g Mine old new → Touches told_pages Mine (pages_of g old) (pages_of g new)
  touched_listed Mine old new told touched = record {
    others = λ p bytes other holds.
        let now = touched.others p bytes other (record { is_told = told; within = holds.within; bytes_are = holds.bytes_are }) in
        record { is_told = refl; within = now.within; bytes_are = now.bytes_are };
  }

  -- page 0, which states the count
  root_told : (shape : Shape) (s : S) → IsTrue (g.state s).is_told → IsRootSound shape (pages_of g s) → HoldsPage g s 0 (stated_root (length (pages_of g s)))
  root_told shape s told root = record { is_told = told; within = omega (arith, root.count.count); bytes_are = root.root }

  -- page 0 states how many pages there are, also where some came
  pub root_grown : (shape : Shape) (old new : S) → IsTrue (g.state old).is_told → IsRootSound shape (pages_of g old)
      → length (pages_of g old) ≤ length (pages_of g new) → GrowsPages g shape old new → IsRootSound shape (pages_of g new)
  root_grown shape old new told root longer grows =
      let whole = grows.whole (record { extents = root.count.extents; within = root.count.within; count = root.count.count }) in record {
        count = record { extents = whole.extents; within = whole.within; count = whole.count };
        root = elim (cases_lt (length (pages_of g old)) (length (pages_of g new))) [
          | inl more ↦
              let again : root_stating (length (pages_of g new)) (stated_root (length (pages_of g old))) ≡ stated_root (length (pages_of g new)) = refl in
              (grows.stated.grown more (stated_root (length (pages_of g old))) (root_told shape old told root)).bytes_are ∙ again
          | inr no_more ↦
              let same : length (pages_of g new) ≡ length (pages_of g old) = omega (arith, no_more, longer) in
              (grows.stated.same same (stated_root (length (pages_of g old))) (root_told shape old told root)).bytes_are ∙ ap stated_root (sym same)
        ];
      }

  -- and where none came and it wasn't touched
  pub root_still : (Mine : ℕ → Type 0) (shape : Shape) (old new : S) → IsTrue (g.state old).is_told → IsRootSound shape (pages_of g old)
      → length (pages_of g new) ≡ length (pages_of g old) → Touches g Mine old new → (Mine 0 → ⊥) → IsRootSound shape (pages_of g new)
  root_still Mine shape old new told root count touched off = record {
    count = record { extents = root.count.extents; within = root.count.within; count = count ∙ root.count.count };
    root = (touched.others 0 (stated_root (length (pages_of g old))) off (root_told shape old told root)).bytes_are ∙ ap stated_root (sym count);
  }
