-- Where a store that tells its pages was sound with a definition in hand, and calls on the table's rows changed the table, it is
-- sound with the definition that is in hand then.
use Rattle.std.proofs.Common.{◌≡◌, ◌≢◌, ◌<◌, ◌≤◌, ◌+◌, ℕ, suc, List, [], ◌∷◌, Some, length, sum_by, refl, ap, arith, sym, ◌∙◌, subst, inl, inr}
use Rattle.std.specs.Prelude.{slice_get, slice_set, zip}
use Rattle.std.specs.List.{AllByRecursion, AllZip}
use Rattle.std.proofs.lemmas.Bool.{cases_lt}
use Rattle.std.proofs.lemmas.List.{get_or-set_same, length-append, length-map}
use Rattle.mdc_words.proofs.PlacesLemmas.{slice_get-set_same}
use Rattle.mdc_ast.specs.declared.definition.IndexDef.{IndexDef}
use Rattle.mdc_ast.specs.declared.definition.TableDef.{TableDef}
use Rattle.store_api.specs.Frame.{HoldsPage, OnlyPage, Touches}
use Rattle.store_api.specs.StoreState.{page_at}
use Rattle.store_api.specs.declared.pages.Pages.{Ghosts}
use Rattle.store_api.specs.declared.shape.Shape.{Shape}
use Rattle.extent_map.specs.Map.{IsWholeCount, root_stating}
use Rattle.extent_map.specs.declared.kind.Kind.{Kind}
use Rattle.extent_map.specs.declared.space_notes.SpaceNotes.{SpaceNotes}
use Rattle.entry_tree.specs.Forest.{Forest, times}
use Rattle.mdc_ast.specs.TableLimits.{IsTableDef}
use Rattle.table_page.specs.TablePage.{table_page}
use Rattle.table_trees.specs.TableTrees.{dimension_place, dimension_places, record_place, record_places, rising_parts, tree_places}
use Rattle.table_trees.specs.TreesBeside.{HoldsTreeAt}
use Rattle.table_trees.specs.ToldPages.{PageList, told_pages}
use Rattle.block_map.specs.MapLines.{pending_blocks}
use Rattle.mdc_sound.specs.BlockRules.{AreNumbersSound, AreOtherKeysSound, AreRowNumbersSound, AreSoundIndexes, AreTableIndexesSound, IsBlockIndexSound, IsSoundIndex, IsUniqueSound}
use Rattle.mdc_sound.specs.SoundDatabase.{IsSoundBetweenChanges, IsSoundWith, with_table_page}
use Rattle.mdc_sound.specs.SpaceRules.{IsRootSound, IsTablePlaceSound, stated_root, tables_there}
use Rattle.mdc_sound.specs.StandingTable.{ChangesTable, IsTableSpace, StandsTable, TableForests, forests_in_order, pages_of, view_of}
use Rattle.mdc_sound.specs.TablePages.{DefinesTable}
use Rattle.mdc_sound.specs.TableRows.{PlacedRow, rows_in_table}
use Rattle.mdc_sound.specs.TableViews.{TableView, trees_of_table}
use Rattle.mdc_sound.proofs.NextNumberLemmas.{indexes_next, limits_next, stands_next, with_next}
use Rattle.mdc_sound.proofs.SoundChangeLemmas.{ChangesPlace, IsPlaceSpace, each_table_now, first_rules_now}
use Rattle.mdc_sound.proofs.SoundDatabaseLemmas.{length-with_table_page, page_at-with_table_page, put_table_page, rows_with_table_page}
use Rattle.mdc_sound.proofs.SpaceRulesLemmas.{range_at, range_length}
use Rattle.mdc_sound.proofs.StandingTableLemmas.{forests_of, number_of_place, one_standing, stands_listed, stands_of_sound, stands_still}

-- ---- page 0

-- the root page, with another count
root_stated_again : (m n : ℕ) → root_stating m (stated_root n) ≡ stated_root m
root_stated_again m n = refl

-- ---- a table without record indexes

pairs_count : {A B : Type 0} (R : A → B → Type 0) (xs : List A) (ys : List B) → AllZip R xs ys → length xs ≡ length ys
pairs_count R [] [] all = refl
pairs_count R [] (y ∷ ys) all = absurd all
pairs_count R (x ∷ xs) [] all = absurd all
pairs_count R (x ∷ xs) (y ∷ ys) all = ap suc (pairs_count R xs ys all.1)

no_elements : {A : Type 0} (xs : List A) → length xs ≡ 0 → xs ≡ []
no_elements [] none = refl
no_elements (x ∷ xs) none = absurd (omega (arith, none))

zip_count : (dims : List (List ℕ)) (roots : List ℕ) → length roots ≡ length dims → length (zip dims roots) ≡ length dims
zip_count [] roots same = refl
zip_count (dim ∷ dims) [] same = absurd (omega (arith, same))
zip_count (dim ∷ dims) (root ∷ roots) same = ap suc (zip_count dims roots (omega (arith, same)))

-- has no trees of such
no_index_trees : {S : Type 0} (g : Ghosts S) (shape : Shape) (s : S) (def : TableDef) (owners : List Kind) (forests : TableForests) → StandsTable g shape s def owners forests
    → length def.roots.dims ≡ length def.dims → def.indexes ≡ [] → forests.indexes ≡ []
no_index_trees g shape s def owners forests st one_each none =
    let all = pairs_count (HoldsTreeAt g s) (tree_places def) (forests_in_order forests) st.trees.held in
    let dims = pairs_count (λ dim index. IsBlockIndexSound def (rows_in_table shape (pages_of g s) def forests.map) (rising_parts dim) index) def.dims forests.dims st.indexes.dims in
    let places = length-append (dimension_places def) (record_places def) in
    let trees = length-append forests.dims forests.indexes in
    let of_dims = length-map (zip def.dims def.roots.dims) (λ (pair : List ℕ × ℕ). dimension_place def pair.0 pair.1) ∙ zip_count def.dims def.roots.dims one_each in
    let of_indexes = length-map def.indexes (record_place def) ∙ ap length none in
    no_elements forests.indexes (omega (arith, all, dims, places, trees, of_dims, of_indexes))

no_indexes_sound : (shape : Shape) (pages : PageList) (def : TableDef) (forests : TableForests) → def.indexes ≡ [] → forests.indexes ≡ [] → AreTableIndexesSound shape pages (view_of def forests)
no_indexes_sound shape pages def forests none trees =
    let R : IndexDef → Forest → Type 0 = IsSoundIndex def (rows_in_table shape pages def forests.map) (pending_blocks forests.map) in
    subst (λ indexes. AllZip R indexes forests.indexes) (sym none) (subst (λ found. AllZip R [] found) (sym trees) tt)

-- ---- the change

module _ {S : Type 0} (g : Ghosts S) (shape : Shape) {before noted : SpaceNotes} (old new : S) (def : TableDef) (owners owners_now : List Kind) (forests forests_now : TableForests)
    (sound : IsSoundWith shape def (pages_of g old)) (st : StandsTable g shape old def owners forests)
    (changes : ChangesTable g shape before noted old new def owners forests owners_now forests_now)
    (touched : Touches g (IsTableSpace g shape old def) old new) (longer : length (pages_of g old) ≤ length (pages_of g new)) where
  stood : StandsTable g shape old def sound.view.owners (forests_of sound.table)
  stood = stands_of_sound g shape old def sound st.told

  same_standing : (owners ≡ sound.view.owners) × (forests_in_order forests ≡ trees_of_table sound.table)
  same_standing = one_standing g shape old def owners sound.view.owners forests (forests_of sound.table) st stood

  same_owners : owners ≡ sound.view.owners
  same_owners = same_standing.0

  times_same : (p : ℕ) → sum_by (times p) (forests_in_order forests) ≡ sum_by (times p) (trees_of_table sound.table)
  times_same p = ap (sum_by (times p)) same_standing.1

  low : def.number < 16
  low = (number_of_place shape (with_table_page def (pages_of g old)) sound.view sound.first def.number sound.table sound.there).0

  enough_pages : 17 ≤ length (pages_of g old)
  enough_pages = omega (arith, sound.first.rule1.count.count, length-with_table_page def (pages_of g old))

  pub limits : IsTableDef def.number def
  limits =
      let here = range_at (IsTablePlaceSound shape (with_table_page def (pages_of g old)) sound.view.owners) 0 16 sound.view.places def.number (Some sound.table) sound.first.rule3.each sound.there in
      let same : 0 + def.number ≡ def.number = omega arith in
      subst (λ d. IsTableDef def.number d) sound.same (subst (λ t. IsTableDef t sound.table.def) same here.1.0.limits)

  -- the rows of the table in the view are those of the trees at hand
  pub rows_then : rows_in_table shape (with_table_page def (pages_of g old)) sound.table.def sound.table.map ≡ rows_in_table shape (pages_of g old) def forests.map
  rows_then =
      let trees = same_standing.1 in
      let map : sound.table.map ≡ forests.map = cc in
      ap (λ (d : TableDef). rows_in_table shape (with_table_page def (pages_of g old)) d sound.table.map) sound.same
      ∙ (rows_with_table_page shape def (pages_of g old) low def sound.table.map ∙ ap (λ (m : Forest). rows_in_table shape (pages_of g old) def m) map)

  -- page 0 states how many pages there are now
  root_then : HoldsPage g old 0 (stated_root (length (pages_of g old)))
  root_then =
      let count = length-with_table_page def (pages_of g old) in record {
        is_told = st.told;
        within = omega (arith, enough_pages);
        bytes_are = sym (page_at-with_table_page def (pages_of g old) 0 (λ e. omega (arith, e))) ∙ (sound.first.rule1.root ∙ ap stated_root count);
      }

  root_now : page_at (pages_of g new) 0 ≡ stated_root (length (pages_of g new))
  root_now = elim (cases_lt (length (pages_of g old)) (length (pages_of g new))) [
    | inl grown ↦ (changes.grows.stated.grown grown (stated_root (length (pages_of g old))) root_then).bytes_are ∙ root_stated_again (length (pages_of g new)) (length (pages_of g old))
    | inr not_grown ↦
        let same : length (pages_of g new) ≡ length (pages_of g old) = omega (arith, not_grown, longer) in
        (changes.grows.stated.same same (stated_root (length (pages_of g old))) root_then).bytes_are ∙ ap stated_root (sym same)
  ]

  whole_then : IsWholeCount g shape old
  whole_then =
      let count = sound.first.rule1.count in
      record { extents = count.extents; within = count.within; count = sym (length-with_table_page def (pages_of g old)) ∙ count.count }

  module _ (def_now : TableDef) (same_number : def_now.number ≡ def.number) (same_name : def_now.name ≡ def.name) (same_indexes : def_now.indexes ≡ def.indexes)
      (limits_now : IsTableDef def.number def_now) (stands_now : StandsTable g shape new def_now owners_now forests_now) where
    pages_now : PageList
    pages_now = with_table_page def_now (pages_of g new)

    low_now : def_now.number < 16
    low_now = omega (arith, low, same_number)

    length_now : length pages_now ≡ length (pages_of g new)
    unfolding pages_now
    length_now = length-with_table_page def_now (pages_of g new)

    root_sound_now : IsRootSound shape pages_now
    unfolding pages_now
    root_sound_now =
        let whole = changes.grows.whole whole_then in record {
          count = record {
            extents = whole.extents;
            within = whole.within;
            count = length_now ∙ whole.count;
          };
          root = page_at-with_table_page def_now (pages_of g new) 0 (λ e. omega (arith, e)) ∙ (root_now ∙ ap stated_root (sym length_now));
        }

    listed_now : StandsTable told_pages shape pages_now def_now owners_now forests_now
    unfolding pages_now
    listed_now =
        let listed = stands_listed g new stands_now.told shape def_now owners_now forests_now stands_now in
        stands_still (OnlyPage (1 + def_now.number)) shape (pages_of g new) pages_now def_now owners_now forests_now listed (put_table_page def_now (pages_of g new)) refl
        (omega (arith, length_now))
        (λ p on only. omega (arith, on.0, only, low_now))
        (λ p l only. omega (arith, (listed.trees.used p l).page.behind, only, low_now))
        (λ p of only. omega (arith, of.page.behind, only, low_now))

    defines_now : DefinesTable pages_now def.number def_now
    unfolding pages_now
    defines_now = record {
      limits = limits_now;
      printed = ap (page_at pages_now) (ap (λ n. 1 + n) (sym same_number)) ∙ get_or-set_same (pages_of g new) (1 + def_now.number) (table_page def_now) [] (omega (arith, low_now, enough_pages, longer));
    }

    touched_now : Touches told_pages (IsPlaceSpace shape owners sound.table def.number) (with_table_page def (pages_of g old)) pages_now
    unfolding pages_now
    touched_now = record {
      others = λ p bytes off holds.
          let other : p ≢ 1 + def.number = λ e. off (inr (inr (inr (inr e)))) in
          let other_now : p ≢ 1 + def_now.number = λ e. other (omega (arith, e, same_number)) in
          let was : HoldsPage g old p bytes = record {
            is_told = st.told;
            within = omega (arith, holds.within, length-with_table_page def (pages_of g old));
            bytes_are = sym (page_at-with_table_page def (pages_of g old) p other) ∙ holds.bytes_are;
          } in
          let is = touched.others p bytes (λ mine. elim (mine owners forests st) [
            | inl l ↦ off (inl (omega (arith, l, times_same p)))
            | inr more ↦ elim more [
              | inl of ↦ off (inr (inl of))
              | inr others ↦ elim others [ inl space ↦ off (inr (inr (inl space))) | inr idle ↦ off (inr (inr (inr (inl idle)))) ]
            ]
          ]) was in record {
            is_told = refl;
            within = omega (arith, is.within, length_now);
            bytes_are = page_at-with_table_page def_now (pages_of g new) p other_now ∙ is.bytes_are;
          };
    }

    changes_place : ChangesPlace shape (with_table_page def (pages_of g old)) pages_now owners sound.table def_now owners_now forests_now def.number
    changes_place = record {
      stands = listed_now;
      defines = defines_now;
      name = same_name ∙ sym (ap (λ (d : TableDef). d.name) sound.same);
      indexes = same_indexes ∙ sym (ap (λ (d : TableDef). d.indexes) sound.same);
      root = root_sound_now;
      others_blocks = λ e u apart is. changes.others_blocks e u apart is;
      no_others_blocks = λ e u apart is. changes.no_others_blocks e u apart is;
      others_pages = λ p used none. changes.others_pages p used (times_same p ∙ none);
      used_pages = λ p used. elim (changes.used_pages p used) [ inl some ↦ inl some | inr was ↦ inr (was.0, sym (times_same p) ∙ was.1) ];
      pages = λ p some. elim (changes.pages p some) [ inl l ↦ inl (omega (arith, l, times_same p)) | inr idle ↦ inr idle ];
      touched = touched_now;
    }

    -- the same with the owners of the view
    pub changes_in_view : ChangesPlace shape (with_table_page def (pages_of g old)) (with_table_page def_now (pages_of g new)) sound.view.owners sound.table def_now owners_now forests_now def.number
    unfolding pages_now
    changes_in_view = subst (λ o. ChangesPlace shape (with_table_page def (pages_of g old)) pages_now o sound.table def_now owners_now forests_now def.number) same_owners changes_place

    pub sound_of_change : IsSoundWith shape def_now (pages_of g new)
    unfolding pages_now
    sound_of_change = record {
      view = record { owners = owners_now; places = slice_set sound.view.places def.number (Some (view_of def_now forests_now)) };
      table = view_of def_now forests_now;
      first = first_rules_now shape (with_table_page def (pages_of g old)) pages_now sound.view sound.table def_now owners_now forests_now def.number sound.first sound.there changes_in_view;
      there = subst (λ n. slice_get (slice_set sound.view.places def.number (Some (view_of def_now forests_now))) n ≡ Some (Some (view_of def_now forests_now))) (sym same_number)
          (slice_get-set_same sound.view.places def.number (Some (view_of def_now forests_now))
          (omega (arith, low, range_length (IsTablePlaceSound shape (with_table_page def (pages_of g old)) sound.view.owners) 0 16 sound.view.places sound.first.rule3.each)));
      same = refl;
    }

    -- ---- between two changes

    -- what was said of the rows of each table is said of them now, where it is of this one's
    each_table_between : (P : TableView → List PlacedRow → Type 0) → AllByRecursion (λ x. P x (rows_in_table shape (with_table_page def (pages_of g old)) x.def x.map)) (tables_there sound.view.places)
        → P (view_of def_now forests_now) (rows_in_table shape (pages_of g new) def_now forests_now.map)
        → AllByRecursion (λ x. P x (rows_in_table shape (with_table_page def_now (pages_of g new)) x.def x.map)) (tables_there (slice_set sound.view.places def.number (Some (view_of def_now forests_now))))
    unfolding pages_now
    each_table_between P were is =
        each_table_now shape (with_table_page def (pages_of g old)) pages_now sound.view sound.table def_now owners_now forests_now def.number sound.first sound.there changes_in_view
        P were (subst (P (view_of def_now forests_now)) (sym (rows_with_table_page shape def_now (pages_of g new) low_now def_now forests_now.map)) is)

    pub between_of_change : AreSoundIndexes shape (with_table_page def (pages_of g old)) sound.view → AreNumbersSound shape (with_table_page def (pages_of g old)) sound.view
        → AreOtherKeysSound shape (with_table_page def (pages_of g old)) sound.view def.number
        → AreTableIndexesSound shape (pages_of g new) (view_of def_now forests_now) → AreRowNumbersSound def_now (rows_in_table shape (pages_of g new) def_now forests_now.map)
        → IsSoundBetweenChanges shape def_now (pages_of g new)
    unfolding pages_now sound_of_change
    between_of_change indexed numbered others indexes_now numbers_now = record {
      sound = sound_of_change;
      rule11 = each_table_between (λ x rows. AllZip (IsSoundIndex x.def rows (pending_blocks x.map)) x.def.indexes x.indexes) indexed indexes_now;
      numbers = each_table_between (λ x rows. AreRowNumbersSound x.def rows) numbered numbers_now;
      other_keys = subst (AreOtherKeysSound shape (with_table_page def_now (pages_of g new)) sound_of_change.view) (sym same_number)
          (each_table_between (λ x rows. x.def.number ≢ def.number → AllByRecursion (IsUniqueSound rows) x.def.indexes) others (λ apart. absurd (apart same_number)));
    }

  -- the definition is as it was, or its next row number is another one
  pub sound_of_changed_table : IsSoundWith shape def (pages_of g new)
  sound_of_changed_table = sound_of_change def refl refl refl limits changes.stands

  pub sound_with_next : (next : ℕ) → next < 18446744073709551616 → IsSoundWith shape (with_next def next) (pages_of g new)
  sound_with_next next small = sound_of_change (with_next def next) refl refl refl (limits_next def.number def next small limits) (stands_next g shape new def next owners_now forests_now changes.stands)

  -- the same between two changes, where rule 11 holds of the table now
  pub between_with_definition : AreSoundIndexes shape (with_table_page def (pages_of g old)) sound.view → AreNumbersSound shape (with_table_page def (pages_of g old)) sound.view
      → AreOtherKeysSound shape (with_table_page def (pages_of g old)) sound.view def.number → AreTableIndexesSound shape (pages_of g new) (view_of def forests_now)
      → AreRowNumbersSound def (rows_in_table shape (pages_of g new) def forests_now.map) → IsSoundBetweenChanges shape def (pages_of g new)
  between_with_definition = between_of_change def refl refl refl limits changes.stands

  pub between_with_next : AreSoundIndexes shape (with_table_page def (pages_of g old)) sound.view → AreNumbersSound shape (with_table_page def (pages_of g old)) sound.view
      → AreOtherKeysSound shape (with_table_page def (pages_of g old)) sound.view def.number → AreTableIndexesSound shape (pages_of g new) (view_of def forests_now)
      → (next : ℕ) → next < 18446744073709551616 → AreRowNumbersSound (with_next def next) (rows_in_table shape (pages_of g new) def forests_now.map) → IsSoundBetweenChanges shape (with_next def next) (pages_of g new)
  between_with_next indexed numbered others indexes_now next small numbers_now =
      between_of_change (with_next def next) refl refl refl (limits_next def.number def next small limits) (stands_next g shape new def next owners_now forests_now changes.stands) indexed numbered others
      (indexes_next shape (pages_of g new) def next forests_now indexes_now) numbers_now

  -- as it does where the table has no record index
  pub no_indexes_now : def.indexes ≡ [] → AreTableIndexesSound shape (pages_of g new) (view_of def forests_now)
  no_indexes_now none = no_indexes_sound shape (pages_of g new) def forests_now none (no_index_trees g shape new def owners_now forests_now changes.stands limits.roots.one_each none)
