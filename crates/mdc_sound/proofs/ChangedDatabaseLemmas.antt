-- The plain database that pages stand for, after a change of one table: the other places are as they were, and the table's own
-- place has its new definition and its rows now.
use Rattle.std.proofs.Common.{◌≡◌, ◌≢◌, ◌<◌, ◌≤◌, ◌+◌, ℕ, zero, suc, List, [], ◌∷◌, Option, Some, None, length, refl, ap, arith, sym, ◌∙◌, subst}
use Rattle.std.specs.Prelude.{IsPermutation, map, option_map, slice_get, slice_index_or}
use Rattle.std.specs.List.{AllZip, range_with_len}
use Rattle.std.proofs.lemmas.Option.{slice_get-get_or}
use Rattle.mdc_ast.specs.declared.definition.TableDef.{TableDef}
use Rattle.mdc_ast.specs.Database.{Database, PlainTable, changed_at, appended}
use Rattle.store_api.specs.Frame.{Touches}
use Rattle.store_api.specs.declared.pages.Pages.{Ghosts}
use Rattle.store_api.specs.declared.shape.Shape.{Shape}
use Rattle.extent_map.specs.declared.kind.Kind.{Kind}
use Rattle.extent_map.specs.declared.space_notes.SpaceNotes.{SpaceNotes}
use Rattle.entry_tree.specs.Forest.{Forest}
use Rattle.mdc_ast.specs.TableLimits.{IsTableDef}
use Rattle.table_page.specs.TablePage.{IsTablePageOf}
use Rattle.table_page.proofs.TablePageLemmas.{no_blank_table, one_definition}
use Rattle.table_trees.specs.TableTrees.{map_place}
use Rattle.table_trees.specs.ToldPages.{HasTree, PageList}
use Rattle.mdc_sound.specs.BlockRules.{AreRowNumbersSound}
use Rattle.mdc_sound.specs.SoundDatabase.{IsSoundWith, KeepFirstRules, with_table_page}
use Rattle.mdc_sound.specs.SpaceRules.{DatabaseView, IsTablePlaceSound}
use Rattle.mdc_sound.specs.StandingTable.{ChangesTable, IsTableSpace, StandsTable, TableForests, pages_of}
use Rattle.mdc_sound.specs.StandsForDatabase.{HoldsPlace, HoldsTable, PagesStandFor, rootless, with_row, without_row}
use Rattle.mdc_sound.specs.TablePages.{DefinesTable, table_page_at}
use Rattle.mdc_sound.specs.TableRows.{PlacedRow, rows_in_table}
use Rattle.mdc_sound.specs.TableViews.{TableView}
use Rattle.mdc_sound.proofs.ChangedTablesLemmas.{changes_in_view, limits, rows_then}
use Rattle.mdc_sound.proofs.NextNumberLemmas.{limits_next, stands_next, with_next}
use Rattle.mdc_sound.proofs.PlainTableLemmas.{IsPlainTable, plain_with, plain_with_more, plain_without}
use Rattle.mdc_sound.proofs.SoundChangeLemmas.{ChangesPlace, other_rows, other_stands, table_page_kept}
use Rattle.mdc_sound.proofs.SoundDatabaseLemmas.{rows_with_table_page}
use Rattle.mdc_sound.proofs.SpaceRulesLemmas.{range_at, range_length, same_table}
use Rattle.mdc_sound.proofs.StandingTableLemmas.{number_of_place, stands_of_rules}
use Rattle.mdc_sound.proofs.StandsForLemmas.{one_tree_at}

-- ---- places

-- what holds of each place goes over into what holds of each
places_kept : {B : Type 0} (R Q : ℕ → B → Type 0) (a n : ℕ) (xs : List B) → AllZip R (range_with_len a n) xs → ((u : ℕ) (x : B) → a ≤ u → u < a + n → R u x → Q u x)
    → AllZip Q (range_with_len a n) xs
places_kept R Q a zero [] all keeps = tt
places_kept R Q a zero (x ∷ xs) all keeps = absurd all
places_kept R Q a (suc n) [] all keeps = absurd all
places_kept R Q a (suc n) (x ∷ xs) all keeps = (
  keeps a x (omega arith) (omega arith) all.0,
  places_kept R Q (a + 1) n xs all.1 (λ u y low high is. keeps u y (omega (arith, low)) (omega (arith, high)) is),
)

-- and so it does where one place changes
places_changed : (R Q : ℕ → Option PlainTable → Type 0) (change : PlainTable → PlainTable) (a n : ℕ) (db : Database) (t : ℕ) → AllZip R (range_with_len a n) db
    → ((u : ℕ) (x : Option PlainTable) → u < a + n → u ≢ a + t → R u x → Q u x) → ((x : Option PlainTable) → R (a + t) x → Q (a + t) (option_map change x))
    → AllZip Q (range_with_len a n) (changed_at db t change)
places_changed R Q change a zero [] t all others own = tt
places_changed R Q change a zero (x ∷ db) t all others own = absurd all
places_changed R Q change a (suc n) [] t all others own = absurd all
places_changed R Q change a (suc n) (x ∷ db) zero all others own =
    let here : a + 0 ≡ a = omega arith in (
      subst (λ (u : ℕ). Q u (option_map change x)) here (own x (subst (λ (u : ℕ). R u x) (sym here) all.0)),
      places_kept R Q (a + 1) n db all.1 (λ u y low high is. others u y (omega (arith, high)) (λ e. omega (arith, e, low)) is),
    )
places_changed R Q change a (suc n) (x ∷ db) (suc t) all others own =
    let later : (a + 1) + t ≡ a + suc t = omega arith in (
      others a x (omega arith) (λ e. omega (arith, e)) all.0,
      places_changed R Q change (a + 1) n db t all.1 (λ u y high apart is. others u y (omega (arith, high)) (λ e. apart (e ∙ sym later)) is)
          (λ y is. subst (λ (u : ℕ). Q u (option_map change y)) (sym later) (own y (subst (λ (u : ℕ). R u y) later is))),
    )

-- ---- pages

-- the tables of pages that keep the first ten rules are those of their view
module _ (shape : Shape) (pages : PageList) (view : DatabaseView) (keeps : KeepFirstRules shape pages view) where
  -- a place where the page defines a table has one in the view
  table_there : (u : ℕ) → u < 16 → (def : TableDef) → DefinesTable pages u def → (other : TableView) × (slice_get view.places u ≡ Some (Some other)) × (def ≡ other.def)
  table_there u few def defines =
      go (slice_index_or view.places u None) (slice_get-get_or view.places u None (omega (arith, few, range_length (IsTablePlaceSound shape pages view.owners) 0 16 view.places keeps.rule3.each)))
    where
      sound : (place : Option TableView) → slice_get view.places u ≡ Some place → IsTablePlaceSound shape pages view.owners u place
      sound place at =
          let same : 0 + u ≡ u = omega arith in
          subst (λ v. IsTablePlaceSound shape pages view.owners v place) same (range_at (IsTablePlaceSound shape pages view.owners) 0 16 view.places u place keeps.rule3.each at).1

      go : (place : Option TableView) → slice_get view.places u ≡ Some place → (other : TableView) × (slice_get view.places u ≡ Some (Some other)) × (def ≡ other.def)
      go None at = absurd (no_blank_table u def (subst (λ page. IsTablePageOf u def page) (sound None at) defines))
      go (Some other) at = (other, at, one_definition u def other.def (table_page_at pages u) defines (sound (Some other) at).0)

  -- the tree that a table's page names is its block map there
  map_there : (u : ℕ) (other : TableView) → slice_get view.places u ≡ Some (Some other) → (t : Forest) → HasTree pages (map_place other.def) t → t ≡ other.map
  map_there u other at t has = one_tree_at pages (map_place other.def) t other.map has (stands_of_rules shape pages view keeps u other at).trees.held.0

  -- so the plain table in a place is that of the view's
  pub table_of_view : (u : ℕ) → u < 16 → (x : PlainTable) → HoldsTable shape pages u x
      → (other : TableView) × (slice_get view.places u ≡ Some (Some other)) × IsPlainTable other.def (rows_in_table shape pages other.def other.map) x
  table_of_view u few x holds =
      let found = table_there u few holds.def holds.defines in
      (found.0, found.1, named found.0 found.1 found.2)
    where
      named : (other : TableView) → slice_get view.places u ≡ Some (Some other) → holds.def ≡ other.def → IsPlainTable other.def (rows_in_table shape pages other.def other.map) x
      named other at same =
          let has : HasTree pages (map_place other.def) holds.map_tree = subst (λ (d : TableDef). HasTree pages (map_place d) holds.map_tree) same holds.has_map in
          let rows : rows_in_table shape pages holds.def holds.map_tree ≡ rows_in_table shape pages other.def other.map =
          ap (λ (d : TableDef). rows_in_table shape pages d holds.map_tree) same ∙ ap (λ (tree : Forest). rows_in_table shape pages other.def tree) (map_there u other at holds.map_tree has) in record {
            def_is = holds.def_is ∙ ap rootless same;
            same_rows = subst (λ (all : List PlacedRow). IsPermutation (map (λ (p : PlacedRow). p.row) all) x.rows) rows holds.same_rows;
            rising = holds.rising;
          }

module _ (shape : Shape) (old new : PageList) (view : DatabaseView) (table : TableView) (def_now : TableDef) (owners_now : List Kind) (forests_now : TableForests) (t : ℕ)
    (keeps : KeepFirstRules shape old view) (there : slice_get view.places t ≡ Some (Some table))
    (changes : ChangesPlace shape old new view.owners table def_now owners_now forests_now t) where
  page_kept : (u : ℕ) → u < 16 → u ≢ t → table_page_at new u ≡ table_page_at old u
  page_kept u few apart = table_page_kept shape old new view table def_now owners_now forests_now t keeps there changes u few apart

  -- another place holds what it held
  pub other_place_kept : (u : ℕ) (x : Option PlainTable) → u < 16 → u ≢ t → HoldsPlace shape old u x → HoldsPlace shape new u x
  other_place_kept u None few apart blank = page_kept u few apart ∙ blank
  other_place_kept u (Some x) few apart holds = let found = table_of_view shape old view keeps u few x holds in kept found.0 found.1 found.2
    where
      kept : (other : TableView) → slice_get view.places u ≡ Some (Some other) → IsPlainTable other.def (rows_in_table shape old other.def other.map) x → HoldsTable shape new u x
      kept other at is =
          let defines = (range_at (IsTablePlaceSound shape old view.owners) 0 16 view.places u (Some other) keeps.rule3.each at).1.0 in
          let same : 0 + u ≡ u = omega arith in record {
            def = other.def;
            map_tree = other.map;
            defines = subst (λ page. IsTablePageOf u other.def page) (sym (page_kept u few apart)) (subst (λ v. DefinesTable old v other.def) same defines);
            has_map = (other_stands shape old new view table def_now owners_now forests_now t keeps there changes u other apart at).trees.held.0;
            def_is = is.def_is;
            same_rows = subst (λ (all : List PlacedRow). IsPermutation (map (λ (p : PlacedRow). p.row) all) x.rows)
                (sym (other_rows shape old new view table def_now owners_now forests_now t keeps there changes u other apart at)) is.same_rows;
            rising = is.rising;
          }

  -- its own place holds a plain table now of its new definition and its rows now
  pub own_place : (x : PlainTable) → IsPlainTable def_now (rows_in_table shape new def_now forests_now.map) x → HoldsPlace shape new t (Some x)
  own_place x is = record {
    def = def_now;
    map_tree = forests_now.map;
    defines = changes.defines;
    has_map = changes.stands.trees.held.0;
    def_is = is.def_is;
    same_rows = is.same_rows;
    rising = is.rising;
  }

  -- so the pages stand for the database with another table in that place
  pub database_of_place : (change : PlainTable → PlainTable)
      → ((x : PlainTable) → IsPlainTable table.def (rows_in_table shape old table.def table.map) x → IsPlainTable def_now (rows_in_table shape new def_now forests_now.map) (change x))
      → (db : Database) → PagesStandFor shape old db → PagesStandFor shape new (changed_at db t change)
  database_of_place change makes db stands =
      places_changed (HoldsPlace shape old) (HoldsPlace shape new) change 0 16 db t stands (λ u x few apart holds. other_place_kept u x (omega (arith, few)) (λ e. apart (omega (arith, e))) holds)
      (λ x holds. let same : 0 + t ≡ t = omega arith in subst (λ v. HoldsPlace shape new v (option_map change x)) (sym same) (own x (subst (λ v. HoldsPlace shape old v x) same holds)))
    where
      own : (x : Option PlainTable) → HoldsPlace shape old t x → HoldsPlace shape new t (option_map change x)
      own None blank =
          let defines = (range_at (IsTablePlaceSound shape old view.owners) 0 16 view.places t (Some table) keeps.rule3.each there).1.0 in
          let same : 0 + t ≡ t = omega arith in
          absurd (no_blank_table t table.def (subst (λ page. IsTablePageOf t table.def page) blank (subst (λ v. DefinesTable old v table.def) same defines)))
      own (Some x) holds =
          let found = table_of_view shape old view keeps t (number_of_place shape old view keeps t table there).0 x holds in
          let same : found.0 ≡ table = same_table found.0 table (sym found.1 ∙ there) in
          own_place (change x) (makes x (subst (λ (v : TableView). IsPlainTable v.def (rows_in_table shape old v.def v.map) x) same found.2))

-- ---- stores

module _ {S : Type 0} (g : Ghosts S) (shape : Shape) {before noted : SpaceNotes} (old new : S) (def : TableDef) (owners owners_now : List Kind) (forests forests_now : TableForests)
    (sound : IsSoundWith shape def (pages_of g old)) (st : StandsTable g shape old def owners forests)
    (changes : ChangesTable g shape before noted old new def owners forests owners_now forests_now)
    (touched : Touches g (IsTableSpace g shape old def) old new) (longer : length (pages_of g old) ≤ length (pages_of g new)) where
  -- the rows of the table then, and now
  abbrev rows_before : List PlacedRow
  rows_before = rows_in_table shape (pages_of g old) def forests.map

  abbrev rows_after : List PlacedRow
  rows_after = rows_in_table shape (pages_of g new) def forests_now.map

  low : def.number < 16
  low = (number_of_place shape (with_table_page def (pages_of g old)) sound.view sound.first def.number sound.table sound.there).0

  -- another definition of the same number, name and indexes is in hand
  pub database_of_definition : (def_now : TableDef) → def_now.number ≡ def.number → def_now.name ≡ def.name → def_now.indexes ≡ def.indexes → IsTableDef def.number def_now
      → StandsTable g shape new def_now owners_now forests_now → (change : PlainTable → PlainTable)
      → ((x : PlainTable) → IsPlainTable def rows_before x → IsPlainTable def_now (rows_in_table shape (pages_of g new) def_now forests_now.map) (change x))
      → (db : Database) → PagesStandFor shape (with_table_page def (pages_of g old)) db → PagesStandFor shape (with_table_page def_now (pages_of g new)) (changed_at db def.number change)
  database_of_definition def_now same_number same_name same_indexes limits_now stands_now change makes db stands =
      database_of_place shape (with_table_page def (pages_of g old)) (with_table_page def_now (pages_of g new)) sound.view sound.table def_now owners_now forests_now def.number sound.first sound.there
      (changes_in_view g shape old new def owners owners_now forests forests_now sound st changes touched longer def_now same_number same_name same_indexes limits_now stands_now) change
      (λ x is. subst (λ (all : List PlacedRow). IsPlainTable def_now all (change x)) (sym (rows_with_table_page shape def_now (pages_of g new) (omega (arith, low, same_number)) def_now forests_now.map))
      (makes x (subst (λ (d : TableDef). IsPlainTable d rows_before x) sound.same
      (subst (λ (all : List PlacedRow). IsPlainTable sound.table.def all x) (rows_then g shape old new def owners owners_now forests forests_now sound st changes touched longer) is))))
      db stands

  -- the definition is as it was
  pub database_of_change : (change : PlainTable → PlainTable) → ((x : PlainTable) → IsPlainTable def rows_before x → IsPlainTable def rows_after (change x))
      → (db : Database) → PagesStandFor shape (with_table_page def (pages_of g old)) db → PagesStandFor shape (with_table_page def (pages_of g new)) (changed_at db def.number change)
  database_of_change = database_of_definition def refl refl refl (limits g shape old new def owners owners_now forests forests_now sound st changes touched longer) changes.stands

  -- or its next row number is another one
  pub database_with_next : (next : ℕ) → next < 18446744073709551616 → (change : PlainTable → PlainTable)
      → ((x : PlainTable) → IsPlainTable def rows_before x → IsPlainTable (with_next def next) rows_after (change x))
      → (db : Database) → PagesStandFor shape (with_table_page def (pages_of g old)) db
      → PagesStandFor shape (with_table_page (with_next def next) (pages_of g new)) (changed_at db def.number change)
  database_with_next next small =
      database_of_definition (with_next def next) refl refl refl (limits_next def.number def next small (limits g shape old new def owners owners_now forests forests_now sound st changes touched longer))
      (stands_next g shape new def next owners_now forests_now changes.stands)

  -- ---- one row

  module _ (numbers : AreRowNumbersSound def rows_before) (db : Database) (stands : PagesStandFor shape (with_table_page def (pages_of g old)) db) where
    -- a row more
    pub database_with_more : (placed : PlacedRow) → placed.row.number ≡ def.next → def.next + 1 < 18446744073709551616 → IsPermutation (placed ∷ rows_before) rows_after
        → PagesStandFor shape (with_table_page (with_next def (def.next + 1)) (pages_of g new)) (changed_at db def.number (appended (placed.row.values ∷ [])))
    database_with_more placed number small same =
        database_with_next (def.next + 1) small (appended (placed.row.values ∷ [])) (λ x is. plain_with_more def rows_before rows_after numbers x is placed number same) db stands

    -- a row less
    pub database_without : (placed : PlacedRow) → IsPermutation (placed ∷ rows_after) rows_before
        → PagesStandFor shape (with_table_page def (pages_of g new)) (changed_at db def.number (without_row placed.row.number))
    database_without placed same = database_of_change (without_row placed.row.number) (λ x is. plain_without def rows_before rows_after numbers x is placed same) db stands

    -- a row that became another of its number
    pub database_with : (placed other : PlacedRow) (stay : List PlacedRow) → other.row.number ≡ placed.row.number → IsPermutation (placed ∷ stay) rows_before → IsPermutation (other ∷ stay) rows_after
        → PagesStandFor shape (with_table_page def (pages_of g new)) (changed_at db def.number (with_row other.row))
    database_with placed other stay number then now = database_of_change (with_row other.row) (λ x is. plain_with def rows_before rows_after numbers x is placed other stay number then now) db stands
