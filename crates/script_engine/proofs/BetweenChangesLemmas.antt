-- Sound pages and pages between two changes of rows: each is the other, where the table page is written and no record index lags.
use Rattle.std.proofs.Common.{◌≡◌, ◌≢◌, ◌<◌, ◌+◌, ℕ, List, [], Some, set, refl, ap, arith, sym, ◌∙◌, subst, inl, inr}
use Rattle.std.specs.Prelude.{IsTrue, slice_get}
use Rattle.std.proofs.lemmas.Bool.{cases_eq}
use Rattle.std.proofs.lemmas.List.{set-get_or}
use Rattle.mdc_words.specs.ByteOrder.{Entry}
use Rattle.mdc_ast.specs.declared.definition.TableDef.{TableDef}
use Rattle.store_api.specs.Frame.{OnlyPage}
use Rattle.store_api.specs.StoreState.{page_at}
use Rattle.store_api.specs.declared.pages.Pages.{Ghosts}
use Rattle.store_api.specs.declared.shape.Shape.{Shape}
use Rattle.extent_map.specs.Owners.{AreRightNotes}
use Rattle.extent_map.specs.declared.kind.Kind.{Kind}
use Rattle.extent_map.specs.declared.space_notes.SpaceNotes.{SpaceNotes}
use Rattle.table_trees.specs.SpaceChanges.{IsSameSpace}
use Rattle.table_trees.specs.ToldPages.{PageList, told_pages}
use Rattle.table_trees.proofs.ToldPagesLemmas.{map_of_told}
use Rattle.mdc_sound.specs.BlockRules.{AreNumbersSound, AreOtherKeysSound, AreSoundIndexes, AreTableKeysSound}
use Rattle.mdc_sound.specs.SoundDatabase.{IsSoundBetweenChanges, IsSoundWith, KeepAllRules, KeepFirstRules, with_table_page}
use Rattle.mdc_sound.specs.SpaceRules.{DatabaseView, IsTablePlaceSound, tables_there}
use Rattle.mdc_sound.specs.StandingTable.{IsReadyTable, RoomNote, StandsTable, TableForests, pages_of}
use Rattle.mdc_sound.specs.TablePages.{DefinesTable}
use Rattle.mdc_sound.specs.TableViews.{TableView}
use Rattle.mdc_sound.proofs.BlockRulesLemmas.{each_as}
use Rattle.mdc_sound.proofs.SoundDatabaseLemmas.{length-with_table_page, page_at-with_table_page, put_table_page}
use Rattle.mdc_sound.proofs.SpaceRulesLemmas.{each_there, range_at, same_table, there_at}
use Rattle.mdc_sound.proofs.StandingTableLemmas.{forests_of, number_of_place, stands_listed, stands_of_rules, stands_still, stands_told}
use Rattle.free_space.specs.RoomNotes.{no_note}
use Rattle.mdc_table.proofs.KeptRoomsLemmas.{rooms_forgotten}
use Rattle.stored_catalog.proofs.OpenedTableLemmas.{defined_there}

-- ---- the table page

-- a page that defines the table already is as it would be written
pub written_already : (pages : PageList) (t : ℕ) (def : TableDef) → def.number ≡ t → DefinesTable pages t def → with_table_page def pages ≡ pages
written_already pages t def number defines =
    let same : 1 + t ≡ 1 + def.number = omega (arith, number) in
    ap (set pages (1 + def.number)) (sym defines.printed ∙ ap (λ p. page_at pages p) same) ∙ set-get_or pages (1 + def.number) []

-- the page of the table in hand defines it, once it is written
pub written_defines : (shape : Shape) (def : TableDef) (pages : PageList) → IsSoundWith shape def pages → DefinesTable (with_table_page def pages) def.number def
written_defines shape def pages sound =
    let here = range_at (IsTablePlaceSound shape (with_table_page def pages) sound.view.owners) 0 16 sound.view.places def.number (Some sound.table) sound.first.rule3.each sound.there in
    let same : 0 + def.number ≡ def.number = omega arith in
    subst (DefinesTable (with_table_page def pages) def.number) sound.same (subst (λ t. DefinesTable (with_table_page def pages) t sound.table.def) same here.1.0)

-- its number is that of one of the 16 places
pub number_is_low : (shape : Shape) (def : TableDef) (pages : PageList) → IsSoundWith shape def pages → def.number < 16
number_is_low shape def pages sound = (number_of_place shape (with_table_page def pages) sound.view sound.first def.number sound.table sound.there).0

-- a table stands where its page is written, in the list of pages
pub stands_written : {S : Type 0} (g : Ghosts S) (shape : Shape) (s : S) (def : TableDef) (owners : List Kind) (forests : TableForests) → def.number < 16 → StandsTable g shape s def owners forests
    → StandsTable told_pages shape (with_table_page def (pages_of g s)) def owners forests
stands_written g shape s def owners forests low st =
    let listed = stands_listed g s st.told shape def owners forests st in
    stands_still (OnlyPage (1 + def.number)) shape (pages_of g s) (with_table_page def (pages_of g s)) def owners forests listed (put_table_page def (pages_of g s)) refl
    (omega (arith, length-with_table_page def (pages_of g s)))
    (λ p on only. omega (arith, on.0, only, low))
    (λ p l only. omega (arith, (listed.trees.used p l).page.behind, only, low))
    (λ p of only. omega (arith, of.page.behind, only, low))

-- it takes no space
pub space_written : {S : Type 0} (g : Ghosts S) (shape : Shape) (s : S) (def : TableDef) (owners : List Kind) (forests : TableForests) → def.number < 16 → StandsTable g shape s def owners forests
    → IsSameSpace shape (pages_of g s) (with_table_page def (pages_of g s))
space_written g shape s def owners forests low st = record {
  owners = owners;
  had = map_of_told g s st.told shape owners st.trees.map;
  has = (stands_written g shape s def owners forests low st).trees.map;
  bytes = λ p of. page_at-with_table_page def (pages_of g s) p (λ e. omega (arith, of.page.behind, e, low));
  count = length-with_table_page def (pages_of g s);
}

-- ---- sound pages

-- a table of sound pages whose page is written is one between two changes
pub between_of_rules : (shape : Shape) (pages : PageList) (view : DatabaseView) (def : TableDef) → KeepAllRules shape pages view → def.number < 16 → DefinesTable pages def.number def
    → IsSoundBetweenChanges shape def pages
between_of_rules shape pages view def keeps low defines =
    let there = defined_there shape pages view def.number def keeps low defines in
    let same : pages ≡ with_table_page def pages = sym (written_already pages def.number def refl defines) in
    record {
      sound = record { view = view; table = there.table; first = subst (λ (p : PageList). KeepFirstRules shape p view) same keeps.first; there = there.there; same = there.same };
      rule11 = subst (λ (p : PageList). AreSoundIndexes shape p view) same keeps.rule11;
      numbers = subst (λ (p : PageList). AreNumbersSound shape p view) same keeps.rule12.numbers;
      other_keys = subst (λ (p : PageList). AreOtherKeysSound shape p view def.number) same
          (each_as (AreTableKeysSound shape pages) (λ (table : TableView). table.def.number ≢ def.number → AreTableKeysSound shape pages table) (tables_there view.places) (λ table in_view keys apart. keys) keeps.rule12.unique);
    }

-- where the keys of that table differ, those of all tables do
keys_between : (shape : Shape) (def : TableDef) (pages : PageList) (between : IsSoundBetweenChanges shape def pages) → AreTableKeysSound shape (with_table_page def pages) between.sound.table → (t : ℕ) (table : TableView)
    → slice_get between.sound.view.places t ≡ Some (Some table) → AreTableKeysSound shape (with_table_page def pages) table
keys_between shape def pages between keys t table at = elim (cases_eq t def.number) [
  | inl here ↦
      let mine : table ≡ between.sound.table = same_table table between.sound.table (sym (subst (λ n. slice_get between.sound.view.places n ≡ Some (Some table)) here at) ∙ between.sound.there) in
      subst (AreTableKeysSound shape (with_table_page def pages)) (sym mine) keys
  | inr apart ↦
      let number = (number_of_place shape (with_table_page def pages) between.sound.view between.sound.first t table at).1 in
      there_at (λ (x : TableView). x.def.number ≢ def.number → AreTableKeysSound shape (with_table_page def pages) x) between.sound.view.places t table at between.other_keys (λ e. apart (sym number ∙ e))
]

-- so all rules hold, once its page is written
pub rules_of_between : (shape : Shape) (def : TableDef) (pages : PageList) (between : IsSoundBetweenChanges shape def pages) → AreTableKeysSound shape (with_table_page def pages) between.sound.table → KeepAllRules shape (with_table_page def pages) between.sound.view
rules_of_between shape def pages between keys = record {
  first = between.sound.first;
  rule11 = between.rule11;
  rule12 = record {
    numbers = between.numbers;
    unique = each_there (AreTableKeysSound shape (with_table_page def pages)) between.sound.view.places (λ t table at. keys_between shape def pages between keys t table at);
  };
}

-- ---- a table that is ready

-- each table of sound pages is ready, where no rooms are noted
pub ready_table : {S : Type 0} (g : Ghosts S) (shape : Shape) (noted : SpaceNotes) (s : S) (view : DatabaseView) (t : ℕ) (def : TableDef) (room_of : Entry → RoomNote) → IsTrue (g.state s).is_told → KeepAllRules shape (pages_of g s) view
    → AreRightNotes shape noted view.owners → t < 16 → DefinesTable (pages_of g s) t def → ((key : Entry) → room_of key ≡ no_note)
    → (forests : TableForests) × IsReadyTable g shape noted room_of s def view.owners forests
ready_table g shape noted s view t def room_of told keeps notes low defines forgotten =
    let there = defined_there shape (pages_of g s) view t def keeps low defines in
    let st = subst (λ (d : TableDef). StandsTable g shape s d view.owners (forests_of there.table)) there.same
    (stands_told g s told shape there.table.def view.owners (forests_of there.table) (stands_of_rules shape (pages_of g s) view keeps.first t there.table there.there)) in
    (forests_of there.table, record { stands = st; notes = notes; rooms = rooms_forgotten def room_of _ forgotten })
