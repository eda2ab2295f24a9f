-- A table of ready pages: it stands, and once its rows were changed and its page is written the pages are ready again.
use Rattle.std.proofs.Common.{◌≡◌, ◌≢◌, ◌<◌, ◌+◌, ℕ, zero, suc, Bool, true, false, List, [], ◌∷◌, Option, Some, set, refl, ap, arith, sym, ◌∙◌, subst}
use Rattle.std.specs.Prelude.{IsTrue, slice_get}
use Rattle.std.proofs.lemmas.Option.{same_Some}
use Rattle.mdc_words.specs.ByteOrder.{Entry}
use Rattle.mdc_ast.specs.declared.bound.Bound.{Bound}
use Rattle.mdc_ast.specs.declared.bound.Bound.TheVariants as bound
use Rattle.mdc_ast.specs.declared.definition.TableDef.{TableDef}
use Rattle.mdc_ast.specs.declared.statement.RolloutMode.{RolloutMode}
use Rattle.mdc_ast.specs.Database.{Database, PlainTable, changed_at, table_at}
use Rattle.statement_meaning.proofs.DatabaseLemmas.{table_at-changed}
use Rattle.mdc_ast.specs.Definitions.{Definitions, def_at, with_def}
use Rattle.store_api.specs.declared.pages.Pages.{Ghosts}
use Rattle.store_api.specs.declared.shape.Shape.{Shape}
use Rattle.extent_map.specs.Owners.{AreRightNotes}
use Rattle.extent_map.specs.declared.kind.Kind.{Kind}
use Rattle.extent_map.specs.declared.space_notes.SpaceNotes.{SpaceNotes}
use Rattle.mdc_ast.specs.TableLimits.{IsTableDef}
use Rattle.table_page.proofs.TablePageLemmas.{one_definition}
use Rattle.table_trees.specs.SpaceChanges.{IsSameSpace, SpaceChange}
use Rattle.table_trees.specs.TableTrees.{map_place}
use Rattle.table_trees.specs.ToldPages.{HasTree, PageList, told_pages}
use Rattle.table_trees.proofs.SpaceChainsLemmas.{changes_to}
use Rattle.mdc_sound.specs.BlockRules.{AreTableKeysSound}
use Rattle.mdc_sound.specs.Placing.{Spot, block_slot_count, table_spots}
use Rattle.mdc_sound.specs.RunningFull.{ShowsTableSpots}
use Rattle.mdc_sound.specs.SoundDatabase.{KeepAllRules, with_table_page}
use Rattle.mdc_sound.specs.SpaceRules.{DatabaseView}
use Rattle.mdc_sound.specs.StandingTable.{AreRightRooms, ChangesTable, IsReadyTable, RoomNote, StandsTable, TableForests, pages_of, spots_of}
use Rattle.mdc_sound.specs.StandsForDatabase.{PagesStandFor}
use Rattle.mdc_sound.specs.TablePages.{DefinesTable, table_page_at}
use Rattle.mdc_sound.proofs.SoundDatabaseLemmas.{page_at-with_table_page}
use Rattle.mdc_sound.proofs.SpaceRulesLemmas.{range_at}
use Rattle.mdc_sound.proofs.StandingTableLemmas.{forests_of, one_standing, stands_of_sound, stands_told}
use Rattle.cell_change.proofs.ChangedSpaceLemmas.{shows_spots}
use Rattle.stored_catalog.specs.StoredDefinitions.{AreStored, IsWithinLimits}
use Rattle.stored_catalog.proofs.AroundTableLemmas.{stored_but}
use Rattle.stored_catalog.proofs.LeftDefinitionsLemmas.{def_there, limits_at, stored_at}
use Rattle.stored_catalog.proofs.LoadingLemmas.{put_as_it_is}
use Rattle.rollout.proofs.RolledSpaceLemmas.{rolls_in_space_to}
use Rattle.statement_rows.specs.OtherTables.{KeepsOtherTables}
use Rattle.statement_rows.specs.RowsOfStatement.{ChangesRowsOf, IsReadyBetween, KeepsTablePages}
use Rattle.script_engine.specs.Doing.{MakesAsked, MakesSpace, PlacesOnPages, PlacesRows, goes_by_blocks}
use Rattle.script_engine.specs.NotedRooms.{AreForgotten, KeepsOtherRooms, rooms_at}
use Rattle.script_engine.specs.Ready.{AreServed, IsReady}
use Rattle.script_engine.specs.declared.tables.Tables.{Tables}
use Rattle.script_engine.proofs.BetweenChangesLemmas.{between_of_rules, number_is_low, ready_table, rules_of_between, space_written, stands_written, written_already, written_defines}
use Rattle.script_engine.proofs.KeptKeysLemmas.{KeepsKeys, keys_after}
use Rattle.script_engine.proofs.OtherRoomsLemmas.{ready_beside}
use Rattle.script_engine.proofs.OthersLemmas.{elsewhere, kept_written}
use Rattle.script_engine.proofs.SoundPagesStandLemmas.{sound_pages_stand}
use Rattle.script_engine.proofs.StoredDefsLemmas.{stored_defs, stored_table}
use Rattle.script_engine.proofs.TablePageSpotsLemmas.{spots_with_table_page}

-- ---- at the start of a statement

-- a table of built form has the number of its place, and is within the limits
pub record IsServedDef (place : ℕ) (def : TableDef) : Type 0 where
  pub number : def.number ≡ place
  pub below : place < 16
  pub limits : IsTableDef def.number def

pub served_def : (defs : Definitions) (place : ℕ) (def : TableDef) → AreServed defs → def_at defs place ≡ Some def → IsServedDef place def
served_def defs place def served at =
    let limits = limits_at defs place def served.limits at in record {
      number = limits.stands;
      below = (range_at IsWithinLimits 0 16 defs place (Some def) served.limits (def_there defs place def at)).0;
      limits = subst (λ t. IsTableDef t def) (sym limits.stands) limits;
    }

-- a table of ready pages stands with right notes, in pages that are sound as they are between two changes of rows
pub ready_between : {S : Type 0} (g : Ghosts S) (s : S) (tables : Tables) (place : ℕ) (def : TableDef) → AreServed tables.catalog → (ready : IsReady g s tables) → def_at tables.catalog place ≡ Some def
    → (forests : TableForests) × IsReadyBetween g tables.shape tables.notes (rooms_at tables.rooms place) s def ready.view.owners forests
ready_between g s tables place def served ready at =
    let is = served_def tables.catalog place def served at in
    let stored = stored_at (pages_of g s) tables.catalog place def ready.stored at in
    let table = ready.rooms place def at in
    let low : def.number < 16 = omega (arith, is.number, is.below) in
    (table.0, record { ready = table.1; sound = between_of_rules tables.shape (pages_of g s) ready.view def ready.sound low (subst (λ t. DefinesTable (pages_of g s) t def) (sym is.number) stored) })

-- ready pages have the definition of a table on its page, so writing it changes nothing
pub page_is_written : {S : Type 0} (g : Ghosts S) (s : S) (tables : Tables) (place : ℕ) (def : TableDef) → AreServed tables.catalog → IsReady g s tables → def_at tables.catalog place ≡ Some def
    → with_table_page def (pages_of g s) ≡ pages_of g s
page_is_written g s tables place def served ready at =
    written_already (pages_of g s) place def (served_def tables.catalog place def served at).number (stored_at (pages_of g s) tables.catalog place def ready.stored at)

-- ---- at its end

-- sound pages with right notes, whose table pages the catalog has, are ready where no rooms are noted
pub ready_of_sound : {S : Type 0} (g : Ghosts S) (s : S) (tables : Tables) (view : DatabaseView) → AreServed tables.catalog → IsTrue (g.state s).is_told → KeepAllRules tables.shape (pages_of g s) view
    → AreStored (pages_of g s) tables.catalog → AreRightNotes tables.shape tables.notes view.owners → AreForgotten tables.rooms → IsReady g s tables
ready_of_sound g s tables view served told sound stored notes rooms = record {
  told = told;
  view = view;
  sound = sound;
  stored = stored;
  notes = notes;
  rooms = λ table def at.
      let is = served_def tables.catalog table def served at in
      ready_table g tables.shape tables.notes s view table def (rooms_at tables.rooms table) told sound notes is.below (stored_at (pages_of g s) tables.catalog table def stored at) (rooms table is.below);
}

-- The rows of one table were changed: all that is said of it but where they went, and of the space that they asked for.
pub record ChangesOneTable {S : Type 0} (g : Ghosts S) (shape : Shape) (before noted : SpaceNotes) (room_of : Entry → RoomNote) (old new : S) (def def_now : TableDef)
    (owners : List Kind) (forests : TableForests) (change : PlainTable → PlainTable) : Type 0 where
  pub owners_now : List Kind
  pub forests_now : TableForests
  pub changes : ChangesTable g shape before noted old new def owners forests owners_now forests_now
  pub now : IsReadyBetween g shape noted room_of new def_now owners_now forests_now
  pub stands_for : (db : Database) → PagesStandFor shape (with_table_page def (pages_of g old)) db
      → PagesStandFor shape (with_table_page def_now (pages_of g new)) (changed_at db def.number change)
  pub table_pages : KeepsTablePages (pages_of g old) (pages_of g new)
  pub others : KeepsOtherTables shape (pages_of g old) (pages_of g new) def.number

-- so it is of rows that were changed one after the other
abbrev pub one_table : {S : Type 0} {g : Ghosts S} {shape : Shape} {before noted : SpaceNotes} {room_of : Entry → RoomNote} {old new : S} {def def_now : TableDef} {owners : List Kind} {forests : TableForests}
    {Places : List Spot → List SpaceChange → List Spot → Type 0} {change : PlainTable → PlainTable} → ChangesRowsOf g shape before noted room_of old new def def_now owners forests Places change
    → ChangesOneTable g shape before noted room_of old new def def_now owners forests change
one_table changed = record {
  owners_now = changed.owners_now;
  forests_now = changed.forests_now;
  changes = changed.changes;
  now = changed.now;
  stands_for = changed.stands_for;
  table_pages = changed.table_pages;
  others = changed.others;
}

-- what the pages are once the rows of the table in a place were changed and its page is written
pub record EndsChange {S : Type 0} (g : Ghosts S) (old new : S) (before now : Tables) (place : ℕ) (change : PlainTable → PlainTable) : Type 0 where
  pub ready : IsReady g new now
  pub stands_for : (db : Database) → PagesStandFor before.shape (pages_of g old) db → PagesStandFor now.shape (pages_of g new) (changed_at db place change)

-- an INSERT: the page of the table is written with its new definition
pub change_ends : {S : Type 0} (g : Ghosts S) (old mid new : S) (before now : Tables) (place : ℕ) (def def_now : TableDef) (owners : List Kind) (forests : TableForests) (change : PlainTable → PlainTable)
    → AreServed before.catalog → now.shape ≡ before.shape → IsReady g old before → def_at before.catalog place ≡ Some def → def_now ≡ record def { next = def_now.next } → def_now.next < 18446744073709551616
    → ChangesOneTable g before.shape before.notes now.notes (rooms_at now.rooms place) old mid def def_now owners forests change
    → IsTrue (g.state new).is_told → pages_of g new ≡ with_table_page def_now (pages_of g mid)
    → now.catalog ≡ with_def before.catalog place def_now → KeepsOtherRooms before.rooms now.rooms place → KeepsKeys before.shape (pages_of g old) place change → EndsChange g old new before now place change
change_ends g old mid new before now place def def_now owners forests change served shape ready at same small changed told written catalog rooms keys = record {
  ready = ready_beside g old new before now changed.now.sound.sound.view served shape ready told rules stored (subst (AreRightNotes before.shape now.notes) one_owners changed.now.ready.notes) place still_elsewhere
      (λ t other apart was. kept_written g old mid before now place def.number is.number served ready changed.others new def_now changed.now.sound.sound.view number is.below rules stored written t other apart was
      (still_elsewhere t apart ∙ was))
      rooms
      (λ d there.
      let is_now : def_now ≡ d = one_definition place def_now d (table_page_at (pages_of g new) place) defines (stored_at (pages_of g new) now.catalog place d stored there) in
      (changed.forests_now, subst (λ (x : TableDef). IsReadyTable g before.shape now.notes (rooms_at now.rooms place) new x changed.now.sound.sound.view.owners changed.forests_now) is_now table_now));
  stands_for = λ db were.
      let after = changed.stands_for db (subst (λ (pages : PageList). PagesStandFor before.shape pages db) (sym (page_is_written g old before place def served ready at)) were) in
      subst (λ (is : Shape). PagesStandFor is (pages_of g new) (changed_at db place change)) (sym shape)
      (subst (λ (pages : PageList). PagesStandFor before.shape pages (changed_at db place change)) (sym written)
      (subst (λ (t : ℕ). PagesStandFor before.shape (with_table_page def_now (pages_of g mid)) (changed_at db t change)) is.number after));
}
  where
    still_elsewhere : (t : ℕ) → t ≢ place → def_at now.catalog t ≡ def_at before.catalog t
    still_elsewhere t = elsewhere before.catalog now.catalog place t (Some (record def_now { number = place })) catalog

    is : IsServedDef place def
    is = served_def before.catalog place def served at

    number : def_now.number ≡ place
    number = ap (λ (d : TableDef). d.number) same ∙ is.number

    low : def_now.number < 16
    low = omega (arith, number, is.below)

    keys_now : AreTableKeysSound before.shape (with_table_page def_now (pages_of g mid)) changed.now.sound.sound.table
    keys_now =
        let last : PageList = with_table_page def_now (pages_of g mid) in
        let some = sound_pages_stand before.shape (pages_of g old) (ready.view, ready.sound) in
        let was = stored_table some.0 before.catalog place def (stored_defs before.shape (pages_of g old) before.catalog some.0 ready.stored some.1) at in
        let after = changed.stands_for some.0 (subst (λ (pages : PageList). PagesStandFor before.shape pages some.0) (sym (page_is_written g old before place def served ready at)) some.1) in
        let same_place : def.number ≡ def_now.number = is.number ∙ sym number in
        keys_after before.shape def_now (pages_of g mid) changed.now.sound (changed_at some.0 def_now.number change)
        (subst (λ (t : ℕ). PagesStandFor before.shape last (changed_at some.0 t change)) same_place after) (change was.0)
        (subst (λ (t : ℕ). table_at (changed_at some.0 t change) t ≡ Some (change was.0)) (sym number) (table_at-changed some.0 place was.0 change was.1)) (keys some.0 some.1 was.0 was.1)

    rules : KeepAllRules before.shape (pages_of g new) changed.now.sound.sound.view
    rules =
        subst (λ (pages : PageList). KeepAllRules before.shape pages changed.now.sound.sound.view) (sym written)
        (rules_of_between before.shape def_now (pages_of g mid) changed.now.sound keys_now)

    defines : DefinesTable (pages_of g new) place def_now
    defines =
        subst (λ (pages : PageList). DefinesTable pages place def_now) (sym written)
        (subst (λ (t : ℕ). DefinesTable (with_table_page def_now (pages_of g mid)) t def_now) number (written_defines before.shape def_now (pages_of g mid) changed.now.sound.sound))

    stored : AreStored (pages_of g new) now.catalog
    stored =
        subst (AreStored (pages_of g new)) (sym (catalog ∙ put_as_it_is before.catalog place def_now defines.limits))
        (stored_but (pages_of g old) (pages_of g new) before.catalog place (Some def_now) ready.stored
        (λ u below apart. ap (λ (pages : PageList). table_page_at pages u) written
        ∙ (page_at-with_table_page def_now (pages_of g mid) (1 + u) (λ e. apart (omega (arith, e, number))) ∙ changed.table_pages.each u below))
        defines)

    one_owners : changed.owners_now ≡ changed.now.sound.sound.view.owners
    one_owners =
        (one_standing g before.shape mid def_now changed.owners_now changed.now.sound.sound.view.owners changed.forests_now (forests_of changed.now.sound.sound.table) changed.now.ready.stands
        (stands_of_sound g before.shape mid def_now changed.now.sound.sound changed.now.ready.stands.told)).0

    stands_now : StandsTable g before.shape new def_now changed.owners_now changed.forests_now
    stands_now =
        stands_told g new told before.shape def_now changed.owners_now changed.forests_now
        (subst (λ (pages : PageList). StandsTable told_pages before.shape pages def_now changed.owners_now changed.forests_now) (sym written)
        (stands_written g before.shape mid def_now changed.owners_now changed.forests_now low changed.now.ready.stands))

    spots_now : spots_of g before.shape mid def_now changed.owners_now changed.forests_now ≡ spots_of g before.shape new def_now changed.owners_now changed.forests_now
    spots_now =
        sym (spots_with_table_page before.shape def_now (pages_of g mid) low def_now changed.owners_now changed.forests_now.map)
        ∙ ap (λ (pages : PageList). table_spots before.shape pages def_now changed.owners_now changed.forests_now.map) (sym written)

    table_now : IsReadyTable g before.shape now.notes (rooms_at now.rooms place) new def_now changed.now.sound.sound.view.owners changed.forests_now
    table_now =
        subst (λ (o : List Kind). IsReadyTable g before.shape now.notes (rooms_at now.rooms place) new def_now o changed.forests_now) one_owners
        (record { stands = stands_now; notes = changed.now.ready.notes; rooms = subst (AreRightRooms def_now (rooms_at now.rooms place)) spots_now changed.now.ready.rooms })

-- a definition put where it stands
put_there : (defs : Definitions) (place : ℕ) (def : TableDef) → slice_get defs place ≡ Some (Some def) → set defs place (Some def) ≡ defs
put_there [] place def at = refl
put_there (first ∷ defs) zero def at = ap (λ (d : Option TableDef). d ∷ defs) (sym (same_Some first (Some def) at))
put_there (first ∷ defs) (suc place) def at = ap (λ (rest : Definitions). first ∷ rest) (put_there defs place def at)

-- a DELETE or an UPDATE: the page of the table stays
pub change_ends_unwritten : {S : Type 0} (g : Ghosts S) (old new : S) (before now : Tables) (place : ℕ) (def : TableDef) (owners : List Kind) (forests : TableForests) (change : PlainTable → PlainTable)
    → AreServed before.catalog → now.shape ≡ before.shape → IsReady g old before → def_at before.catalog place ≡ Some def
    → ChangesOneTable g before.shape before.notes now.notes (rooms_at now.rooms place) old new def def owners forests change
    → now.catalog ≡ before.catalog → KeepsOtherRooms before.rooms now.rooms place → KeepsKeys before.shape (pages_of g old) place change → EndsChange g old new before now place change
change_ends_unwritten g old new before now place def owners forests change served shape ready at changed catalog rooms keys =
    let is = served_def before.catalog place def served at in
    let was = stored_at (pages_of g old) before.catalog place def ready.stored at in
    let defines : DefinesTable (pages_of g new) place def = record { limits = was.limits; printed = changed.table_pages.each place is.below ∙ was.printed } in
    change_ends g old new new before now place def def owners forests change served shape ready at refl was.limits.next changed changed.now.ready.stands.told
    (sym (written_already (pages_of g new) place def is.number defines))
    (catalog ∙ sym (put_as_it_is before.catalog place def was.limits ∙ put_there before.catalog place def (def_there before.catalog place def at)))
    rooms keys

-- the spots of a table are shown still where its page is written with another next row number
shown_written : {S : Type 0} (g : Ghosts S) (shape : Shape) (mid : S) (pages : PageList) (def def_now : TableDef) (owners : List Kind) (forests : TableForests) → def_now ≡ record def { next = def_now.next }
    → def_now.number < 16 → StandsTable g shape mid def_now owners forests → pages ≡ with_table_page def_now (pages_of g mid) → ShowsTableSpots shape pages def (spots_of g shape mid def_now owners forests)
shown_written g shape mid pages def def_now owners forests same low stands written =
    let st = subst (λ (p : PageList). StandsTable told_pages shape p def_now owners forests) (sym written) (stands_written g shape mid def_now owners forests low stands) in
    let shown = shows_spots told_pages shape pages def_now owners forests st in
    let spots : spots_of g shape mid def_now owners forests ≡ table_spots shape pages def_now owners forests.map =
    sym (spots_with_table_page shape def_now (pages_of g mid) low def_now owners forests.map) ∙ ap (λ (p : PageList). table_spots shape p def_now owners forests.map) (sym written) in
    record {
      owners = shown.owners;
      map_tree = shown.map_tree;
      has_extents = shown.has_extents;
      has_map = subst (λ (d : TableDef). HasTree pages (map_place d) shown.map_tree) same shown.has_map;
      spots_are = spots ∙ (shown.spots_are ∙ ap (λ (d : TableDef). table_spots shape pages d shown.owners shown.map_tree) same);
    }

-- what was asked for of space was made of it where the pages behind have the same space
makes_to : (shape : Shape) (mode : RolloutMode) (def : TableDef) (statement : Bound) (old mid new : PageList) (space : List SpaceChange) → MakesAsked shape mode def statement old space mid → IsSameSpace shape mid new
    → MakesAsked shape mode def statement old space new
makes_to shape mode def (bound.Delete place pred) old mid new space makes same = by_blocks (goes_by_blocks mode pred def) makes
  where
    by_blocks : (goes : Bool) → MakesSpace goes shape def old space mid → MakesSpace goes shape def old space new
    by_blocks true rolls = rolls_in_space_to shape def old mid new rolls same
    by_blocks false made = changes_to shape old mid new space made same
makes_to shape mode def statement old mid new space makes same = changes_to shape old mid new space makes same

-- rows went where the statement's placing says, on the pages as they are shown
pub places_shown : {S : Type 0} {room room_now : Entry → RoomNote} (g : Ghosts S) (old mid new : S) (before now : Tables) (def def_now : TableDef) (owners : List Kind) (forests : TableForests) (change : PlainTable → PlainTable) (statement : Bound)
    → def_now ≡ record def { next = def_now.next } → IsReadyBetween g before.shape before.notes room old def owners forests
    → (changed : ChangesOneTable g before.shape before.notes now.notes room_now old mid def def_now owners forests change) → pages_of g new ≡ with_table_page def_now (pages_of g mid) → (space : List SpaceChange)
    → PlacesRows before.settings.rollout def (block_slot_count before.shape def) (spots_of g before.shape old def owners forests) space (spots_of g before.shape mid def_now changed.owners_now changed.forests_now) statement
    → MakesAsked before.shape before.settings.rollout def statement (pages_of g old) space (pages_of g mid) → PlacesOnPages before.shape (pages_of g old) (pages_of g new) before.settings.rollout def statement
places_shown g old mid new before now def def_now owners forests change statement same between changed written space places makes = record {
  was = spots_of g before.shape old def owners forests;
  is = spots_of g before.shape mid def_now changed.owners_now changed.forests_now;
  shown_before = shows_spots g before.shape old def owners forests between.ready.stands;
  shown_after = shown_written g before.shape mid (pages_of g new) def def_now changed.owners_now changed.forests_now same (number_is_low before.shape def_now (pages_of g mid) changed.now.sound.sound) changed.now.ready.stands written;
  space = space;
  places = places;
  makes = subst (λ (pages : PageList). MakesAsked before.shape before.settings.rollout def statement (pages_of g old) space pages) (sym written)
      (makes_to before.shape before.settings.rollout def statement (pages_of g old) (pages_of g mid) (with_table_page def_now (pages_of g mid)) space makes
      (space_written g before.shape mid def_now changed.owners_now changed.forests_now (number_is_low before.shape def_now (pages_of g mid) changed.now.sound.sound) changed.now.ready.stands));
  defined = (
    def_now.next,
    subst (λ (pages : PageList). DefinesTable pages def.number (record def { next = def_now.next })) (sym written)
        (subst (λ (d : TableDef). DefinesTable (with_table_page def_now (pages_of g mid)) d.number d) same (written_defines before.shape def_now (pages_of g mid) changed.now.sound.sound)),
  );
}
