-- A record index more, or one less: what a CREATE INDEX and a DROP INDEX make of ready pages.
use Rattle.std.proofs.Common.{◌≡◌, ◌<◌, ◌∙◌, ℕ, List, [], ◌∷◌, ◌++◌, Option, Some, None, ap, arith, false, map, refl, subst, sym, true}
use Rattle.std.specs.Prelude.{IfSome, IsSome, IsTrue, ◌&&◌, flat_map, length, remove, slice_get}
use Rattle.std.proofs.lemmas.Option.{same_Some}
use Rattle.mdc_words.specs.ByteOrder.{Entry}
use Rattle.mdc_words.proofs.PlacesLemmas.{slice_get-set_same}
use Rattle.mdc_ast.specs.declared.bound.Bound.{Bound}
use Rattle.mdc_ast.specs.declared.bound.Bound.TheVariants as bound
use Rattle.mdc_ast.specs.declared.definition.IndexDef.{IndexDef}
use Rattle.mdc_ast.specs.declared.definition.TableDef.{TableDef}
use Rattle.mdc_ast.specs.declared.reply.Outcome.{Outcome}
use Rattle.mdc_ast.specs.declared.reply.Outcome.TheVariants as said
use Rattle.mdc_ast.specs.declared.reply.Reply.TheVariants as reply
use Rattle.mdc_ast.specs.Database.{Database, changed_at}
use Rattle.mdc_ast.specs.Definitions.{Definitions, def_at, with_def, with_index, without_index}
use Rattle.statement_meaning.specs.Cause.{DuplicateKey, cause_if, refusal_of}
use Rattle.statement_meaning.specs.Doing.{causes_of_rows, effect, indexed_table, twin_causes}
use Rattle.statement_meaning.specs.Keys.{have_twins}
use Rattle.statement_meaning.specs.Step.{Answer, Refused, Replied, step_by}
use Rattle.row_groups.specs.Numbers.{values_of}
use Rattle.row_checks.specs.Executing.{answer_of, done}
use Rattle.row_checks.specs.Served.{IsDefined, MayGainIndex, MayLoseIndex}
use Rattle.store_api.specs.Frame.{NoPage, Touches}
use Rattle.store_api.specs.RunsOverPages.{RunsOverPages}
use Rattle.store_api.specs.declared.fault.Damage.{Damage}
use Rattle.store_api.specs.declared.fault.StoreFault.{StoreFault}
use Rattle.store_api.specs.declared.pages.Pages.{Ghosts}
use Rattle.store_api.specs.declared.shape.Shape.{Shape}
use Rattle.store_api.proofs.RunsOverPagesLemmas.{runs_as}
use Rattle.extent_map.specs.Damages.{IfFull}
use Rattle.extent_map.specs.Map.{HoldsMap}
use Rattle.extent_map.specs.Owners.{AreRightNotes, owner_of}
use Rattle.extent_map.specs.declared.fault.SpaceFault.{SpaceFault}
use Rattle.extent_map.specs.declared.fault.SpaceFault.TheVariants.{Full, Store}
use Rattle.extent_map.specs.declared.kind.Kind.{Kind}
use Rattle.extent_map.specs.declared.kind.Kind.TheVariants.{Block}
use Rattle.entry_tree.specs.Forest.{Forest}
use Rattle.entry_tree.specs.Pruning.{without_pages}
use Rattle.block_rows.specs.HeldRows.{placed_row}
use Rattle.block_rows.specs.declared.hit.Hit.{Hit}
use Rattle.table_trees.specs.SpaceChanges.{MakesChanges}
use Rattle.table_trees.specs.TableTrees.{map_place}
use Rattle.table_trees.specs.ToldPages.{PageList, told_pages}
use Rattle.table_trees.proofs.ToldPagesLemmas.{tree_of_told}
use Rattle.mdc_sound.specs.Placing.{table_spots}
use Rattle.mdc_sound.specs.RunningFull.{IndexRunsFull, indexing_changes}
use Rattle.mdc_sound.specs.SoundDatabase.{KeepAllRules}
use Rattle.mdc_sound.specs.SpaceRules.{DatabaseView, IsBlockMapSound, IsTablePlaceSound}
use Rattle.mdc_sound.specs.StandingTable.{IsBlockPageOf, StandsTable, pages_of}
use Rattle.mdc_sound.specs.StandsForDatabase.{PagesStandFor, rootless_index}
use Rattle.mdc_sound.specs.TableViews.{TableView}
use Rattle.mdc_sound.proofs.SpaceRulesLemmas.{range_length, same_table}
use Rattle.mdc_sound.proofs.StandingTableLemmas.{block_kept, forests_of, map_of_rules, stands_of_rules}
use Rattle.mdc_sound.proofs.TableRowsLemmas.{KeepsBlockPages}
use Rattle.free_space.specs.RoomNotes.{no_note}
use Rattle.stored_catalog.specs.AroundTable.{view_with}
use Rattle.stored_catalog.specs.StoredDefinitions.{AreStored}
use Rattle.stored_catalog.specs.TreeRuns.{IsDroppingPage, IsMakingPage}
use Rattle.stored_catalog.proofs.LeftDefinitionsLemmas.{stored_at}
use Rattle.stored_catalog.proofs.OpenedTableLemmas.{defined_there}
use Rattle.statement_rows.specs.OtherTables.{KeepsTableBlocks, own_spot}
use Rattle.statement_rows.specs.RowsOfStatement.{AnyPage}
use Rattle.statement_rows.proofs.ShownSpotsLemmas.{shown_spots}
use Rattle.index_building.specs.IndexSteps.{AddsIndex, AreRowsOf, BreaksDroppingIndex, BreaksIndexing, ByRowNumber, DropsIndex}
use Rattle.index_building.specs.IndexViews.{TakesIndex, plain_with_index, plain_without_index, rooted_index, view_with_index, view_without_index}
use Rattle.index_building.proofs.AddsIndexLemmas.{sound_added}
use Rattle.index_building.proofs.IndexingDamageLemmas.{no_index_dropping_damage}
use Rattle.index_building.proofs.OtherIndexesLemmas.{map_other, with_indexes}
use Rattle.script_engine.specs.Defining.{IsNewIndex}
use Rattle.script_engine.specs.Doing.{DoesStatement, PlacesOnPages, RunsFullAlone, StatementRunsFull}
use Rattle.script_engine.specs.NotedRooms.{KeepsOtherRooms, rooms_at}
use Rattle.script_engine.specs.Others.{GainsIndex, KeepsOthers, LosesIndex, touched_place}
use Rattle.script_engine.specs.Ready.{AreServed, BreaksDatabase, IsReady}
use Rattle.script_engine.specs.declared.tables.Tables.{Tables}
use Rattle.script_engine.proofs.BetweenChangesLemmas.{ready_table}
use Rattle.script_engine.proofs.DefinedTablesLemmas.{told_map}
use Rattle.script_engine.proofs.GivenBackLemmas.{gives_back}
use Rattle.script_engine.proofs.IndexedRowsLemmas.{FindsAll, HasAllRows, has_all_rows, indexed_causes, kept_all, new_keys, values_of_hits}
use Rattle.script_engine.proofs.OtherBlocksLemmas.{own_stay}
use Rattle.script_engine.proofs.OtherRoomsLemmas.{ready_beside}
use Rattle.script_engine.proofs.OthersLemmas.{dropping_off, elsewhere, keeps_others_itself, making_off, others_indexed, others_unindexed}
use Rattle.script_engine.proofs.PuttingTuplesLemmas.{of_that}
use Rattle.script_engine.proofs.ReadyKeysLemmas.{rootless_twins}
use Rattle.script_engine.proofs.ScannedTablesLemmas.{HasHits, found_still, hits_of, ready_still, stands_ready}
use Rattle.script_engine.proofs.ServedDefsLemmas.{served_below, served_valid}
use Rattle.script_engine.proofs.StoredDefsLemmas.{stored_defs, stored_table}
use Rattle.script_engine.proofs.WrittenIndexesLemmas.{good_index}

-- ---- which tables may gain or lose one

-- a table in a place that may gain this record index
pub record MayGain (defs : Definitions) (place : ℕ) (index : IndexDef) : Type 0 where
  pub def : TableDef
  pub at : def_at defs place ≡ Some def
  pub below : place < 16
  pub takes : TakesIndex def index
  pub some : IsSome (def_at defs place)
  pub takes_some : IfSome (def_at defs place) (λ d. TakesIndex d index)

pub may_gain : (defs : Definitions) (place : ℕ) (index : IndexDef) → AreServed defs → IsDefined (def_at defs place) (MayGainIndex index) → IsNewIndex index → MayGain defs place index
may_gain defs place index served there new = go (def_at defs place) refl there
  where
    go : (found : Option TableDef) → def_at defs place ≡ found → IsDefined found (MayGainIndex index) → MayGain defs place index
    go None at may = absurd may
    go (Some def) at may =
        let takes : TakesIndex def index = record { few = may.few; good = good_index def.columns index (served_valid defs place def served at).few new may.valid } in record {
          def = def;
          at = at;
          below = served_below defs place def served at;
          takes = takes;
          some = subst IsSome (sym at) refl;
          takes_some = subst (λ found. IfSome found (λ (d : TableDef). TakesIndex d index)) (sym at) takes;
        }

-- a table in a place that has a record index in this place of its own
pub record HasIndex (defs : Definitions) (place index : ℕ) : Type 0 where
  pub def : TableDef
  pub at : def_at defs place ≡ Some def
  pub below : place < 16
  pub within : index < length def.indexes
  pub some : IsSome (def_at defs place)
  pub of_some : IfSome (def_at defs place) (λ d. index < length d.indexes)

pub has_index : (defs : Definitions) (place index : ℕ) → AreServed defs → IsDefined (def_at defs place) (MayLoseIndex index) → HasIndex defs place index
has_index defs place index served there = go (def_at defs place) refl there
  where
    go : (found : Option TableDef) → def_at defs place ≡ found → IsDefined found (MayLoseIndex index) → HasIndex defs place index
    go None at may = absurd may
    go (Some def) at may = record {
      def = def;
      at = at;
      below = served_below defs place def served at;
      within = may.within;
      some = subst IsSome (sym at) refl;
      of_some = subst (λ found. IfSome found (λ (d : TableDef). index < length d.indexes)) (sym at) may.within;
    }

-- ---- its own blocks

-- a table with other record indexes has the blocks that it had, where their pages are as they were
module _ (shape : Shape) (old new : PageList) (view view_now : DatabaseView) (place : ℕ) (table : TableView) (indexes : List IndexDef) (trees : List Forest)
    (keeps : KeepAllRules shape old view) (keeps_now : KeepAllRules shape new view_now) (there : slice_get view.places place ≡ Some (Some table))
    (there_now : slice_get view_now.places place ≡ Some (Some (record table { def = with_indexes table.def indexes; indexes = trees })))
    (kept : (e : ℕ) → e < shape.extents → owner_of view.owners e ≡ Block table.def.number → KeepsBlockPages shape old new e) where
  stood : StandsTable told_pages shape old table.def view.owners (forests_of table)
  stood = stands_of_rules shape old view keeps.first place table there

  stands_now : StandsTable told_pages shape new (with_indexes table.def indexes) view_now.owners (record { map = table.map; composite = table.composite; dims = table.dims; indexes = trees })
  stands_now = stands_of_rules shape new view_now keeps_now.first place (record table { def = with_indexes table.def indexes; indexes = trees }) there_now

  -- its block map speaks of no record index
  map_now : IsBlockMapSound shape view_now.owners table.def table.map
  map_now = map_other shape new (with_indexes table.def indexes) table.def.indexes view_now.owners table.map stands_now.map

  pub keeps_own : KeepsTableBlocks shape old new table.def
  keeps_own was shows = (
    table_spots shape new table.def view_now.owners table.map,
    record {
      owners = view_now.owners;
      map_tree = table.map;
      has_extents = map_of_rules shape new view_now keeps_now.first;
      has_map = tree_of_told told_pages new refl (map_place table.def) table.map stands_now.trees.held.0;
      spots_are = refl;
    },
    own_stay shape old new table.def view.owners view_now.owners table.map stood.map map_now kept ∙ ap (map own_spot) (sym (shown_spots told_pages shape old table.def view.owners (forests_of table) was stood shows)),
  )

module _ {S : Type 0} (g : Ghosts S) (old : S) (before : Tables) (place : ℕ) (def : TableDef) (ready : IsReady g old before) (table : TableView) (there : slice_get ready.view.places place ≡ Some (Some table))
    (served : AreServed before.catalog) (at : def_at before.catalog place ≡ Some def) where
  place_below : place < length ready.view.places
  place_below =
      omega (arith, served_below before.catalog place def served at, range_length (IsTablePlaceSound before.shape (pages_of g old) ready.view.owners) 0 16 ready.view.places ready.sound.first.rule3.each)

  -- the view has the table with its definition
  def_there : table.def ≡ def
  def_there =
      let defined = defined_there before.shape (pages_of g old) ready.view place def ready.sound (served_below before.catalog place def served at) (stored_at (pages_of g old) before.catalog place def ready.stored at) in
      ap (λ (t : TableView). t.def) (same_table table defined.table (sym there ∙ defined.there)) ∙ defined.same

  -- where it has other record indexes in sound pages, and no page of a block was touched, it keeps its blocks
  own_in_place : (new : S) (owners_now : List Kind) (indexes : List IndexDef) (trees : List Forest)
      → KeepAllRules before.shape (pages_of g new) (view_with ready.view owners_now place (Some (record table { def = with_indexes table.def indexes; indexes = trees })))
      → (Mine : ℕ → Type 0) → Touches g Mine old new → ((t p : ℕ) → IsBlockPageOf before.shape ready.view.owners t p → Mine p → ⊥) → KeepsTableBlocks before.shape (pages_of g old) (pages_of g new) def
  own_in_place new owners_now indexes trees sound Mine touches off =
      let table_now : TableView = record table { def = with_indexes table.def indexes; indexes = trees } in
      subst (λ d. KeepsTableBlocks before.shape (pages_of g old) (pages_of g new) d) def_there
      (keeps_own before.shape (pages_of g old) (pages_of g new) ready.view (view_with ready.view owners_now place (Some table_now)) place table indexes trees ready.sound sound there
      (slice_get-set_same ready.view.places place (Some table_now) place_below)
      (λ e within own. block_kept Mine before.shape old new ready.view.owners table.def.number e (told_map g old before ready) ready.told touches (λ p of mine. off table.def.number p of mine) within own))

-- ---- pages that a scan left as they were

-- what a statement did from then on, it did
pub does_since : {S : Type 0} (g : Ghosts S) (old mid new : S) (before now : Tables) (statement : Bound) (outcome : Outcome) → (g.state mid).work ≡ (g.state old).work
    → DoesStatement g mid new before now statement outcome → DoesStatement g old new before now statement outcome
does_since g old mid new before now statement outcome same does = record {
  ready = does.ready;
  stands = λ db stands. does.stands db (subst (λ (pages : PageList). PagesStandFor before.shape pages db) (sym same) stands);
  places = λ reply is place def changed at. subst (λ (pages : PageList). PlacesOnPages before.shape pages (pages_of g new) before.settings.rollout def statement) same (does.places reply is place def changed at);
  others = subst (λ (pages : PageList). KeepsOthers before.shape pages (pages_of g new) before.catalog now.catalog (touched_place statement)) same does.others;
}

-- ---- what is said against a CREATE INDEX

module _ {S : Type 0} (g : Ghosts S) (s : S) (tables : Tables) (place : ℕ) (def : TableDef) (index : IndexDef) (found : List Hit) (served : AreServed tables.catalog) (at : def_at tables.catalog place ≡ Some def)
    (finds : FindsAll g tables.shape s def found) (ready : IsReady g s tables) where
  all_here : HasAllRows g tables.shape s ready.view place def found
  all_here = has_all_rows g tables.shape s ready.told ready.view ready.sound place found def (served_below tables.catalog place def served at) (stored_at (pages_of g s) tables.catalog place def ready.stored at) finds

  plain_hits : (db : Database) → PagesStandFor tables.shape (pages_of g s) db → HasHits db place def None found
  plain_hits db stands =
      let st = stands_ready g s tables place def served ready at in
      let here = stored_table db tables.catalog place def (stored_defs tables.shape (pages_of g s) tables.catalog db ready.stored stands) at in
      hits_of g tables.shape s def st.owners st.forests st.stands None found (finds st.owners st.forests st.stands) st.between tables.catalog place db here.0 ready.stored at stands here.1

  -- what is said of the keys of the rows that were found
  causes_are : (db : Database) → PagesStandFor tables.shape (pages_of g s) db → causes_of_rows db (bound.CreateIndex place index) ≡ twin_causes (map (λ hit. hit.row.values) found) index
  causes_are db stands =
      let has = plain_hits db stands in
      let rows : map (λ (hit : Hit). hit.row) found ≡ has.table.rows = has.are ∙ kept_all has.table.rows in
      indexed_causes db place has.table index has.at
      (ap (λ (d : TableDef). flat_map (twin_causes (values_of has.table.rows)) d.indexes) has.def_is
      ∙ (rootless_twins (values_of has.table.rows) def.indexes ∙ subst (λ all. flat_map (twin_causes (values_of all)) def.indexes ≡ []) rows all_here.unsaid))
      ∙ ap (λ all. twin_causes all index) (ap values_of (sym rows) ∙ values_of_hits found)

  pub unsaid : (index.unique && have_twins index.parts (map (λ hit. hit.row.values) found)) ≡ false → (db : Database) → PagesStandFor tables.shape (pages_of g s) db → causes_of_rows db (bound.CreateIndex place index) ≡ []
  unsaid none db stands = causes_are db stands ∙ ap (λ doubled. cause_if doubled (DuplicateKey index.name)) none

  -- two of the rows have equal keys
  pub refuses_index : (outcome : Outcome) → (index.unique && have_twins index.parts (map (λ hit. hit.row.values) found)) ≡ true → outcome ≡ said.Refused (refusal_of (DuplicateKey index.name))
      → DoesStatement g s s tables tables (bound.CreateIndex place index) outcome
  refuses_index outcome doubled is = record {
    ready = ready;
    stands = λ db stands.
        let causes : causes_of_rows db (bound.CreateIndex place index) ≡ DuplicateKey index.name ∷ [] = causes_are db stands ∙ ap (λ b. cause_if b (DuplicateKey index.name)) doubled in
        let ends : done db (bound.CreateIndex place index) ≡ (db, Refused (refusal_of (DuplicateKey index.name))) = ap (λ all. step_by db all (effect db (bound.CreateIndex place index))) causes in record {
          pages_are = subst (PagesStandFor tables.shape (pages_of g s)) (sym (ap (λ (e : Database × Answer). e.0) ends)) stands;
          answers = ap (λ (e : Database × Answer). e.1) ends ∙ sym (ap answer_of is);
        };
    places = λ done is_done other d changed of. absurd (cc changed);
    others = keeps_others_itself tables.shape (pages_of g s) (pages_of g s) tables.catalog tables.catalog (Some place) refl refl;
  }

-- ---- a record index more

module _ {S : Type 0} (g : Ghosts S) (mid new : S) (before now : Tables) (place : ℕ) (def : TableDef) (index : IndexDef) (found : List Hit) where
  -- all that is known once one was made over these rows
  pub record IsIndexed : Type 0 where
    pub rootless : index.root ≡ 0
    pub stored : (owners : List Kind) → HoldsMap g before.shape mid owners → AreStored (g.state mid).work before.catalog → AreStored (g.state new).work now.catalog
    pub adds : IsTrue (g.state mid).is_told → AreStored (g.state mid).work before.catalog → (view : DatabaseView) → KeepAllRules before.shape (g.state mid).work view
        → AreRowsOf before.shape (g.state mid).work view place (map placed_row found)
        → IfSome (def_at before.catalog place) (λ d. (root : ℕ) × (now.catalog ≡ with_def before.catalog place (with_index d (rooted_index index root)))
        × AddsIndex before.shape before.notes now.notes (g.state mid).work (g.state new).work place (rooted_index index root) (map placed_row found) view)
    pub stands_for : IsTrue (g.state mid).is_told → AreStored (g.state mid).work before.catalog → (view : DatabaseView) → KeepAllRules before.shape (g.state mid).work view
        → (db : Database) → PagesStandFor before.shape (g.state mid).work db → PagesStandFor before.shape (g.state new).work (changed_at db place (plain_with_index index))
    pub told : (g.state new).is_told ≡ (g.state mid).is_told
    pub shape : now.shape ≡ before.shape
    pub touches : Touches g (IsMakingPage g before.shape mid place) mid new
    pub rooms : (key : Entry) → rooms_at now.rooms place key ≡ no_note
    pub other_rooms : KeepsOtherRooms before.rooms now.rooms place

  module _ (is : IsIndexed) (served : AreServed before.catalog) (at : def_at before.catalog place ≡ Some def) (finds : FindsAll g before.shape mid def found)
      (none : (index.unique && have_twins index.parts (map (λ hit. hit.row.values) found)) ≡ false) (ready : IsReady g mid before) where
    low : place < 16
    low = served_below before.catalog place def served at

    rows : HasAllRows g before.shape mid ready.view place def found
    rows = all_here g mid before place def index found served at finds ready

    record IsAdded : Type 0 where
      root : ℕ
      catalog : now.catalog ≡ with_def before.catalog place (with_index def (rooted_index index root))
      adds : AddsIndex before.shape before.notes now.notes (g.state mid).work (g.state new).work place (rooted_index index root) (map placed_row found) ready.view

    added : IsAdded
    added =
        let one = of_that (def_at before.catalog place) def
        (λ d. (root : ℕ) × (now.catalog ≡ with_def before.catalog place (with_index d (rooted_index index root)))
        × AddsIndex before.shape before.notes now.notes (g.state mid).work (g.state new).work place (rooted_index index root) (map placed_row found) ready.view) at
        (is.adds ready.told ready.stored ready.view ready.sound rows.are) in
        record { root = one.0; catalog = one.1; adds = one.2 }

    abbrev table_now : TableView
    table_now = view_with_index added.adds.table (rooted_index index added.root) added.adds.tree

    abbrev view_now : DatabaseView
    view_now = view_with ready.view added.adds.owners_now place (Some table_now)

    sound_now : KeepAllRules before.shape (pages_of g new) view_now
    sound_now =
        sound_added before.shape before.notes now.notes (pages_of g mid) (pages_of g new) place (rooted_index index added.root) (map placed_row found) ready.view added.adds
        (new_keys found (rooted_index index added.root) none)

    -- the table keeps its blocks
    own_now : KeepsTableBlocks before.shape (pages_of g mid) (pages_of g new) def
    own_now =
        own_in_place g mid before place def ready added.adds.table added.adds.there served at new added.adds.owners_now (added.adds.table.def.indexes ++ rooted_index index added.root ∷ [])
        (added.adds.table.indexes ++ added.adds.tree ∷ []) sound_now (IsMakingPage g before.shape mid place) is.touches (making_off g mid before place ready low)

    gains : GainsIndex before.shape (pages_of g mid) (pages_of g new) def (with_index def (rooted_index index added.root))
    gains = record {
      index = rooted_index index added.root;
      is = refl;
      blocks = own_now;
      spots = rows.spots;
      rows = map placed_row found;
      shows = rows.shows;
      same_rows = rows.in_spots;
      rising = rows.by_number;
      makes = subst (λ (d : TableDef). MakesChanges before.shape (pages_of g mid) (indexing_changes d (rooted_index index added.root) (map placed_row found)) (pages_of g new))
          (def_there g mid before place def ready added.adds.table added.adds.there served at) (added.adds.makes ready.notes);
    }

    others_now : KeepsOthers before.shape (pages_of g mid) (pages_of g new) before.catalog now.catalog (Some place)
    others_now = others_indexed g mid new before now place def (with_index def (rooted_index index added.root)) table_now added.adds.owners_now ready sound_now served at added.catalog is.touches gains

    told_now : IsTrue (g.state new).is_told
    told_now = subst IsTrue (sym is.told) ready.told

    stored_now : AreStored (pages_of g new) now.catalog
    stored_now = is.stored ready.view.owners (told_map g mid before ready) ready.stored

    -- nothing is noted of it
    ready_now : IsReady g new now
    ready_now =
        ready_beside g mid new before now view_now served is.shape ready told_now sound_now stored_now (added.adds.notes ready.notes) place
        (λ t apart. elsewhere before.catalog now.catalog place t (Some (record (with_index def (rooted_index index added.root)) { number = place })) added.catalog apart)
        (λ t other apart was. (others_now.each t other (λ e. apart (sym (same_Some place t e))) was).1) is.other_rooms
        (λ d here. ready_table g before.shape now.notes new view_now place d (rooms_at now.rooms place) told_now sound_now (added.adds.notes ready.notes) low (stored_at (pages_of g new) now.catalog place d stored_now here)
        is.rooms)

    -- in the plain database it has no root
    same_index : rootless_index index ≡ index
    same_index = ap (λ (root : ℕ). record index { root = root }) (sym is.rootless)

    -- then the CREATE INDEX is done
    pub indexed : DoesStatement g mid new before now (bound.CreateIndex place index) (said.Done reply.Done)
    indexed = record {
      ready = ready_now;
      stands = λ db stands.
          let ends : done db (bound.CreateIndex place index) ≡ (changed_at db place (indexed_table index), Replied reply.Done) =
          ap (λ all. step_by db all (effect db (bound.CreateIndex place index))) (unsaid g mid before place def index found served at finds ready none db stands) in record {
            pages_are = subst (PagesStandFor now.shape (pages_of g new)) (sym (ap (λ (e : Database × Answer). e.0) ends))
                (subst (λ (shape : Shape). PagesStandFor shape (pages_of g new) (changed_at db place (indexed_table index))) (sym is.shape)
                (subst (λ (which : IndexDef). PagesStandFor before.shape (pages_of g new) (changed_at db place (indexed_table which))) same_index
                (is.stands_for ready.told ready.stored ready.view ready.sound db stands)));
            answers = ap (λ (e : Database × Answer). e.1) ends;
          };
      places = λ reply done other d changes of. absurd (cc changes);
      others = others_now;
    }

-- ---- where a CREATE INDEX stops

module _ {S : Type 0} (g : Ghosts S) (old mid : S) (before : Tables) (place : ℕ) (def : TableDef) (index : IndexDef) (found : List Hit) (served : AreServed before.catalog) (at : def_at before.catalog place ≡ Some def)
    (told : (g.state mid).is_told ≡ (g.state old).is_told) (same : (g.state mid).work ≡ (g.state old).work) (finds : FindsAll g before.shape old def found) where
  -- the same rows are found midway
  pub finds_still : FindsAll g before.shape mid def found
  finds_still owners forests st = found_still g old mid told same before.shape def None found owners forests finds st

  -- damage that is met in making it isn't there in ready pages
  pub runs_index : {Early Kind : ℕ → Type 0} {Any : Damage → Type 0} {new : S} {fault : Option StoreFault} → RunsOverPages g NoPage Early Any old mid None
      → RunsOverPages g (IsMakingPage g before.shape mid place) Kind (BreaksIndexing g before.shape mid before.catalog place index (map placed_row found)) mid new fault
      → RunsOverPages g AnyPage AnyPage (BreaksDatabase g old before) old new fault
  runs_index scan making =
      runs_as scan making (λ p below none. absurd none) (λ p below any. tt) (λ p of. tt) (λ p any. tt)
      (λ damage breaks ready.
      let still = ready_still g old mid told same before ready in
      breaks.broken still.view.owners (told_map g mid before still) (all_here g mid before place def index found served at finds_still still).lie)

  module _ (none : (index.unique && have_twins index.parts (map (λ hit. hit.row.values) found)) ≡ false) where
    index_full : ((ready : IsReady g mid before) → AreRowsOf before.shape (pages_of g mid) ready.view place (map placed_row found) → ByRowNumber (map placed_row found)
        → IfSome (def_at before.catalog place) (λ d. IndexRunsFull before.shape (pages_of g mid) d index)) → IsReady g old before → RunsFullAlone before.shape (pages_of g old) before.catalog (bound.CreateIndex place index)
    index_full full ready =
        let still = ready_still g old mid told same before ready in
        let all = all_here g mid before place def index found served at finds_still still in
        subst (λ (pages : PageList). RunsFullAlone before.shape pages before.catalog (bound.CreateIndex place index)) same (record {
          full = StatementRunsFull.index def at (of_that (def_at before.catalog place) def (λ d. IndexRunsFull before.shape (pages_of g mid) d index) at (full still all.are all.by_number));
          faultless = unsaid g mid before place def index found served at finds_still still none;
        })

    -- where it is full, a CREATE INDEX runs full on ready pages
    pub full_index : (fault : SpaceFault)
        → IfFull fault (λ cap. (cap ≡ before.shape.extents) × (IsTrue (g.state mid).is_told → AreStored (g.state mid).work before.catalog → (view : DatabaseView) → KeepAllRules before.shape (g.state mid).work view
        → AreRightNotes before.shape before.notes view.owners → AreRowsOf before.shape (g.state mid).work view place (map placed_row found) → ByRowNumber (map placed_row found)
        → IfSome (def_at before.catalog place) (λ d. IndexRunsFull before.shape (g.state mid).work d index)))
        → IfFull fault (λ cap. (cap ≡ before.shape.extents) × (IsReady g old before → RunsFullAlone before.shape (pages_of g old) before.catalog (bound.CreateIndex place index)))
    full_index (Full cap) full = (full.0, index_full (λ ready are rising. full.1 ready.told ready.stored ready.view ready.sound ready.notes are rising))
    full_index (Store fault) full = tt

-- ---- a record index less

-- damage that its dropping names isn't there in ready pages
pub no_unindexing_damage : {S : Type 0} (g : Ghosts S) (s : S) (tables : Tables) (place : ℕ) (def : TableDef) (index : ℕ) (damage : Damage) → AreServed tables.catalog → def_at tables.catalog place ≡ Some def
    → index < length def.indexes → BreaksDroppingIndex g tables.shape s tables.catalog place index damage → IsReady g s tables → ⊥
no_unindexing_damage g s tables place def index damage served at within breaks ready =
    no_index_dropping_damage g tables.shape s ready.view ready.told ready.sound tables.catalog place index damage (served_below tables.catalog place def served at) ready.stored
    (λ other there. subst (λ (d : TableDef). index < length d.indexes) (same_Some def other (sym at ∙ there)) within) breaks

module _ {S : Type 0} (g : Ghosts S) (old new : S) (before now : Tables) (place : ℕ) (def : TableDef) (index : ℕ) where
  -- all that is known once one was dropped
  pub record IsUnindexed : Type 0 where
    pub left : IfSome (def_at before.catalog place) (λ d. now.catalog ≡ with_def before.catalog place (without_index d index))
    pub stored : IsTrue (g.state old).is_told → AreStored (g.state old).work before.catalog → AreStored (g.state new).work now.catalog
    pub drops : IsTrue (g.state old).is_told → AreStored (g.state old).work before.catalog → (view : DatabaseView) → KeepAllRules before.shape (g.state old).work view
        → DropsIndex before.shape before.notes now.notes (g.state new).work place index view
    pub stands_for : IsTrue (g.state old).is_told → AreStored (g.state old).work before.catalog → (view : DatabaseView) → KeepAllRules before.shape (g.state old).work view
        → (db : Database) → PagesStandFor before.shape (g.state old).work db → PagesStandFor before.shape (g.state new).work (changed_at db place (plain_without_index index))
    pub told : (g.state new).is_told ≡ (g.state old).is_told
    pub count : length (g.state new).work ≡ length (g.state old).work
    pub shape : now.shape ≡ before.shape
    pub touches : Touches g (IsDroppingPage before.shape place) old new
    pub rooms : (key : Entry) → rooms_at now.rooms place key ≡ no_note
    pub other_rooms : KeepsOtherRooms before.rooms now.rooms place

  module _ (is : IsUnindexed) (served : AreServed before.catalog) (at : def_at before.catalog place ≡ Some def) (within : index < length def.indexes) (ready : IsReady g old before) where
    low_place : place < 16
    low_place = served_below before.catalog place def served at

    left_now : now.catalog ≡ with_def before.catalog place (without_index def index)
    left_now = of_that (def_at before.catalog place) def (λ d. now.catalog ≡ with_def before.catalog place (without_index d index)) at is.left

    dropped : DropsIndex before.shape before.notes now.notes (g.state new).work place index ready.view
    dropped = is.drops ready.told ready.stored ready.view ready.sound

    abbrev owners_left : List Kind
    owners_left = without_pages before.shape ready.view.owners dropped.given

    abbrev view_left : DatabaseView
    view_left = view_with ready.view owners_left place (Some (view_without_index dropped.table index))

    -- the table keeps its blocks, and space is only given back
    loses : LosesIndex before.shape (pages_of g old) (pages_of g new) def (without_index def index)
    loses = record {
      index = index;
      within = within;
      is = refl;
      blocks = own_in_place g old before place def ready dropped.table dropped.there served at new owners_left (remove dropped.table.def.indexes index) (remove dropped.table.indexes index) dropped.sound
          (IsDroppingPage before.shape place) is.touches (dropping_off before.shape ready.view.owners place low_place);
      gives = gives_back g before.shape before.notes now.notes old new place index ready.view ready.sound dropped low_place ready.told is.touches is.count;
    }

    others_left : KeepsOthers before.shape (pages_of g old) (pages_of g new) before.catalog now.catalog (Some place)
    others_left = others_unindexed g old new before now place def (without_index def index) (view_without_index dropped.table index) owners_left ready dropped.sound served at left_now is.touches loses

    told_left : IsTrue (g.state new).is_told
    told_left = subst IsTrue (sym is.told) ready.told

    stored_left : AreStored (pages_of g new) now.catalog
    stored_left = is.stored ready.told ready.stored

    ready_left : IsReady g new now
    ready_left =
        ready_beside g old new before now view_left served is.shape ready told_left dropped.sound stored_left (dropped.notes ready.notes) place
        (λ t apart. elsewhere before.catalog now.catalog place t (Some (record (without_index def index) { number = place })) left_now apart)
        (λ t other apart was. (others_left.each t other (λ e. apart (sym (same_Some place t e))) was).1) is.other_rooms
        (λ d here. ready_table g before.shape now.notes new view_left place d (rooms_at now.rooms place) told_left dropped.sound (dropped.notes ready.notes) low_place
        (stored_at (pages_of g new) now.catalog place d stored_left here) is.rooms)

    -- then the DROP INDEX is done
    pub unindexed : DoesStatement g old new before now (bound.DropIndex place index) (said.Done reply.Done)
    unindexed = record {
      ready = ready_left;
      stands = λ db stands. record {
        pages_are = subst (λ (shape : Shape). PagesStandFor shape (pages_of g new) (changed_at db place (plain_without_index index))) (sym is.shape)
            (is.stands_for ready.told ready.stored ready.view ready.sound db stands);
        answers = refl;
      };
      places = λ reply done other d changes of. absurd (cc changes);
      others = others_left;
    }
