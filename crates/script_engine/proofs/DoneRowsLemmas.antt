-- What queries and DELETEs do to ready pages, and what any change of rows does.
use Rattle.std.proofs.Common.{◌≡◌, ◌∙◌, ℕ, Bool, false, List, ◌∷◌, length, map, refl, sym, ap, subst, Option, Some, None}
use Rattle.std.specs.Prelude.{filter, not}
use Rattle.std.proofs.lemmas.List.{length-map}
use Rattle.std.proofs.lemmas.Option.{same_Some}
use Rattle.mdc_words.specs.ByteOrder.{Entry}
use Rattle.mdc_ast.specs.declared.bound.Bound.{Bound}
use Rattle.mdc_ast.specs.declared.bound.Bound.TheVariants as bound
use Rattle.mdc_ast.specs.declared.bound.BoundSelect.{BoundSelect}
use Rattle.mdc_ast.specs.declared.definition.ColumnDef.{ColumnDef}
use Rattle.mdc_ast.specs.declared.definition.TableDef.{TableDef}
use Rattle.mdc_ast.specs.declared.name.Name.{Name}
use Rattle.mdc_ast.specs.declared.predicate.Pred.{Pred}
use Rattle.mdc_ast.specs.declared.reply.Outcome.{Outcome}
use Rattle.mdc_ast.specs.declared.reply.Outcome.TheVariants as said
use Rattle.mdc_ast.specs.declared.refusal.Refusal.{Refusal}
use Rattle.mdc_ast.specs.declared.reply.Reply.TheVariants as reply
use Rattle.mdc_ast.specs.declared.row.Row.{Row}
use Rattle.statement_meaning.specs.Cause.{Cause, Overflow, refusal_of}
use Rattle.mdc_ast.specs.Database.{Database, PlainTable, changed_at, table_at, with_place}
use Rattle.mdc_ast.specs.Definitions.{def_at}
use Rattle.statement_meaning.specs.Doing.{hits, left_table}
use Rattle.statement_meaning.specs.Queries.{sum_causes}
use Rattle.mdc_ast.specs.Truth.{qualifies}
use Rattle.statement_meaning.specs.Step.{Answer, Refused, Replied}
use Rattle.statement_meaning.proofs.DatabaseLemmas.{changed_at-with_place}
use Rattle.store_api.specs.Frame.{NoPage}
use Rattle.store_api.specs.RunsOverPages.{RunsOverPages}
use Rattle.store_api.specs.declared.fault.Damage.{Damage}
use Rattle.store_api.specs.declared.fault.StoreFault.{StoreFault}
use Rattle.store_api.proofs.RunsOverPagesLemmas.{runs_as}
use Rattle.store_api.specs.declared.pages.Pages.{Ghosts}
use Rattle.store_api.specs.declared.shape.Shape.{Shape}
use Rattle.extent_map.specs.declared.kind.Kind.{Kind}
use Rattle.extent_map.specs.declared.space_notes.SpaceNotes.{SpaceNotes}
use Rattle.block_rows.specs.HeldRows.{placed_row}
use Rattle.block_rows.specs.declared.hit.Hit.{Hit}
use Rattle.table_trees.specs.SpaceChanges.{SpaceChange}
use Rattle.mdc_sound.specs.Placing.{block_slot_count}
use Rattle.mdc_sound.specs.BlockRules.{AreTableIndexesSound}
use Rattle.mdc_sound.specs.StandingTable.{RoomNote, StandsTable, TableForests, pages_of, spots_of, view_of}
use Rattle.mdc_sound.specs.StandsForDatabase.{PagesStandFor, rootless}
use Rattle.mdc_sound.specs.TableRows.{PlacedRow}
use Rattle.cell_change.proofs.RowChangesLemmas.{indexes_here}
use Rattle.row_groups.specs.Shape.{shape_of}
use Rattle.answer_text.specs.Answering.{GivesLines}
use Rattle.row_checks.specs.Executing.{answer_of, done}
use Rattle.row_checks.proofs.QueryLemmas.{query_refused, query_replies}
use Rattle.statement_rows.specs.RowsAndSpace.{TakesRowsBy}
use Rattle.statement_rows.specs.RowsOfStatement.{AnyPage, BreaksReady, ChangesRowsOf, HasTheseRows, IsReadyBetween, without_rows}
use Rattle.table_query.specs.QueryAnswers.{AreQueryRows}
use Rattle.script_engine.specs.Doing.{DoesStatement, MakesAsked, MakesSpace, PlacesOnPages, PlacesRows, changed_place, goes_by_blocks}
use Rattle.script_engine.specs.NotedRooms.{KeepsOtherRooms, rooms_at}
use Rattle.script_engine.specs.Others.{KeepsOthers}
use Rattle.script_engine.specs.Ready.{AreServed, BreaksDatabase, IsReady}
use Rattle.script_engine.specs.declared.tables.Tables.{Tables}
use Rattle.script_engine.proofs.KeptKeysLemmas.{KeepsKeys, keeps_fewer}
use Rattle.script_engine.proofs.OthersLemmas.{keeps_others_itself, others_changed, touched_is}
use Rattle.script_engine.proofs.PlainChangesLemmas.{qualifying_taken}
use Rattle.script_engine.proofs.ReadyTablesLemmas.{ChangesOneTable, change_ends_unwritten, one_table, page_is_written, places_shown, ready_between, served_def}
use Rattle.script_engine.proofs.ScannedTablesLemmas.{FindsIfSound, HasHits, HasQueryRows, found_if_sound, hits_of, qualifying, query_rows_of, ready_still, stands_ready, these_rows}
use Rattle.script_engine.proofs.StoredDefsLemmas.{stored_defs, stored_table}

-- ---- a query

-- the refusal of the first sum outside BIGINT
pub record IsOutgrown (columns : List ColumnDef) (select : BoundSelect) (rows : List Row) (refusal : Refusal) : Type 0 where
  pub name : Name
  pub more : List Cause
  pub first : sum_causes columns (shape_of select) rows ≡ Overflow name ∷ more
  pub refusal_is : refusal ≡ refusal_of (Overflow name)

-- what a query answers for the rows that qualify: their lines, or that refusal
abbrev pub IsAnswerFor : TableDef → BoundSelect → List Row → Outcome → Type 0
IsAnswerFor def select rows (said.Done (reply.Lines text)) = GivesLines def.columns (shape_of select) rows text
IsAnswerFor def select rows (said.Refused refusal) = IsOutgrown def.columns select rows refusal
IsAnswerFor def select rows outcome = ⊥

-- what is said of the columns of the pages is said of those of the plain table
of_plain : (P : List ColumnDef → Type 0) (table : PlainTable) (def : TableDef) → table.def ≡ rootless def → P def.columns → P table.def.columns
of_plain P table def def_is of_def = subst P (sym (ap (λ (d : TableDef). d.columns) def_is)) of_def

-- what the plain database answers, by what the query answers for the rows that qualify
ends_so : (db : Database) (select : BoundSelect) (table : PlainTable) (def : TableDef) (outcome : Outcome) → table_at db select.table ≡ Some table → table.def ≡ rootless def
    → IsAnswerFor def select (filter (λ row. qualifies select.pred row.values) table.rows) outcome → ◌≡◌ {A = Database × Answer} (done db (bound.Query select)) (db, answer_of outcome)
ends_so db select table def (said.Done (reply.Lines text)) at def_is gives =
    query_replies db select table at text
    (of_plain (λ columns. GivesLines columns (shape_of select) (filter (λ row. qualifies select.pred row.values) table.rows) text) table def def_is gives)
ends_so db select table def (said.Refused refusal) at def_is says =
    let told = of_plain (λ columns. (more : List Cause) × (sum_causes columns (shape_of select) (filter (λ row. qualifies select.pred row.values) table.rows) ≡ Overflow says.name ∷ more)) table def def_is (says.more, says.first) in
    query_refused db select table at says.name told.0 told.1 ∙ ap (λ r. (db, Refused r)) (sym says.refusal_is)
ends_so db select table def outcome at def_is none = absurd none

-- a query answers what the plain database answers
pub query_does : {S : Type 0} (g : Ghosts S) (old new : S) (tables : Tables) (select : BoundSelect) (def : TableDef) (outcome : Outcome) → AreServed tables.catalog
    → def_at tables.catalog select.table ≡ Some def → (g.state new).is_told ≡ (g.state old).is_told → (g.state new).work ≡ (g.state old).work
    → ((owners : List Kind) (forests : TableForests) (rows : List Row) → StandsTable g tables.shape old def owners forests
    → AreTableIndexesSound tables.shape (pages_of g old) (view_of def forests) → AreQueryRows g tables.shape old def select.pred forests rows → IsAnswerFor def select rows outcome)
    → IsReady g old tables → DoesStatement g old new tables tables (bound.Query select) outcome
query_does g old new tables select def outcome served at told same answers ready =
    let st = stands_ready g old tables select.table def served ready at in record {
      ready = ready_still g old new told same tables ready;
      stands = λ db stands.
          let here = stored_table db tables.catalog select.table def (stored_defs tables.shape (pages_of g old) tables.catalog db ready.stored stands) at in
          let has : HasQueryRows g tables.shape old def st.forests db select.table select.pred =
          query_rows_of g tables.shape old def st.owners st.forests st.stands select.pred tables.catalog select.table db here.0 ready.stored at stands here.1 in
          let end_ = ends_so db select has.table def outcome has.at has.def_is (answers st.owners st.forests (filter (λ row. qualifies select.pred row.values) has.table.rows) st.stands st.indexes has.rows) in record {
            pages_are = subst (λ (e : Database × Answer). PagesStandFor tables.shape (pages_of g new) e.0) (sym end_) (subst (λ pages. PagesStandFor tables.shape pages db) (sym same) stands);
            answers = ap (λ (e : Database × Answer). e.1) end_;
          };
      places = λ done is_done place other changed there. absurd (cc changed);
      others = keeps_others_itself tables.shape (pages_of g old) (pages_of g new) tables.catalog tables.catalog None same refl;
    }

-- ---- rows that were changed

-- a table stands with right notes, in pages that are sound as they are between two changes of rows
pub record StandsBetween {S : Type 0} (g : Ghosts S) (s : S) (shape : Shape) (noted : SpaceNotes) (room : Entry → RoomNote) (def : TableDef) : Type 0 where
  pub owners : List Kind
  pub forests : TableForests
  pub between : IsReadyBetween g shape noted room s def owners forests

-- The rows of a table were changed, after a scan of it and by the notes that were lent: what is left to say is what the plain
-- database becomes, and the answer.
module _ {S : Type 0} (g : Ghosts S) (old mid new : S) (before now : Tables) (place : ℕ) (def : TableDef) (served : AreServed before.catalog) (at : def_at before.catalog place ≡ Some def)
    {room : Entry → RoomNote} (lent : rooms_at before.rooms place ≡ room) (told : (g.state mid).is_told ≡ (g.state old).is_told) (same : (g.state mid).work ≡ (g.state old).work) where
  -- the table stands midway
  pub ready_mid : IsReady g old before → StandsBetween g mid before.shape before.notes room def
  ready_mid ready =
      let still = ready_still g old mid told same before ready in
      let found = ready_between g mid before place def served still at in record { owners = still.view.owners; forests = found.0; between = subst (λ (r : Entry → RoomNote). IsReadyBetween g before.shape before.notes r mid def still.view.owners found.0) lent found.1 }

  -- damage that is met in changing its rows
  pub runs_change : {Early : ℕ → Type 0} {Any : Damage → Type 0} {fault : Option StoreFault} (pred : Option Pred) (found : List Hit) (rows : List PlacedRow) → rows ≡ map placed_row found
      → FindsIfSound g before.shape old def pred found
      → RunsOverPages g NoPage Early Any old mid None → RunsOverPages g AnyPage AnyPage (BreaksReady g before.shape before.notes room mid def (HasTheseRows g before.shape mid def rows)) mid new fault
      → RunsOverPages g AnyPage AnyPage (BreaksDatabase g old before) old new fault
  runs_change pred found rows are finds scan change =
      runs_as scan change (λ p there none. absurd none) (λ p there any. any) (λ p of. tt) (λ p any. any)
      (λ damage breaks ready.
      let mid_ready = ready_mid ready in
      let st = mid_ready.between.ready.stands in
      let hits_here = found_if_sound g old mid told same before.shape def pred found mid_ready.owners mid_ready.forests finds st
      (indexes_here g before.shape mid def mid_ready.owners mid_ready.forests mid_ready.between.sound st) in
      breaks.broken mid_ready.owners mid_ready.forests mid_ready.between
      (subst (λ r. HasTheseRows g before.shape mid def r mid_ready.owners mid_ready.forests) (sym are)
      (these_rows g before.shape mid def mid_ready.owners mid_ready.forests st pred found hits_here mid_ready.between.sound)))

  module _ (ready : IsReady g old before) (owners : List Kind) (forests : TableForests) (mid_ready : IsReadyBetween g before.shape before.notes room mid def owners forests)
      (statement : Bound) (change : PlainTable → PlainTable) {room_now : Entry → RoomNote} (left : rooms_at now.rooms place ≡ room_now)
      (changed : ChangesOneTable g before.shape before.notes now.notes room_now mid new def def owners forests change) (space : List SpaceChange)
      (rows : PlacesRows before.settings.rollout def (block_slot_count before.shape def) (spots_of g before.shape mid def owners forests) space (spots_of g before.shape new def changed.owners_now changed.forests_now) statement)
      (makes : MakesAsked before.shape before.settings.rollout def statement (pages_of g mid) space (pages_of g new))
      (catalog : now.catalog ≡ before.catalog) (shape : now.shape ≡ before.shape) (rooms : KeepsOtherRooms before.rooms now.rooms place) (keys : KeepsKeys before.shape (pages_of g mid) place change) where
    pub rows_done : (outcome : Outcome) → changed_place statement ≡ Some place
        → ((db : Database) → PagesStandFor before.shape (pages_of g mid) db → (changed_at db place change ≡ (done db statement).0) × ((done db statement).1 ≡ answer_of outcome))
        → DoesStatement g old new before now statement outcome
    rows_done outcome is_changed means =
        let still = ready_still g old mid told same before ready in
        let ends = change_ends_unwritten g mid new before now place def owners forests change served shape still at
        (subst (λ (r : Entry → RoomNote). ChangesOneTable g before.shape before.notes now.notes r mid new def def owners forests change) (sym left) changed) catalog rooms keys in
        let at_now : def_at now.catalog place ≡ Some def = ap (λ defs. def_at defs place) catalog ∙ at in
        let served_now : AreServed now.catalog = subst AreServed (sym catalog) served in
        let written = sym (page_is_written g new now place def served_now ends.ready at_now) in
        let shown = places_shown g mid new new before now def def owners forests change statement refl mid_ready changed written space rows makes in record {
          ready = ends.ready;
          stands = λ db stands.
              let midway : PagesStandFor before.shape (pages_of g mid) db = subst (λ pages. PagesStandFor before.shape pages db) (sym same) stands in
              let meant = means db midway in record {
                pages_are = subst (PagesStandFor now.shape (pages_of g new)) meant.0 (ends.stands_for db midway);
                answers = meant.1;
              };
          places = λ said is_said t other of there.
              let place_is : place ≡ t = same_Some place t (sym is_changed ∙ of) in
              let def_is : def ≡ other = same_Some def other (sym at ∙ ap (def_at before.catalog) place_is ∙ there) in
              subst (λ (d : TableDef). PlacesOnPages before.shape (pages_of g old) (pages_of g new) before.settings.rollout d statement) def_is
              (subst (λ pages. PlacesOnPages before.shape pages (pages_of g new) before.settings.rollout def statement) same shown);
          others =
              subst (λ (found : Option ℕ). KeepsOthers before.shape (pages_of g old) (pages_of g new) before.catalog now.catalog found) (sym (touched_is statement place is_changed))
              (subst (λ pages. KeepsOthers before.shape pages (pages_of g new) before.catalog now.catalog (Some place)) same
              (others_changed g mid new before now place def.number (served_def before.catalog place def served at).number served still changed.others catalog));
        }

-- one change of the table in a place, and another that makes the same of it
pub changed_alike : (db : Database) (place : ℕ) (table : PlainTable) (change other : PlainTable → PlainTable) → table_at db place ≡ Some table → change table ≡ other table
    → changed_at db place change ≡ changed_at db place other
changed_alike db place table change other at same =
    changed_at-with_place db place table change at ∙ ap (λ t. with_place db place (Some t)) same ∙ sym (changed_at-with_place db place table other at)

-- ---- a DELETE

-- its answer is how many hits there are
pub count_is : (found : Option PlainTable) (table : PlainTable) (pred : Option Pred) (rows : List Hit) → found ≡ Some table → map (λ hit. hit.row) rows ≡ hits pred (Some table) → length (hits pred found) ≡ length rows
count_is found table pred rows at are = ap (λ t. length (hits pred t)) at ∙ ap length (sym are) ∙ length-map rows (λ (hit : Hit). hit.row)

-- and without its hits the table is as it leaves it
hits_taken : (db : Database) (place : ℕ) (def : TableDef) (pred : Option Pred) (found : List Hit) → HasHits db place def pred found → (table : PlainTable) → table_at db place ≡ Some table
    → without_rows (map (λ hit. hit.row) found) table ≡ left_table pred table
hits_taken db place def pred found has table is =
    let same : has.table ≡ table = same_Some has.table table (sym has.at ∙ is) in
    subst (λ (t : PlainTable). without_rows (map (λ (hit : Hit). hit.row) found) t ≡ left_table pred t) same (ap (λ rows. without_rows rows has.table) has.are ∙ qualifying_taken pred has.table has.rising)

pub delete_does : {S : Type 0} {room room_now : Entry → RoomNote} (g : Ghosts S) (old mid new : S) (before now : Tables) (place : ℕ) (def : TableDef) (pred : Option Pred) (found items : List Hit) (count : ℕ) → AreServed before.catalog
    → def_at before.catalog place ≡ Some def → rooms_at before.rooms place ≡ room → rooms_at now.rooms place ≡ room_now
    → (g.state mid).is_told ≡ (g.state old).is_told → (g.state mid).work ≡ (g.state old).work
    → FindsIfSound g before.shape old def pred found → items ≡ found → count ≡ length found → goes_by_blocks before.settings.rollout pred def ≡ false
    → ((owners : List Kind) (forests : TableForests) → IsReadyBetween g before.shape before.notes room mid def owners forests → HasTheseRows g before.shape mid def (map placed_row items) owners forests
    → ChangesRowsOf g before.shape before.notes now.notes room_now mid new def def owners forests (λ was space is. TakesRowsBy def was (map placed_row items) space is) (without_rows (map (λ hit. hit.row) items)))
    → now.catalog ≡ before.catalog → now.shape ≡ before.shape → KeepsOtherRooms before.rooms now.rooms place → IsReady g old before → DoesStatement g old new before now (bound.Delete place pred) (said.Done (reply.Deleted count))
delete_does {room_now = room_now} g old mid new before now place def pred found items count served at lent left told same finds are counts by_rows deletes catalog shape rooms ready =
    let mid_ready = ready_mid g old mid new before now place def served at lent told same ready in
    let forests = mid_ready.forests in
    let owners = mid_ready.owners in
    let st = mid_ready.between.ready.stands in
    let hits_here = found_if_sound g old mid told same before.shape def pred found owners forests finds st (indexes_here g before.shape mid def owners forests mid_ready.between.sound st) in
    let lie = these_rows g before.shape mid def owners forests st pred found hits_here mid_ready.between.sound in
    let changed : ChangesRowsOf g before.shape before.notes now.notes room_now mid new def def owners forests (λ was space is. TakesRowsBy def was (map placed_row found) space is) (without_rows (map (λ (hit : Hit). hit.row) found)) =
    subst (λ (l : List Hit). ChangesRowsOf g before.shape before.notes now.notes room_now mid new def def owners forests (λ was space is. TakesRowsBy def was (map placed_row l) space is) (without_rows (map (λ (hit : Hit). hit.row) l))) are
    (deletes owners forests mid_ready.between (subst (λ (l : List Hit). HasTheseRows g before.shape mid def (map placed_row l) owners forests) (sym are) lie)) in
    let still = ready_still g old mid told same before ready in
    let has : (db : Database) → PagesStandFor before.shape (pages_of g mid) db → HasHits db place def pred found =
    (λ db stands.
    let here = stored_table db before.catalog place def (stored_defs before.shape (pages_of g mid) before.catalog db still.stored stands) at in
    hits_of g before.shape mid def owners forests st pred found hits_here mid_ready.between.sound before.catalog place db here.0 still.stored at stands here.1) in
    rows_done g old mid new before now place def served at lent told same ready owners forests mid_ready.between (bound.Delete place pred) (without_rows (map (λ (hit : Hit). hit.row) found)) left
    (one_table changed) changed.space (PlacesRows.delete (map placed_row found) by_rows (qualifying g before.shape mid def owners forests st pred found hits_here mid_ready.between.sound) changed.places)
    (subst (λ (goes : Bool). MakesSpace goes before.shape def (pages_of g mid) changed.space (pages_of g new)) (sym by_rows) changed.makes) catalog shape rooms
    (keeps_fewer before.shape (pages_of g mid) still.view place (without_rows (map (λ (hit : Hit). hit.row) found)) (λ row. not (qualifies pred row.values)) still.sound
    (λ db stands table is. hits_taken db place def pred found (has db stands) table is)) (said.Done (reply.Deleted count)) refl
    (λ db stands.
    let here = has db stands in (
      changed_alike db place here.table (without_rows (map (λ (hit : Hit). hit.row) found)) (left_table pred) here.at (hits_taken db place def pred found here here.table here.at),
      ap (λ n. Replied (reply.Deleted n)) (count_is _ here.table pred found here.at here.are ∙ sym counts),
    ))
