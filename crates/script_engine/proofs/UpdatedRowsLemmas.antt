-- What UPDATEs do to ready pages.
use Rattle.std.proofs.Common.{◌≡◌, ◌∙◌, ◌++◌, ℕ, List, [], append-nil, false, length, map, refl, sym, ap, subst, Option, Some, None}
use Rattle.std.specs.Prelude.{filter, flat_map, option_map}
use Rattle.std.specs.List.{list_all}
use Rattle.std.proofs.lemmas.List.{length-map}
use Rattle.std.proofs.lemmas.List.Folds.{flat_map-map}
use Rattle.mdc_words.specs.ByteOrder.{Entry}
use Rattle.mdc_ast.specs.declared.bound.Bound.{Bound}
use Rattle.mdc_ast.specs.declared.bound.Bound.TheVariants as bound
use Rattle.mdc_ast.specs.declared.bound.BoundSet.{BoundSet}
use Rattle.mdc_ast.specs.declared.definition.ColumnDef.{ColumnDef}
use Rattle.mdc_ast.specs.declared.definition.TableDef.{TableDef}
use Rattle.mdc_ast.specs.declared.predicate.Pred.{Pred}
use Rattle.mdc_ast.specs.declared.refusal.Refusal.{Refusal}
use Rattle.mdc_ast.specs.declared.reply.Outcome.{Outcome}
use Rattle.mdc_ast.specs.declared.reply.Outcome.TheVariants as said
use Rattle.mdc_ast.specs.declared.reply.Reply.TheVariants as reply
use Rattle.mdc_ast.specs.declared.row.Row.{Row}
use Rattle.statement_meaning.specs.Cause.{Cause, refusal_of}
use Rattle.mdc_ast.specs.Database.{Database, PlainTable, changed_at, fits_all, table_at}
use Rattle.mdc_ast.specs.Definitions.{def_at}
use Rattle.statement_meaning.specs.Doing.{causes_of_rows, changed_causes, changed_row, changed_table, effect, key_causes}
use Rattle.mdc_ast.specs.Truth.{qualifies}
use Rattle.statement_meaning.specs.Judging.{of_some}
use Rattle.statement_meaning.specs.Step.{Replied, step_by}
use Rattle.store_api.specs.declared.fault.Damage.{Damage}
use Rattle.store_api.specs.declared.pages.Pages.{Ghosts}
use Rattle.store_api.specs.declared.shape.Shape.{Shape}
use Rattle.extent_map.specs.Damages.{IfFull}
use Rattle.extent_map.specs.declared.fault.SpaceFault.{SpaceFault}
use Rattle.extent_map.specs.declared.fault.SpaceFault.TheVariants.{Full, Store}
use Rattle.extent_map.specs.declared.kind.Kind.{Kind}
use Rattle.block_rows.specs.HeldRows.{placed_row}
use Rattle.block_rows.specs.declared.hit.Hit.{Hit}
use Rattle.mdc_sound.specs.Placing.{block_slot_count}
use Rattle.mdc_sound.specs.RunningFull.{UpdateRunsFull}
use Rattle.mdc_sound.specs.StandingTable.{RoomNote, StandsTable, TableForests, pages_of, spots_of}
use Rattle.mdc_sound.specs.StandsForDatabase.{PagesStandFor}
use Rattle.binder.specs.Saying.{first_of}
use Rattle.cell_change.proofs.ChangedSpaceLemmas.{shows_spots}
use Rattle.cell_change.proofs.RowChangesLemmas.{indexes_here}
use Rattle.row_checks.specs.Executing.{done}
use Rattle.statement_rows.specs.RowsAndSpace.{TurnsRowsBy}
use Rattle.statement_rows.specs.RowsOfStatement.{ChangesRowsOf, HasTheseRows, IsReadyBetween, with_rows}
use Rattle.statement_rows.specs.Turning.{turned_row}
use Rattle.statement_rows.specs.declared.changing.Turned.{Turned}
use Rattle.executor.specs.Planned.{LieInTable}
use Rattle.script_engine.specs.Doing.{DoesStatement, PlacesRows, RunsFullAlone, StatementRunsFull, with_changed}
use Rattle.script_engine.specs.Inserting.{IsSaidFirst, SaysNothing, first_refusal}
use Rattle.script_engine.specs.NotedRooms.{KeepsOtherRooms, rooms_at}
use Rattle.script_engine.specs.Ready.{AreServed, IsNoSoundTable, IsReady}
use Rattle.script_engine.specs.SetKeys.{JudgesSet}
use Rattle.script_engine.specs.declared.tables.Tables.{Tables}
use Rattle.script_engine.proofs.KeptKeysLemmas.{KeepsKeys, keeps_by_causes}
use Rattle.script_engine.proofs.PlainChangesLemmas.{causes_of_qualifying, qualifying_changed}
use Rattle.script_engine.proofs.BehindLooksLemmas.{refused_behind}
use Rattle.script_engine.proofs.DoneRowsLemmas.{changed_alike, count_is, ready_mid, rows_done}
use Rattle.script_engine.proofs.PuttingTuplesLemmas.{none_said, refused_in_front}
use Rattle.script_engine.proofs.ReadyKeysLemmas.{nothing_of_keys}
use Rattle.script_engine.proofs.ReadyTablesLemmas.{one_table}
use Rattle.script_engine.proofs.ScannedTablesLemmas.{FindsIfSound, found_if_sound, hits_qualify, lying_fit, qualifying, these_rows}
use Rattle.script_engine.proofs.TurnedKeysLemmas.{found_qualify, found_there, set_keys}
use Rattle.script_engine.proofs.TurnedRowsLemmas.{each_passes, turned_changed, turned_hit, turned_news, turned_places}

-- ---- what is said against it

-- of the rows that qualify, and then of the keys
causes_are : (db : Database) (place : ℕ) (sets : List BoundSet) (pred : Option Pred) (columns : List ColumnDef) (table : PlainTable) (found : List Hit) → table_at db place ≡ Some table → table.def.columns ≡ columns
    → map (λ hit. hit.row) found ≡ filter (λ row. qualifies pred row.values) table.rows
    → causes_of_rows db (bound.Update place sets pred) ≡ flat_map (λ hit. changed_causes columns sets None hit.row) found ++ key_causes db (bound.Update place sets pred)
causes_are db place sets pred columns table found at same are =
    let keys : List Cause = key_causes db (bound.Update place sets pred) in
    ap (λ t. (of_some t (λ (x : PlainTable). flat_map (changed_causes x.def.columns sets pred) x.rows) ++ keys) ++ []) at
    ∙ append-nil (flat_map (changed_causes table.def.columns sets pred) table.rows ++ keys)
    ∙ ap (λ l. l ++ keys) (ap (λ k. flat_map (changed_causes k sets pred) table.rows) same ∙ causes_of_qualifying columns sets pred table.rows
    ∙ ap (flat_map (changed_causes columns sets None)) (sym are) ∙ flat_map-map (changed_causes columns sets None) (λ (hit : Hit). hit.row) found)

-- The rows that qualify were found on the pages, and nothing was changed since.
module _ {S : Type 0} (g : Ghosts S) (old mid : S) (before : Tables) (place : ℕ) (def : TableDef) (sets : List BoundSet) (pred : Option Pred) (found : List Hit) (served : AreServed before.catalog)
    (at : def_at before.catalog place ≡ Some def) (told : (g.state mid).is_told ≡ (g.state old).is_told) (same : (g.state mid).work ≡ (g.state old).work)
    (finds : FindsIfSound g before.shape old def pred found) where
  -- what is said against it
  said_against : IsReady g old before → (db : Database) → PagesStandFor before.shape (pages_of g old) db
      → causes_of_rows db (bound.Update place sets pred) ≡ flat_map (λ hit. changed_causes def.columns sets None hit.row) found ++ key_causes db (bound.Update place sets pred)
  said_against ready db stands =
      let has = found_there g old mid before place def pred found served at told same finds ready db stands in
      causes_are db place sets pred def.columns has.table found has.at (ap (λ (d : TableDef). d.columns) has.def_is) has.are

  -- what is said of a row is said first
  pub row_first : (cause : Cause) → first_of (flat_map (λ hit. changed_causes def.columns sets None hit.row) found) ≡ Some cause → IsSaidFirst g old before (bound.Update place sets pred) (Some (refusal_of cause))
  row_first cause first ready db stands =
      let rows = flat_map (λ (hit : Hit). changed_causes def.columns sets None hit.row) found in
      ap first_refusal (said_against ready db stands) ∙ refused_in_front rows (key_causes db (bound.Update place sets pred)) (refusal_of cause) (ap (option_map refusal_of) first)

  -- where nothing is said of any, what the judge of keys says
  pub keys_first : (items : List Turned) → map turned_row items ≡ map (turned_hit sets) found → flat_map (λ hit. changed_causes def.columns sets None hit.row) found ≡ [] → (refusal : Option Refusal)
      → JudgesSet g mid def sets items refusal → IsSaidFirst g old before (bound.Update place sets pred) refusal
  keys_first items made nothing refusal judges ready db stands =
      ap first_refusal (said_against ready db stands ∙ ap (λ l. l ++ key_causes db (bound.Update place sets pred)) nothing)
      ∙ set_keys g old mid before place def pred found served at told same finds ready sets items made refusal judges db stands

-- where nothing is said first, nothing is said
pub silent_first : {S : Type 0} (g : Ghosts S) (old : S) (before : Tables) (statement : Bound) (refusal : Option Refusal) → refusal ≡ None → IsSaidFirst g old before statement refusal → SaysNothing g old before statement
silent_first g old before statement refusal none first ready db stands = none_said (causes_of_rows db statement) (first ready db stands ∙ none)

-- it is refused for what is said first
pub refused_does : {S : Type 0} (g : Ghosts S) (old mid : S) (before : Tables) (place : ℕ) (sets : List BoundSet) (pred : Option Pred) (refusal : Refusal) (outcome : Outcome) → (g.state mid).is_told ≡ (g.state old).is_told
    → (g.state mid).work ≡ (g.state old).work → IsSaidFirst g old before (bound.Update place sets pred) (Some refusal) → outcome ≡ said.Refused refusal → IsReady g old before
    → DoesStatement g old mid before before (bound.Update place sets pred) outcome
refused_does g old mid before place sets pred refusal outcome told same first is ready =
    subst (DoesStatement g old mid before before (bound.Update place sets pred)) (sym is) (refused_behind g old mid before (bound.Update place sets pred) told same refusal first ready)

-- ---- what it does

module _ {S : Type 0} (g : Ghosts S) (old mid new : S) (before now : Tables) (place : ℕ) (def : TableDef) (sets : List BoundSet) (pred : Option Pred) (found : List Hit) (items : List Turned) (served : AreServed before.catalog)
    (at : def_at before.catalog place ≡ Some def) {room : Entry → RoomNote} (lent : rooms_at before.rooms place ≡ room) (told : (g.state mid).is_told ≡ (g.state old).is_told) (same : (g.state mid).work ≡ (g.state old).work)
    (finds : FindsIfSound g before.shape old def pred found)
    (made : map turned_row items ≡ map (turned_hit sets) found) (silent : SaysNothing g old before (bound.Update place sets pred)) where
  -- what the plain table becomes
  becomes : IsReady g old before → (db : Database) → PagesStandFor before.shape (pages_of g mid) db → changed_at db place (with_rows (map (λ t. t.row) items)) ≡ changed_at db place (changed_table sets pred)
  becomes ready db stands =
      let has = found_there g old mid before place def pred found served at told same finds ready db (subst (λ pages. PagesStandFor before.shape pages db) same stands) in
      let news : map (λ (t : Turned). t.row) items ≡ map (changed_row sets pred) (filter (λ (row : Row). qualifies pred row.values) has.table.rows) =
      turned_news sets pred items found made (found_qualify g old mid before place def pred found served at told same finds ready) ∙ ap (map (changed_row sets pred)) has.are in
      changed_alike db place has.table (with_rows (map (λ (t : Turned). t.row) items)) (changed_table sets pred) has.at (ap (λ r. with_rows r has.table) news ∙ qualifying_changed sets pred has.table has.rising)

  -- and it keeps its UNIQUE indexes
  keeps : IsReady g old before → KeepsKeys before.shape (pages_of g mid) place (with_rows (map (λ t. t.row) items))
  keeps ready =
      keeps_by_causes before.shape (pages_of g mid) place (with_rows (map (λ (t : Turned). t.row) items)) (bound.Update place sets pred) refl (becomes ready)
      (λ db stands. nothing_of_keys db (bound.Update place sets pred) (silent ready db (subst (λ pages. PagesStandFor before.shape pages db) same stands)))

  -- what the plain database does
  ends_so : IsReady g old before → (db : Database) → PagesStandFor before.shape (pages_of g old) db → done db (bound.Update place sets pred) ≡ (changed_at db place (changed_table sets pred), Replied (reply.Updated (length items)))
  ends_so ready db stands =
      let has = found_there g old mid before place def pred found served at told same finds ready db stands in
      let many : length items ≡ length found = sym (length-map items turned_row) ∙ ap length made ∙ length-map found (turned_hit sets) in
      ap (λ causes. step_by db causes (effect db (bound.Update place sets pred))) (silent ready db stands)
      ∙ ap (λ n. (changed_at db place (changed_table sets pred), Replied (reply.Updated n))) (count_is _ has.table pred found has.at has.are ∙ sym many)

  pub update_does : {room_now : Entry → RoomNote} (count : ℕ) → rooms_at now.rooms place ≡ room_now → count ≡ length items
      → ((owners : List Kind) (forests : TableForests) → IsReadyBetween g before.shape before.notes room mid def owners forests
      → HasTheseRows g before.shape mid def (map (λ t. (turned_row t).0) items) owners forests
      → ChangesRowsOf g before.shape before.notes now.notes room_now mid new def def owners forests
      (λ was space is. TurnsRowsBy def (block_slot_count before.shape def) was (map turned_row items) space is) (with_rows (map (λ t. t.row) items)))
      → now.catalog ≡ before.catalog → now.shape ≡ before.shape → KeepsOtherRooms before.rooms now.rooms place → IsReady g old before → DoesStatement g old new before now (bound.Update place sets pred) (said.Done (reply.Updated count))
  update_does count left counts changes catalog shape rooms ready =
      let mid_ready = ready_mid g old mid new before now place def served at lent told same ready in
      let forests = mid_ready.forests in
      let owners = mid_ready.owners in
      let st = mid_ready.between.ready.stands in
      let hits_here = found_if_sound g old mid told same before.shape def pred found owners forests finds st (indexes_here g before.shape mid def owners forests mid_ready.between.sound st) in
      let lie = these_rows g before.shape mid def owners forests st pred found hits_here mid_ready.between.sound in
      let q = hits_qualify g before.shape mid def owners forests st pred found hits_here in
      let rows = with_changed sets pred (map placed_row found) in
      let changed = changes owners forests mid_ready.between (subst (λ r. HasTheseRows g before.shape mid def r owners forests) (sym (turned_places sets items found made)) lie) in
      let placed : TurnsRowsBy def (block_slot_count before.shape def) (spots_of g before.shape mid def owners forests) rows changed.space (spots_of g before.shape new def changed.owners_now changed.forests_now) =
      subst (λ r. TurnsRowsBy def (block_slot_count before.shape def) (spots_of g before.shape mid def owners forests) r changed.space (spots_of g before.shape new def changed.owners_now changed.forests_now))
      (turned_changed sets pred items found made q) changed.places in
      rows_done g old mid new before now place def served at lent told same ready owners forests mid_ready.between (bound.Update place sets pred) (with_rows (map (λ (t : Turned). t.row) items)) left
      (one_table changed) changed.space (PlacesRows.update (map placed_row found) (qualifying g before.shape mid def owners forests st pred found hits_here mid_ready.between.sound) placed) changed.makes
      catalog shape rooms (keeps ready) (said.Done (reply.Updated count)) refl
      (λ db stands. let ends = ends_so ready db (subst (λ pages. PagesStandFor before.shape pages db) same stands) in
      (becomes ready db stands ∙ sym (ap (λ e. e.0) ends), ap (λ e. e.1) ends ∙ ap (λ n. Replied (reply.Updated n)) (sym counts)))

  -- it runs full on the pages that there were
  update_full : IsReady g old before
      → ((owners : List Kind) (forests : TableForests) → IsReadyBetween g before.shape before.notes room mid def owners forests
      → HasTheseRows g before.shape mid def (map (λ t. (turned_row t).0) items) owners forests → UpdateRunsFull before.shape (pages_of g mid) def (map turned_row items))
      → StatementRunsFull before.shape (pages_of g old) before.catalog (bound.Update place sets pred)
  update_full ready full =
      let mid_ready = ready_mid g old mid new before now place def served at lent told same ready in
      let forests = mid_ready.forests in
      let owners = mid_ready.owners in
      let st = mid_ready.between.ready.stands in
      let hits_here = found_if_sound g old mid told same before.shape def pred found owners forests finds st (indexes_here g before.shape mid def owners forests mid_ready.between.sound st) in
      let lie = these_rows g before.shape mid def owners forests st pred found hits_here mid_ready.between.sound in
      let q = hits_qualify g before.shape mid def owners forests st pred found hits_here in
      let runs = full owners forests mid_ready.between (subst (λ r. HasTheseRows g before.shape mid def r owners forests) (sym (turned_places sets items found made)) lie) in
      subst (λ pages. StatementRunsFull before.shape pages before.catalog (bound.Update place sets pred)) same
      (StatementRunsFull.update def (spots_of g before.shape mid def owners forests) (map placed_row found) at (shows_spots g before.shape mid def owners forests st)
      (qualifying g before.shape mid def owners forests st pred found hits_here mid_ready.between.sound)
      (subst (UpdateRunsFull before.shape (pages_of g mid) def) (turned_changed sets pred items found made q) runs))

  -- and the number that Full states is that of the extents
  pub update_stops : (fault : SpaceFault)
      → IfFull fault (λ cap. (cap ≡ before.shape.extents)
      × ((owners : List Kind) (forests : TableForests) → IsReadyBetween g before.shape before.notes room mid def owners forests
      → HasTheseRows g before.shape mid def (map (λ t. (turned_row t).0) items) owners forests → UpdateRunsFull before.shape (pages_of g mid) def (map turned_row items)))
      → IfFull fault (λ cap. (cap ≡ before.shape.extents) × (IsReady g old before → RunsFullAlone before.shape (pages_of g old) before.catalog (bound.Update place sets pred)))
  update_stops (Full cap) full = (full.0, λ ready. record { full = update_full ready full.1; faultless = silent ready })
  update_stops (Store fault) full = tt

-- a hit that doesn't fit shows that the table doesn't stand, whatever its record indexes are
pub unfit_breaks : {S : Type 0} (g : Ghosts S) (shape : Shape) (s : S) (def : TableDef) (pred : Option Pred) (found : List Hit) (damage : Damage)
    → ((owners : List Kind) (forests : TableForests) → StandsTable g shape s def owners forests → LieInTable g shape s def pred found forests)
    → list_all (λ hit. fits_all def.columns hit.row.values) found ≡ false → IsNoSoundTable g shape s def damage
unfit_breaks g shape s def pred found damage lies unfit owners forests st sound =
    let fit = each_passes (λ (hit : Hit). fits_all def.columns hit.row.values) found (lying_fit g shape s def owners forests st pred found (lies owners forests st).lie) in
    absurd (cc (fit, unfit))
