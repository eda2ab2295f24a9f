-- What a DELETE that goes by blocks does to ready pages.
use Rattle.std.proofs.Common.{◌≡◌, ◌≤◌, ◌∙◌, ℕ, true, false, List, [], ◌∷◌, ◌++◌, length, map, refl, sym, ap, subst, arith}
use Rattle.std.specs.Prelude.{Bool, Option, Some, filter, not}
use Rattle.std.specs.List.{AllByRecursion}
use Rattle.std.proofs.lemmas.List.{length-map}
use Rattle.std.proofs.lemmas.List.Sorted.{length_permutation}
use Rattle.mdc_words.specs.ByteOrder.{Entry}
use Rattle.mdc_ast.specs.declared.bound.Bound.TheVariants as bound
use Rattle.mdc_ast.specs.declared.definition.TableDef.{TableDef}
use Rattle.mdc_ast.specs.declared.predicate.Pred.{Pred}
use Rattle.mdc_ast.specs.declared.reply.Outcome.TheVariants as said
use Rattle.mdc_ast.specs.declared.reply.Reply.TheVariants as reply
use Rattle.mdc_ast.specs.declared.row.Row.{Row}
use Rattle.mdc_ast.specs.declared.statement.RolloutMode.{RolloutMode}
use Rattle.mdc_ast.specs.declared.statement.RolloutMode.TheVariants.{Immediate}
use Rattle.mdc_ast.specs.Database.{Database, changed_at}
use Rattle.mdc_ast.specs.Definitions.{def_at}
use Rattle.mdc_ast.specs.Truth.{qualifies}
use Rattle.statement_meaning.specs.Doing.{hits, left_table}
use Rattle.statement_meaning.specs.Step.{Replied}
use Rattle.store_api.specs.Frame.{Touches}
use Rattle.store_api.specs.RunsOverPages.{RunsOverPages}
use Rattle.store_api.specs.Works.{Works}
use Rattle.store_api.specs.declared.fault.StoreFault.{StoreFault}
use Rattle.store_api.specs.declared.pages.Pages.{Ghosts}
use Rattle.store_api.proofs.FrameLemmas.{touches_wider}
use Rattle.store_api.proofs.RunsOverPagesLemmas.{runs_wider}
use Rattle.extent_map.specs.declared.kind.Kind.{Kind}
use Rattle.mdc_sound.specs.Placing.{RollsOut}
use Rattle.mdc_sound.specs.SoundDatabase.{IsSoundBetweenChanges, with_table_page}
use Rattle.mdc_sound.specs.StandingTable.{BreaksExpected, RoomNote, StandsTable, TableForests, pages_of, spots_of}
use Rattle.mdc_sound.specs.StandsForDatabase.{PagesStandFor}
use Rattle.mdc_sound.specs.TableRows.{PlacedRow, rows_in_table}
use Rattle.row_entries.specs.RowEntries.{IsTreeOrMapPageOfTable}
use Rattle.cell_change.specs.ExpectedTables.{HasSoundIndexes}
use Rattle.cell_change.proofs.RowChangesLemmas.{indexes_here}
use Rattle.statement_rows.specs.RowsOfStatement.{AnyPage}
use Rattle.statement_rows.proofs.OtherTablesLemmas.{others_kept}
use Rattle.statement_rows.proofs.TablePagesLemmas.{table_pages_kept}
use Rattle.table_scan.proofs.ScannedRowsLemmas.{perm_filter}
use Rattle.table_scan.proofs.ScanningLemmas.{filter_first, filter_past}
use Rattle.rollout.specs.Applying.{applies_to}
use Rattle.rollout.specs.RolledBlocks.{RollsOutRows, is_chosen, without_chosen}
use Rattle.rollout.specs.RolledSpace.{RollsInSpace}
use Rattle.rollout.specs.declared.rolling.RolledOut.{RolledOut}
use Rattle.rollout.proofs.SoundRolledLemmas.{in_space}
use Rattle.script_engine.specs.Doing.{DoesStatement, MakesSpace, PlacesRows, goes_by_blocks}
use Rattle.script_engine.specs.NotedRooms.{KeepsOtherRooms, rooms_at}
use Rattle.script_engine.specs.Ready.{AreServed, BreaksDatabase, IsReady}
use Rattle.script_engine.specs.declared.tables.Tables.{Tables}
use Rattle.script_engine.proofs.DoneRowsLemmas.{ready_mid, rows_done}
use Rattle.script_engine.proofs.KeptKeysLemmas.{keeps_fewer}
use Rattle.script_engine.proofs.ScannedTablesLemmas.{query_rows_of}
use Rattle.script_engine.proofs.StoredDefsLemmas.{stored_defs, stored_table}

-- ---- how many rows went

module _ {X : Type 0} (p : X → Bool) where
  none_pass : (xs : List X) → AllByRecursion (λ x. p x ≡ false) xs → filter p xs ≡ []
  none_pass [] fail = refl
  none_pass (x ∷ xs) fail = filter_past p x xs fail.0 ∙ none_pass xs fail.1

  -- of those that pass and those that don't the first are left
  first_pass : (xs ys : List X) → AllByRecursion (λ x. p x ≡ true) xs → AllByRecursion (λ x. p x ≡ false) ys → filter p (xs ++ ys) ≡ xs
  first_pass [] ys pass fail = none_pass ys fail
  first_pass (x ∷ xs) ys pass fail = filter_first p x (xs ++ ys) pass.0 ∙ ap (λ rest. x ∷ rest) (first_pass xs ys pass.1 fail)

-- a DELETE goes by blocks in one mode alone
by_mode : (mode : RolloutMode) (pred : Option Pred) (def : TableDef) → goes_by_blocks mode pred def ≡ true → mode ≡ Immediate
by_mode Immediate pred def is = refl
by_mode mode pred def is = absurd (cc)

-- and where rollout applies
pub applies_by : (mode : RolloutMode) (pred : Option Pred) (def : TableDef) → goes_by_blocks mode pred def ≡ true → applies_to pred def ≡ true
applies_by Immediate pred def is = is
applies_by mode pred def is = absurd (cc)

-- ---- what it does

module _ {S : Type 0} {room room_now : Entry → RoomNote} (g : Ghosts S) (old new : S) (before now : Tables) (place : ℕ) (def : TableDef) (pred : Option Pred) (rolled : RolledOut) (served : AreServed before.catalog)
    (at : def_at before.catalog place ≡ Some def) (lent : rooms_at before.rooms place ≡ room) (left : rooms_at now.rooms place ≡ room_now) where
  pub rolled_does : goes_by_blocks before.settings.rollout pred def ≡ true
      → ((owners : List Kind) (forests : TableForests) → StandsTable g before.shape old def owners forests → RollsOutRows g before.shape before.notes now.notes room_now old new def pred rolled owners forests)
      → ((owners : List Kind) (forests : TableForests) → StandsTable g before.shape old def owners forests → RollsInSpace before.shape def (pages_of g old) (pages_of g new))
      → ((owners : List Kind) (forests : TableForests) → StandsTable g before.shape old def owners forests → IsSoundBetweenChanges before.shape def (pages_of g old) → IsSoundBetweenChanges before.shape def (pages_of g new))
      → ((owners : List Kind) (forests : TableForests) → StandsTable g before.shape old def owners forests → IsSoundBetweenChanges before.shape def (pages_of g old) → (db : Database)
      → PagesStandFor before.shape (with_table_page def (pages_of g old)) db → PagesStandFor before.shape (with_table_page def (pages_of g new)) (changed_at db def.number (without_chosen pred)))
      → Works g old new → Touches g (IsTreeOrMapPageOfTable g before.shape old def) old new → length (pages_of g new) ≡ length (pages_of g old)
      → now.catalog ≡ before.catalog → now.shape ≡ before.shape → KeepsOtherRooms before.rooms now.rooms place → IsReady g old before
      → DoesStatement g old new before now (bound.Delete place pred) (said.Done (reply.Deleted rolled.rows))
  rolled_does by_blocks rolls space sound stands_for works touches count catalog shape rooms ready =
      let mid_ready = ready_mid g old old new before now place def served at lent refl refl ready in
      let owners = mid_ready.owners in
      let forests = mid_ready.forests in
      let st = mid_ready.between.ready.stands in
      let r = rolls owners forests st in
      let longer : length (pages_of g old) ≤ length (pages_of g new) = omega (arith, count) in
      let wide = touches_wider touches (in_space g before.shape old def) in
      let mode = sym (by_mode before.settings.rollout pred def by_blocks) in
      rows_done g old old new before now place def served at lent refl refl ready owners forests mid_ready.between (bound.Delete place pred) (left_table pred) left
      (record {
        owners_now = r.owners_now;
        forests_now = r.forests_now;
        changes = r.changes;
        now = record {
          ready = record { stands = r.changes.stands; notes = r.changes.notes mid_ready.between.ready.notes; rooms = r.rooms };
          sound = sound owners forests st mid_ready.between.sound;
        };
        stands_for = stands_for owners forests st mid_ready.between.sound;
        table_pages = table_pages_kept g before.shape old new def owners forests st works wide;
        others = others_kept g before.shape old new def owners r.owners_now forests r.forests_now mid_ready.between.sound.sound st r.changes wide longer;
      }) [] (PlacesRows.roll by_blocks (subst (λ (m : RolloutMode). RollsOut def m (is_chosen pred) (spots_of g before.shape old def owners forests) (spots_of g before.shape new def r.owners_now r.forests_now)) mode r.rolls) refl)
      (subst (λ (goes : Bool). MakesSpace goes before.shape def (pages_of g old) [] (pages_of g new)) (sym by_blocks) (space owners forests st)) catalog shape rooms
      (keeps_fewer before.shape (pages_of g old) ready.view place (left_table pred) (λ row. not (qualifies pred row.values)) ready.sound (λ db stands table is. refl)) (said.Done (reply.Deleted rolled.rows)) refl
      (λ db stands.
      let here = stored_table db before.catalog place def (stored_defs before.shape (pages_of g old) before.catalog db ready.stored stands) at in
      let found = query_rows_of g before.shape old def owners forests st pred before.catalog place db here.0 ready.stored at stands here.1 in
      let q : PlacedRow → Bool = λ placed. is_chosen pred placed.row in
      let were = rows_in_table before.shape (pages_of g old) def forests.map in
      let are = rows_in_table before.shape (pages_of g new) def r.forests_now.map in
      let row_of : PlacedRow → Row = λ placed. placed.row in
      let kept : length (filter q were) ≡ length r.gone =
      length_permutation (filter q (r.gone ++ are)) (filter q were) (perm_filter q (r.gone ++ are) were r.rows) ∙ ap length (first_pass q r.gone are r.qualify r.others) in
      let those : length (hits pred (Some found.table)) ≡ length (filter q were) =
      length_permutation (map row_of (filter q were)) (filter (λ row. qualifies pred row.values) found.table.rows) found.rows.found ∙ length-map (filter q were) row_of in (
        refl,
        ap (λ n. Replied (reply.Deleted n)) (ap (λ t. length (hits pred t)) found.at ∙ (those ∙ (kept ∙ sym r.row_count))),
      ))

module _ {S : Type 0} {room : Entry → RoomNote} (g : Ghosts S) (old new : S) (before : Tables) (place : ℕ) (def : TableDef) (served : AreServed before.catalog) (at : def_at before.catalog place ≡ Some def)
    (lent : rooms_at before.rooms place ≡ room) where
  -- damage that is met in releasing its blocks
  pub runs_rolled : {Mine Kind : ℕ → Type 0} {fault : Option StoreFault} → RunsOverPages g Mine Kind (BreaksExpected g before.shape old def (HasSoundIndexes g before.shape old def)) old new fault
      → RunsOverPages g AnyPage AnyPage (BreaksDatabase g old before) old new fault
  runs_rolled run =
      runs_wider run (λ p there mine. tt) (λ p kind. tt)
      (λ damage breaks ready.
      let mid_ready = ready_mid g old old new before before place def served at lent refl refl ready in
      let st = mid_ready.between.ready.stands in
      breaks.broken mid_ready.owners mid_ready.forests st (indexes_here g before.shape old def mid_ready.owners mid_ready.forests mid_ready.between.sound st))
