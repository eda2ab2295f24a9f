-- What giving the Free blocks of a table back does to ready pages.
use Rattle.std.proofs.Common.{◌≡◌, ◌≤◌, ℕ, zero, suc, List, [], ◌∷◌, length, refl, sym, ap, subst, arith}
use Rattle.std.specs.Prelude.{None, Option, Some, true}
use Rattle.mdc_ast.specs.declared.bound.Bound.TheVariants as bound
use Rattle.mdc_ast.specs.declared.definition.TableDef.{TableDef}
use Rattle.mdc_ast.specs.declared.reply.Outcome.TheVariants as said
use Rattle.mdc_ast.specs.declared.reply.Reply.TheVariants as reply
use Rattle.mdc_ast.specs.Database.{Database, PlainTable, changed_at}
use Rattle.mdc_ast.specs.Definitions.{def_at}
use Rattle.store_api.specs.Frame.{Touches}
use Rattle.store_api.specs.RunsOverPages.{RunsOverPages}
use Rattle.store_api.specs.Works.{Works}
use Rattle.store_api.specs.declared.fault.StoreFault.{StoreFault}
use Rattle.store_api.specs.declared.pages.Pages.{Ghosts}
use Rattle.store_api.proofs.FrameLemmas.{touches_wider}
use Rattle.store_api.proofs.RunsOverPagesLemmas.{runs_wider}
use Rattle.extent_map.specs.declared.kind.Kind.{Kind}
use Rattle.mdc_sound.specs.SoundDatabase.{IsSoundBetweenChanges, with_table_page}
use Rattle.mdc_sound.specs.StandingTable.{BreaksTable, StandsTable, TableForests, pages_of}
use Rattle.mdc_sound.specs.StandsForDatabase.{PagesStandFor}
use Rattle.table_blocks.specs.BlockChanges.{IsTreeOrMapPageOfTable}
use Rattle.statement_rows.specs.RowsOfStatement.{AnyPage}
use Rattle.statement_rows.proofs.OtherTablesLemmas.{others_kept}
use Rattle.statement_rows.proofs.TablePagesLemmas.{table_pages_kept}
use Rattle.rollout.specs.ReclaimedBlocks.{ReclaimsFree}
use Rattle.rollout.specs.RolledBlocks.{GivesBackSpace}
use Rattle.rollout.proofs.SoundRolledLemmas.{in_space}
use Rattle.script_engine.specs.Doing.{DoesStatement, PlacesRows}
use Rattle.script_engine.specs.NotedRooms.{rooms_at}
use Rattle.script_engine.specs.Ready.{AreServed, BreaksDatabase, IsReady}
use Rattle.script_engine.specs.declared.tables.Tables.{Tables}
use Rattle.script_engine.proofs.DoneRowsLemmas.{ready_mid, rows_done}
use Rattle.script_engine.proofs.IndexedRowsLemmas.{kept_all}
use Rattle.script_engine.proofs.KeptKeysLemmas.{keeps_fewer}
use Rattle.script_engine.proofs.ScannedTablesLemmas.{stands_ready}

-- ---- a database of which nothing changes

changed_at-itself : (db : Database) (place : ℕ) → changed_at db place (λ table. table) ≡ db
changed_at-itself [] place = refl
changed_at-itself (None ∷ db) zero = refl
changed_at-itself (Some table ∷ db) zero = refl
changed_at-itself (table ∷ db) (suc place) = ap (λ rest. table ∷ rest) (changed_at-itself db place)

-- ---- what it does

module _ {S : Type 0} (g : Ghosts S) (old new : S) (before now : Tables) (place : ℕ) (def : TableDef) (count : ℕ) (served : AreServed before.catalog) (at : def_at before.catalog place ≡ Some def) where
  pub reclaimed_does :
      ((owners : List Kind) (forests : TableForests) → StandsTable g before.shape old def owners forests → ReclaimsFree g before.shape before.notes now.notes old new def count owners forests)
      → ((owners : List Kind) (forests : TableForests) → StandsTable g before.shape old def owners forests → GivesBackSpace before.shape (pages_of g old) (pages_of g new))
      → ((owners : List Kind) (forests : TableForests) → StandsTable g before.shape old def owners forests → IsSoundBetweenChanges before.shape def (pages_of g old) → IsSoundBetweenChanges before.shape def (pages_of g new))
      → ((owners : List Kind) (forests : TableForests) → StandsTable g before.shape old def owners forests → IsSoundBetweenChanges before.shape def (pages_of g old) → (db : Database)
      → PagesStandFor before.shape (with_table_page def (pages_of g old)) db → PagesStandFor before.shape (with_table_page def (pages_of g new)) db)
      → Works g old new → Touches g (IsTreeOrMapPageOfTable g before.shape old def) old new → length (pages_of g new) ≡ length (pages_of g old)
      → now.catalog ≡ before.catalog → now.shape ≡ before.shape → now.rooms ≡ before.rooms → IsReady g old before → DoesStatement g old new before now (bound.Reclaim place) (said.Done reply.Done)
  reclaimed_does reclaims space sound stands_for works touches same_count catalog shape rooms ready =
      let room = rooms_at before.rooms place in
      let mid_ready = ready_mid g old old new before now place def served at {room = room} refl refl refl ready in
      let owners = mid_ready.owners in
      let forests = mid_ready.forests in
      let st = mid_ready.between.ready.stands in
      let r = reclaims owners forests st in
      let less = space owners forests st in
      let longer : length (pages_of g old) ≤ length (pages_of g new) = omega (arith, same_count) in
      let wide = touches_wider touches (in_space g before.shape old def) in
      rows_done g old old new before now place def served at {room = room} refl refl refl ready owners forests mid_ready.between (bound.Reclaim place) (λ (table : PlainTable). table) {room_now = room} (ap (λ rooms. rooms_at rooms place) rooms)
      (record {
        owners_now = r.owners_now;
        forests_now = r.forests_now;
        changes = r.changes;
        now = record {
          ready = record { stands = r.changes.stands; notes = r.changes.notes mid_ready.between.ready.notes; rooms = r.rooms room mid_ready.between.ready.rooms };
          sound = sound owners forests st mid_ready.between.sound;
        };
        stands_for = λ db stands.
            subst (PagesStandFor before.shape (with_table_page def (pages_of g new))) (sym (changed_at-itself db def.number)) (stands_for owners forests st mid_ready.between.sound db stands);
        table_pages = table_pages_kept g before.shape old new def owners forests st works wide;
        others = others_kept g before.shape old new def owners r.owners_now forests r.forests_now mid_ready.between.sound.sound st r.changes wide longer;
      }) less.changes (PlacesRows.reclaim r.spots less.each) less.makes catalog shape (λ other apart. ap (λ rooms. rooms_at rooms other) rooms)
      (keeps_fewer before.shape (pages_of g old) ready.view place (λ (table : PlainTable). table) (λ row. true) ready.sound (λ db stands table is. ap (λ rows. record table { rows = rows }) (sym (kept_all table.rows))))
      (said.Done reply.Done) refl (λ db stands. (changed_at-itself db place, refl))

-- damage that is met in doing so
pub runs_reclaimed : {S : Type 0} {Mine Kind : ℕ → Type 0} {fault : Option StoreFault} (g : Ghosts S) (old new : S) (before : Tables) (place : ℕ) (def : TableDef) → AreServed before.catalog → def_at before.catalog place ≡ Some def
    → RunsOverPages g Mine Kind (BreaksTable g before.shape old def) old new fault → RunsOverPages g AnyPage AnyPage (BreaksDatabase g old before) old new fault
runs_reclaimed g old new before place def served at run =
    runs_wider run (λ p there mine. tt) (λ p kind. tt)
    (λ damage breaks ready. let st = stands_ready g old before place def served ready at in breaks.broken st.owners st.forests st.stands)
