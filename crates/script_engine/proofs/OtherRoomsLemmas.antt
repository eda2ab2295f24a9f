-- Notes of where rows of a table find room stay right, where another table was changed.
use Rattle.std.proofs.Common.{◌≡◌, ◌≢◌, ℕ, zero, suc, List, [], ◌∷◌, Some, map, refl, sym, ap, ◌∙◌, subst, inl, inr}
use Rattle.std.specs.Prelude.{IsTrue, slice_index_or}
use Rattle.std.proofs.lemmas.Bool.{cases_eq}
use Rattle.mdc_words.specs.ByteOrder.{Entry}
use Rattle.mdc_ast.specs.declared.definition.TableDef.{TableDef}
use Rattle.mdc_ast.specs.Definitions.{def_at}
use Rattle.store_api.specs.declared.pages.Pages.{Ghosts}
use Rattle.store_api.specs.declared.shape.Shape.{Shape}
use Rattle.extent_map.specs.Owners.{AreRightNotes}
use Rattle.mdc_sound.specs.Placing.{Spot}
use Rattle.mdc_sound.specs.Placing.Spot.{FreeBlock, FreeExtent, IndexExtent, OtherBlock, PendingBlock, UsedBlock}
use Rattle.mdc_sound.specs.SoundDatabase.{KeepAllRules}
use Rattle.mdc_sound.specs.SpaceRules.{DatabaseView}
use Rattle.mdc_sound.specs.StandingTable.{AreRightRooms, HoldsKey, IsReadyTable, RoomNote, TableForests, pages_of, spots_of}
use Rattle.free_space.specs.RoomNotes.{no_note}
use Rattle.cell_change.proofs.ChangedSpaceLemmas.{shows_spots}
use Rattle.stored_catalog.specs.StoredDefinitions.{AreStored}
use Rattle.stored_catalog.proofs.LeftDefinitionsLemmas.{stored_at}
use Rattle.statement_rows.specs.OtherTables.{KeepsTableBlocks, own_spot}
use Rattle.statement_rows.proofs.ShownSpotsLemmas.{shown_spots}
use Rattle.script_engine.specs.NotedRooms.{KeepsOtherRooms, rooms_at}
use Rattle.script_engine.specs.Ready.{AreServed, IsReady}
use Rattle.script_engine.specs.declared.tables.Tables.{Tables}
use Rattle.script_engine.proofs.BetweenChangesLemmas.{ready_table}
use Rattle.script_engine.proofs.ServedDefsLemmas.{served_below}

-- ---- the same blocks

-- a spot that is a Used block, as far as it is a block of the table, is that block
used_is : (spot : Spot) (slots : _) → own_spot spot ≡ UsedBlock slots → spot ≡ UsedBlock slots
used_is FreeExtent slots is = absurd cc
used_is IndexExtent slots is = absurd cc
used_is OtherBlock slots is = is
used_is FreeBlock slots is = is
used_is PendingBlock slots is = is
used_is (UsedBlock own) slots is = is

-- a key that one spot holds is held by a spot that is the same block
holds_same : (def : TableDef) (key : Entry) (was is : Spot) → own_spot is ≡ own_spot was → HoldsKey def key was → HoldsKey def key is
holds_same def key FreeExtent is same held = absurd held
holds_same def key IndexExtent is same held = absurd held
holds_same def key OtherBlock is same held = absurd held
holds_same def key FreeBlock is same held = absurd held
holds_same def key PendingBlock is same held = absurd held
holds_same def key (UsedBlock slots) is same held = subst (HoldsKey def key) (sym (used_is is slots same)) held

-- one spot of all
own_at : (spots : List Spot) (block : ℕ) → slice_index_or (map own_spot spots) block OtherBlock ≡ own_spot (slice_index_or spots block OtherBlock)
own_at [] block = refl
own_at (spot ∷ spots) zero = refl
own_at (spot ∷ spots) (suc block) = own_at spots block

-- notes that are right are right of the same blocks
pub rooms_kept : (def : TableDef) (room_of : Entry → RoomNote) (was is : List Spot) → map own_spot is ≡ map own_spot was → AreRightRooms def room_of was → AreRightRooms def room_of is
rooms_kept def room_of was is same right =
    let each : (block : ℕ) → own_spot (slice_index_or is block OtherBlock) ≡ own_spot (slice_index_or was block OtherBlock) =
    λ block. sym (own_at is block) ∙ (ap (λ spots. slice_index_or spots block OtherBlock) same ∙ own_at was block) in
    record {
      full = λ block row slots at holds low free.
          right.full block row slots (used_is (slice_index_or was block OtherBlock) slots (sym (each block) ∙ ap own_spot at)) holds low free;
      of_cell = λ key known.
          holds_same def key (slice_index_or was (room_of key).from OtherBlock) (slice_index_or is (room_of key).from OtherBlock) (each (room_of key).from) (right.of_cell key known);
    }

-- ---- pages that are ready again

-- Sound pages, whose table pages the catalog has, behind a change of the table in one place: the tables in all other places are
-- ready, since their blocks and what is noted of them stayed.
module _ {S : Type 0} (g : Ghosts S) (old new : S) (before now : Tables) (view : DatabaseView) (served : AreServed before.catalog) (shape : now.shape ≡ before.shape) (ready : IsReady g old before) (told : IsTrue (g.state new).is_told)
    (sound : KeepAllRules before.shape (pages_of g new) view) (stored : AreStored (pages_of g new) now.catalog) (notes : AreRightNotes before.shape now.notes view.owners) where
  table_beside : (t : ℕ) (def : TableDef) → def_at before.catalog t ≡ Some def → def_at now.catalog t ≡ Some def → KeepsTableBlocks before.shape (pages_of g old) (pages_of g new) def
      → rooms_at now.rooms t ≡ rooms_at before.rooms t → (forests : TableForests) × IsReadyTable g before.shape now.notes (rooms_at now.rooms t) new def view.owners forests
  table_beside t def was_at at keeps same =
      let was = ready.rooms t def was_at in
      let is =
      ready_table g before.shape now.notes new view t def (λ key. no_note) told sound notes (served_below before.catalog t def served was_at) (stored_at (pages_of g new) now.catalog t def stored at) (λ key. refl) in
      let spots : List Spot = spots_of g before.shape old def ready.view.owners was.0 in
      let after = keeps spots (shows_spots g before.shape old def ready.view.owners was.0 was.1.stands) in
      let here : after.0 ≡ spots_of g before.shape new def view.owners is.0 = shown_spots g before.shape new def view.owners is.0 after.0 is.1.stands after.1 in (
        is.0,
        record {
          stands = is.1.stands;
          notes = notes;
          rooms = subst (λ (room_of : Entry → RoomNote). AreRightRooms def room_of (spots_of g before.shape new def view.owners is.0)) (sym same)
              (subst (AreRightRooms def (rooms_at before.rooms t)) here (rooms_kept def (rooms_at before.rooms t) spots after.0 after.2 was.1.rooms));
        },
      )

  pub ready_beside : (place : ℕ) → ((t : ℕ) → t ≢ place → def_at now.catalog t ≡ def_at before.catalog t)
      → ((t : ℕ) (other : TableDef) → t ≢ place → def_at before.catalog t ≡ Some other → KeepsTableBlocks before.shape (pages_of g old) (pages_of g new) other)
      → KeepsOtherRooms before.rooms now.rooms place
      → ((def : TableDef) → def_at now.catalog place ≡ Some def → (forests : TableForests) × IsReadyTable g before.shape now.notes (rooms_at now.rooms place) new def view.owners forests)
      → IsReady g new now
  ready_beside place still keeps rooms here = record {
    told = told;
    view = view;
    sound = subst (λ (is : Shape). KeepAllRules is (pages_of g new) view) (sym shape) sound;
    stored = stored;
    notes = subst (λ (is : Shape). AreRightNotes is now.notes view.owners) (sym shape) notes;
    rooms = λ t def at. subst (λ (is : Shape). (forests : TableForests) × IsReadyTable g is now.notes (rooms_at now.rooms t) new def view.owners forests) (sym shape) (elim (cases_eq t place) [
      | inl e ↦
          subst (λ (u : ℕ). (forests : TableForests) × IsReadyTable g before.shape now.notes (rooms_at now.rooms u) new def view.owners forests) (sym e) (here def (ap (def_at now.catalog) (sym e) ∙ at))
      | inr apart ↦ let was_at = sym (still t apart) ∙ at in table_beside t def was_at at (keeps t def apart was_at) (rooms t apart)
    ]);
  }
