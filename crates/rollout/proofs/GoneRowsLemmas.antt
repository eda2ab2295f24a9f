-- The rows that a rollout took out are those that qualify, each with its place.
use Rattle.std.proofs.Common.{◌≡◌, ◌∙◌, ◌++◌, List, ◌∷◌, None, true, false, get_or, set, refl, sym, ap, arith, inl, inr}
use Rattle.std.specs.Prelude.{Contains, Option, slice_index_or}
use Rattle.std.proofs.lemmas.Bool.{false≢true}
use Rattle.std.proofs.lemmas.List.{get_or_default}
use Rattle.std.proofs.lemmas.List.Elements.{Contains-append_cases}
use Rattle.std.proofs.lemmas.List.Sorted.{Contains-permutation, IsPermutation-sym}
use Rattle.mdc_words.specs.ByteOrder.{Entry}
use Rattle.mdc_ast.specs.declared.definition.TableDef.{TableDef}
use Rattle.mdc_ast.specs.declared.predicate.Pred.{Pred}
use Rattle.store_api.specs.declared.pages.Pages.{Ghosts}
use Rattle.store_api.specs.declared.shape.Shape.{Shape}
use Rattle.extent_map.specs.declared.kind.Kind.{Kind}
use Rattle.extent_map.specs.declared.space_notes.SpaceNotes.{SpaceNotes}
use Rattle.block_map.specs.MapLines.{used_blocks}
use Rattle.mdc_sound.specs.Placing.{IsRowAt, left_with, rows_from_spot}
use Rattle.mdc_sound.specs.Placing.Spot.{OtherBlock}
use Rattle.mdc_sound.specs.StandingTable.{RoomNote, StandsTable, TableForests, pages_of, spots_of}
use Rattle.mdc_sound.specs.TableRows.{PlacedRow, block_slots, rows_in_block, rows_in_table}
use Rattle.mdc_sound.proofs.BlockRulesLemmas.{each_of}
use Rattle.mdc_sound.proofs.ChangedRowsLemmas.{rows_of_standing}
use Rattle.mdc_sound.proofs.ElementsLemmas.{flat_contains}
use Rattle.mdc_sound.proofs.PlacingLemmas.{placed_at, rows_taken}
use Rattle.mdc_sound.proofs.TableSpotsLemmas.{used_spot}
use Rattle.mdc_table.proofs.KeptRoomsLemmas.{used_below}
use Rattle.row_entries.proofs.PlacesApartLemmas.{in_slot}
use Rattle.rollout.specs.RolledBlocks.{RollsOutRows, is_chosen}
use Rattle.rollout.specs.RowByRow.{AreChosenRows, LiesIn}
use Rattle.rollout.specs.declared.rolling.RolledOut.{RolledOut}
use Rattle.rollout.proofs.ChosenBlocksLemmas.{in_front}

module _ {S : Type 0} (g : Ghosts S) (shape : Shape) (s : S) (def : TableDef) (owners : List Kind) (forests : TableForests) (st : StandsTable g shape s def owners forests) where
  -- a row of the table lies in its place
  lies_in : (placed : PlacedRow) → Contains (rows_in_table shape (pages_of g s) def forests.map) placed → LiesIn (spots_of g shape s def owners forests) placed.rid placed.row
  lies_in placed there =
      let b = flat_contains (rows_in_block shape (pages_of g s) def) (used_blocks forests.map) placed there in
      let slots = block_slots shape (pages_of g s) def b.0 in
      let place = in_slot b.0 0 slots placed b.2 in
      record {
        slots = slots;
        block = ap (λ n. slice_index_or (spots_of g shape s def owners forests) n OtherBlock) place.block_is ∙ used_spot shape (pages_of g s) def owners forests.map b.0 OtherBlock st.map b.1;
        slot = ap (λ n. get_or slots n None) (let same : placed.rid.slot ≡ place.place = omega (arith, place.slot_is) in same) ∙ place.row_is;
      }

  -- and what lies in a place is a row of the table
  in_table : (placed : PlacedRow) → LiesIn (spots_of g shape s def owners forests) placed.rid placed.row → Contains (rows_in_table shape (pages_of g s) def forests.map) placed
  in_table placed lies =
      let spots = spots_of g shape s def owners forests in
      let low = used_below spots placed.rid.block lies.slots lies.block in
      let left = set spots placed.rid.block (left_with (set lies.slots placed.rid.slot None)) in
      let at : IsRowAt spots placed.rid placed.row lies.slots = record { within = low; block = λ d. get_or_default spots placed.rid.block d OtherBlock low ∙ lies.block; slot = lies.slot } in
      let taken = rows_taken spots left placed.rid placed.row (record { slots = lies.slots; lies = at; is_left = refl }) in
      Contains-permutation (rows_from_spot 0 spots) (rows_in_table shape (pages_of g s) def forests.map) placed
      (IsPermutation-sym (rows_in_table shape (pages_of g s) def forests.map) (rows_from_spot 0 spots) (rows_of_standing g shape s def owners forests st))
      (Contains-permutation (placed_at placed.rid placed.row ∷ rows_from_spot 0 left) (rows_from_spot 0 spots) placed taken (0, omega arith, refl))

pub gone_chosen : {S : Type 0} (g : Ghosts S) (shape : Shape) {before noted : SpaceNotes} {room_of : Entry → RoomNote} (old new : S) (def : TableDef) (pred : Option Pred) (rolled : RolledOut) (owners : List Kind) (forests : TableForests)
    → StandsTable g shape old def owners forests → (rolls : RollsOutRows g shape before noted room_of old new def pred rolled owners forests) → AreChosenRows (is_chosen pred) (spots_of g shape old def owners forests) rolls.gone
gone_chosen g shape old new def pred rolled owners forests st rolls = record {
  lie = λ placed there. (
    lies_in g shape old def owners forests st placed (Contains-permutation (rolls.gone ++ are) were placed rolls.rows (in_front rolls.gone are placed there)),
    each_of (λ (p : PlacedRow). is_chosen pred p.row ≡ true) rolls.gone placed rolls.qualify there,
  );
  all = λ placed lies such. elim (Contains-append_cases rolls.gone are placed (Contains-permutation were (rolls.gone ++ are) placed (IsPermutation-sym (rolls.gone ++ are) were rolls.rows) (in_table g shape old def owners forests st placed lies))) [
    | inl went ↦ went
    | inr stays ↦ absurd (false≢true (sym (each_of (λ (p : PlacedRow). is_chosen pred p.row ≡ false) are placed rolls.others stays) ∙ such))
  ];
}
  where
    were : List PlacedRow
    were = rows_in_table shape (pages_of g old) def forests.map

    are : List PlacedRow
    are = rows_in_table shape (pages_of g new) def rolls.forests_now.map
