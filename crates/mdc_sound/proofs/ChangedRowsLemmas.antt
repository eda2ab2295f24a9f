-- What calls on a table's rows make of all of its rows, where the table stands.
use Rattle.std.proofs.Common.{◌<◌, ◌≤◌, ◌*◌, ℕ, List, ◌∷◌, arith, subst}
use Rattle.std.specs.Prelude.{IsPermutation}
use Rattle.std.proofs.Math.Nat.{mul-le-mul}
use Rattle.std.proofs.lemmas.List.Sorted.{IsPermutation-cons, IsPermutation-sym, IsPermutation-trans}
use Rattle.mdc_values.specs.declared.rid.Rid.{Rid}
use Rattle.mdc_ast.specs.declared.definition.TableDef.{TableDef}
use Rattle.mdc_ast.specs.declared.row.Row.{Row}
use Rattle.mdc_words.specs.ByteOrder.{Entry}
use Rattle.store_api.specs.declared.pages.Pages.{Ghosts}
use Rattle.store_api.specs.declared.shape.Shape.{Shape}
use Rattle.extent_map.specs.declared.kind.Kind.{Kind}
use Rattle.extent_map.specs.declared.space_notes.SpaceNotes.{SpaceNotes}
use Rattle.extent_map.proofs.ExtentsLemmas.{extent_limits}
use Rattle.row_page.specs.RowPage.{slot_count}
use Rattle.row_page.proofs.RowPageLemmas.{slot_count-ge}
use Rattle.mdc_ast.specs.TableLimits.{IsTableDef}
use Rattle.mdc_sound.specs.Placing.{block_slot_count, rows_from_spot}
use Rattle.mdc_sound.specs.StandingTable.{OverwritesRow, PlacesRow, RoomNote, StandsTable, TableForests, TakesRowOut, pages_of, spots_of}
use Rattle.mdc_sound.specs.TableRows.{PlacedRow, rows_in_table}
use Rattle.mdc_sound.proofs.PlacingLemmas.{placed_at, rows_claimed, rows_overwritten, rows_put, rows_returned, rows_taken}
use Rattle.mdc_sound.proofs.TableSpotRowsLemmas.{rows_of_spots}

-- a block has a slot at least
pub some_slots : (shape : Shape) (t : ℕ) (def : TableDef) → IsTableDef t def → 0 < block_slot_count shape def
some_slots shape t def is =
    let slots : 4 ≤ slot_count def.columns = slot_count-ge def.columns (record { few = is.columns.few; narrow = is.columns.narrow }) in
    product shape.extent_pages (slot_count def.columns) (omega (arith, (extent_limits shape).0)) (omega (arith, slots))
  where
    product : (a b : ℕ) → 1 ≤ a → 1 ≤ b → 0 < a * b
    product a b some more = let least : 1 * 1 ≤ a * b = mul-le-mul some more in omega (arith, least)

module _ {S : Type 0} (g : Ghosts S) where
  -- the rows of the spots of a table that stands are those of the table
  pub rows_of_standing : (shape : Shape) (s : S) (def : TableDef) (owners : List Kind) (forests : TableForests) → StandsTable g shape s def owners forests
      → IsPermutation (rows_in_table shape (pages_of g s) def forests.map) (rows_from_spot 0 (spots_of g shape s def owners forests))
  rows_of_standing shape s def owners forests st = rows_of_spots shape (pages_of g s) def owners forests.map st.map

  module _ (shape : Shape) (room_of : Entry → RoomNote) (old new : S) (def : TableDef) (owners : List Kind) (forests : TableForests) (st : StandsTable g shape old def owners forests) where
    -- the rows now are the placed one and those before
    pub rows_after_placing : {before noted : SpaceNotes} (t : ℕ) (row : Row) (rid : Rid) → IsTableDef t def → (places : PlacesRow g shape before noted room_of old new def owners forests row rid)
        → IsPermutation (placed_at rid row ∷ rows_in_table shape (pages_of g old) def forests.map) (rows_in_table shape (pages_of g new) def places.forests_now.map)
    rows_after_placing t row rid is places =
        let were = rows_in_table shape (pages_of g old) def forests.map in
        let old_spots = spots_of g shape old def owners forests in
        let new_spots = spots_of g shape new def places.owners_now places.forests_now in
        let now = rows_in_table shape (pages_of g new) def places.forests_now.map in
        let first : IsPermutation (placed_at rid row ∷ were) (placed_at rid row ∷ rows_from_spot 0 old_spots) = IsPermutation-cons (placed_at rid row) were (rows_from_spot 0 old_spots) (rows_of_standing shape old def owners forests st) in
        let put : IsPermutation (placed_at rid row ∷ rows_from_spot 0 old_spots) (rows_from_spot 0 new_spots) =
        subst (IsPermutation (placed_at rid row ∷ rows_from_spot 0 old_spots)) (rows_claimed 0 places.mid new_spots places.claims) (rows_put def (block_slot_count shape def) old_spots places.mid row rid (some_slots shape t def is) places.puts) in
        let last : IsPermutation (rows_from_spot 0 new_spots) now = IsPermutation-sym now (rows_from_spot 0 new_spots) (rows_of_standing shape new def places.owners_now places.forests_now places.changes.stands) in
        IsPermutation-trans (placed_at rid row ∷ were) (placed_at rid row ∷ rows_from_spot 0 old_spots) now first (IsPermutation-trans (placed_at rid row ∷ rows_from_spot 0 old_spots) (rows_from_spot 0 new_spots) now put last)

    -- the rows before were the one taken out and those now
    pub rows_after_taking : {before noted : SpaceNotes} (row : Row) (rid : Rid) → (takes : TakesRowOut g shape before noted room_of old new def owners forests row rid)
        → IsPermutation (placed_at rid row ∷ rows_in_table shape (pages_of g new) def takes.forests_now.map) (rows_in_table shape (pages_of g old) def forests.map)
    rows_after_taking row rid takes =
        let were = rows_in_table shape (pages_of g old) def forests.map in
        let old_spots = spots_of g shape old def owners forests in
        let new_spots = spots_of g shape new def takes.owners_now takes.forests_now in
        let now = rows_in_table shape (pages_of g new) def takes.forests_now.map in
        let first : IsPermutation (placed_at rid row ∷ now) (placed_at rid row ∷ rows_from_spot 0 new_spots) = IsPermutation-cons (placed_at rid row) now (rows_from_spot 0 new_spots) (rows_of_standing shape new def takes.owners_now takes.forests_now takes.changes.stands) in
        let taken : IsPermutation (placed_at rid row ∷ rows_from_spot 0 new_spots) (rows_from_spot 0 old_spots) =
        subst (λ rows. IsPermutation (placed_at rid row ∷ rows) (rows_from_spot 0 old_spots)) (rows_returned 0 takes.mid new_spots takes.returns) (rows_taken old_spots takes.mid rid row takes.takes) in
        let last : IsPermutation (rows_from_spot 0 old_spots) were = IsPermutation-sym were (rows_from_spot 0 old_spots) (rows_of_standing shape old def owners forests st) in
        IsPermutation-trans (placed_at rid row ∷ now) (placed_at rid row ∷ rows_from_spot 0 new_spots) were first (IsPermutation-trans (placed_at rid row ∷ rows_from_spot 0 new_spots) (rows_from_spot 0 old_spots) were taken last)

    -- some rows stay, beside the one that became another
    pub rows_after_overwriting : {before noted : SpaceNotes} (row other : Row) (rid : Rid) → (over : OverwritesRow g shape before noted room_of old new def owners forests row other rid)
        → (stay : List PlacedRow) × IsPermutation (placed_at rid row ∷ stay) (rows_in_table shape (pages_of g old) def forests.map)
        × IsPermutation (placed_at rid other ∷ stay) (rows_in_table shape (pages_of g new) def forests.map)
    rows_after_overwriting row other rid over =
        let were = rows_in_table shape (pages_of g old) def forests.map in
        let old_spots = spots_of g shape old def owners forests in
        let new_spots = spots_of g shape new def owners forests in
        let now = rows_in_table shape (pages_of g new) def forests.map in
        let turns = rows_overwritten old_spots new_spots rid row other over.slots over.lay over.spots in (
          turns.stay,
          IsPermutation-trans (placed_at rid row ∷ turns.stay) (rows_from_spot 0 old_spots) were turns.were (IsPermutation-sym were (rows_from_spot 0 old_spots) (rows_of_standing shape old def owners forests st)),
          IsPermutation-trans (placed_at rid other ∷ turns.stay) (rows_from_spot 0 new_spots) now turns.are (IsPermutation-sym now (rows_from_spot 0 new_spots) (rows_of_standing shape new def owners forests over.changes.stands)),
        )
