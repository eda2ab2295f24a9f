-- What placing a row says of a table, behind a call that left the work as it was.
use Rattle.std.proofs.Common.{◌≡◌, List, refl, sym, subst}
use Rattle.std.specs.Prelude.{IfErr, Result, Ok, Err}
use Rattle.mdc_words.specs.ByteOrder.{Entry}
use Rattle.mdc_values.specs.declared.rid.Rid.{Rid}
use Rattle.mdc_ast.specs.declared.definition.TableDef.{TableDef}
use Rattle.mdc_ast.specs.declared.row.Row.{Row}
use Rattle.store_api.specs.declared.pages.Pages.{Ghosts}
use Rattle.store_api.specs.declared.shape.Shape.{Shape}
use Rattle.extent_map.specs.Damages.{IfFull}
use Rattle.extent_map.specs.declared.fault.SpaceFault.{SpaceFault}
use Rattle.extent_map.specs.declared.fault.SpaceFault.TheVariants.{Full, Store}
use Rattle.extent_map.specs.declared.kind.Kind.{Kind}
use Rattle.extent_map.specs.declared.space_notes.SpaceNotes.{SpaceNotes}
use Rattle.table_trees.specs.ToldPages.{PageList}
use Rattle.mdc_sound.specs.Placing.{HasRoomFor, HoldsNowhere, PutsRow, block_slot_count, table_spots}
use Rattle.mdc_sound.specs.RunningFull.{RowRunsFull}
use Rattle.mdc_sound.specs.StandingTable.{AreRightRooms, IsReadyTable, PlacesRow, RoomNote, TableForests}
use Rattle.mdc_sound.proofs.StandingTableLemmas.{stands_same}
use Rattle.mdc_table.specs.NextBlock.{FindsNoPlace}
use Rattle.mdc_table.specs.RowSteps.{PlacesRowInTable}
use Rattle.mdc_table.proofs.AnyPlaceLemmas.{anywhere_along}
use Rattle.mdc_table.proofs.KeptBlocksLemmas.{keeps_along}
use Rattle.mdc_table.proofs.PlacingRowsLemmas.{changes_along}
use Rattle.mdc_table.proofs.RowSpaceLemmas.{block_makes_along}

module _ {S : Type 0} (g : Ghosts S) (shape : Shape) (before noted : SpaceNotes) (old mid new : S) (def : TableDef) (told : (g.state mid).is_told ≡ (g.state old).is_told) (same : (g.state mid).work ≡ (g.state old).work)
    (from : Entry → RoomNote) where
  -- the table is ready there as well
  ready_along : (owners : List Kind) (forests : TableForests) → IsReadyTable g shape before from old def owners forests → IsReadyTable g shape before from mid def owners forests
  ready_along owners forests ready = record {
    stands = stands_same shape old mid def owners forests told same ready.stands;
    notes = ready.notes;
    rooms = subst (λ (pages : PageList). AreRightRooms def from (table_spots shape pages def owners forests.map)) (sym same) ready.rooms;
  }

  -- the row was placed by placing
  placed_along : (now : Entry → RoomNote) (row : Row) (rid : Rid) (owners : List Kind) (forests : TableForests) → PlacesRow g shape before noted now mid new def owners forests row rid
      → PlacesRow g shape before noted now old new def owners forests row rid
  placed_along now row rid owners forests places = record {
    owners_now = places.owners_now;
    forests_now = places.forests_now;
    changes = changes_along shape before noted old mid new def owners forests told same places.owners_now places.forests_now places.changes;
    records = places.records;
    rooms = places.rooms;
    mid = places.mid;
    puts = subst (λ (pages : PageList). PutsRow def (block_slot_count shape def) (table_spots shape pages def owners forests.map) row places.mid rid) same places.puts;
    claims = places.claims;
  }

  -- and so all holds that is said of it
  pub in_table_along : (now : Entry → RoomNote) (row : Row) (rid : Rid) (owners : List Kind) (forests : TableForests) → PlacesRowInTable g shape before noted from now mid new def row rid owners forests
      → PlacesRowInTable g shape before noted from now old new def row rid owners forests
  in_table_along now row rid owners forests placed = record {
    anywhere = anywhere_along shape def row before noted old mid new told same owners forests rid placed.anywhere;
    stay = keeps_along shape old mid new def owners forests told same (λ block. block ≡ rid.block) placed.stay;
    places = λ ready. placed_along now row rid owners forests (placed.places (ready_along owners forests ready));
    makes = λ ready. block_makes_along g shape old mid new def row told same owners forests rid.block rid.block refl (placed.makes (ready_along owners forests ready));
  }

  -- or there is no place for it
  no_place_along : (row : Row) (owners : List Kind) (forests : TableForests) → FindsNoPlace g shape mid new def row owners forests → FindsNoPlace g shape old new def row owners forests
  no_place_along row owners forests finds = record {
    no_room = subst (λ (pages : PageList). HoldsNowhere (HasRoomFor def row) (table_spots shape pages def owners forests.map)) same finds.no_room;
    runs_full = subst (λ (pages : PageList). RowRunsFull shape pages def (table_spots shape pages def owners forests.map) row) same finds.runs_full;
    none_free = finds.none_free;
  }

  pub no_place_result_along : {X : Type 0} (row : Row) (result : Result X SpaceFault)
      → IfErr result (λ fault. IfFull fault (λ cap. (cap ≡ shape.extents) × ((owners : List Kind) (forests : TableForests) → IsReadyTable g shape before from mid def owners forests → FindsNoPlace g shape mid new def row owners forests)))
      → IfErr result (λ fault. IfFull fault (λ cap. (cap ≡ shape.extents) × ((owners : List Kind) (forests : TableForests) → IsReadyTable g shape before from old def owners forests → FindsNoPlace g shape old new def row owners forests)))
  no_place_result_along row (Ok x) full = tt
  no_place_result_along row (Err (Full cap)) full = (full.0, λ owners forests ready. no_place_along row owners forests (full.1 owners forests (ready_along owners forests ready)))
  no_place_result_along row (Err (Store fault)) full = tt
