-- A row that became another where it moves: taken out, and then put.
use Rattle.std.proofs.Common.{◌≡◌, ◌≤◌, ℕ, List, [], ◌∷◌, None, length}
use Rattle.mdc_words.specs.ByteOrder.{Entry}
use Rattle.mdc_values.specs.declared.rid.Rid.{Rid}
use Rattle.mdc_ast.specs.declared.definition.TableDef.{TableDef}
use Rattle.mdc_ast.specs.declared.row.Row.{Row}
use Rattle.store_api.specs.declared.pages.Pages.{Ghosts}
use Rattle.store_api.specs.declared.shape.Shape.{Shape}
use Rattle.extent_map.specs.Damages.{IfFull}
use Rattle.extent_map.specs.Owners.{owner_of}
use Rattle.extent_map.specs.declared.fault.SpaceFault.{SpaceFault}
use Rattle.extent_map.specs.declared.fault.SpaceFault.TheVariants.{Full, Store}
use Rattle.extent_map.specs.declared.kind.Kind.{Kind}
use Rattle.extent_map.specs.declared.space_notes.SpaceNotes.{SpaceNotes}
use Rattle.table_trees.specs.RowCells.{AreOfOneCell}
use Rattle.table_trees.specs.TreesBeside.{table_of_block}
use Rattle.mdc_sound.specs.Placing.{ChangesRow, Spot, SpotsAfterClaims, SpotsAfterReturns}
use Rattle.mdc_sound.specs.StandingTable.{IsReadyTable, KeepsBlocksBut, RoomNote, StandsTable, TableForests, pages_of, spots_of}
use Rattle.table_blocks.proofs.SpotChangesLemmas.{claims_change, returns_change}
use Rattle.cell_change.specs.RowChanges.{ChangesOneRow, DeletesRow, InsertsRow, MakesOneChange, TurnsEntries, rows_now}
use Rattle.cell_change.proofs.KeptOthersLemmas.{keeps_then}
use Rattle.cell_change.proofs.TableStepsLemmas.{changes_table_then, takes_no_block}

-- ---- what Full states

pub full_as : (fault : SpaceFault) (P Q : ℕ → Type 0) → ((cap : ℕ) → P cap → Q cap) → IfFull fault P → IfFull fault Q
full_as (Full cap) P Q as_well is = as_well cap is
full_as (Store fault) P Q as_well is = tt

-- ---- no change of spots

pub same_claims : (spots : List Spot) → SpotsAfterClaims spots spots
same_claims [] = tt
same_claims (spot ∷ spots) = (claims_change.stays spot, same_claims spots)

pub same_returns : (spots : List Spot) → SpotsAfterReturns spots spots
same_returns [] = tt
same_returns (spot ∷ spots) = (returns_change.stays spot, same_returns spots)

-- ---- taken out, and then put

module _ {S : Type 0} (g : Ghosts S) (shape : Shape) {before mid : SpaceNotes} {room_of room_mid : Entry → RoomNote} (old middle : S) (def : TableDef) (row : Row) (rid : Rid) (owners : List Kind) (forests : TableForests)
    (deletes : DeletesRow g shape before mid room_of room_mid old middle def row rid owners forests) where
  -- the table is ready once the row is out
  pub ready_then : IsReadyTable g shape before room_of old def owners forests → IsReadyTable g shape mid room_mid middle def deletes.owners_now deletes.forests_now
  ready_then ready = record { stands = deletes.changes.stands; notes = deletes.changes.notes ready.notes; rooms = deletes.rooms ready }

  -- and no block was given up
  deleted_no_block : StandsTable g shape old def owners forests → (e : ℕ) → table_of_block (owner_of deletes.owners_now e) ≡ None → table_of_block (owner_of owners e) ≡ None
  deleted_no_block st = takes_no_block g shape old middle def owners forests st deletes.owners_now deletes.forests_now deletes.mid row rid deletes.takes deletes.returns

  pub moves : {noted : SpaceNotes} {room_now : Entry → RoomNote} (new : S) (other : Row) (to : Rid) → (inserts : InsertsRow g shape mid noted room_now middle new def other to deletes.owners_now deletes.forests_now)
      → StandsTable g shape old def owners forests → (AreOfOneCell def row.values other.values → ⊥) → length (pages_of g old) ≤ length (pages_of g middle) → length (pages_of g middle) ≤ length (pages_of g new)
      → MakesOneChange g shape old new def row other rid owners forests (spots_of g shape new def inserts.owners_now inserts.forests_now)
      → KeepsBlocksBut g shape old middle def owners (λ block. block ≡ rid.block) → ChangesOneRow g shape before noted room_now old new def row other rid to owners forests
  moves new other to inserts st apart longer still_longer space stay = record {
    owners_now = inserts.owners_now;
    forests_now = inserts.forests_now;
    changes = changes_table_then g shape old middle def owners forests deletes.owners_now deletes.forests_now deletes.changes new inserts.owners_now inserts.forests_now inserts.changes (deleted_no_block st) longer still_longer;
    entries = TurnsEntries.moves deletes.forests_now.indexes to apart deletes.entries inserts.entries;
    rooms = inserts.rooms;
    mid = inserts.mid;
    turns = ChangesRow.moves deletes.mid (spots_of g shape middle def deletes.owners_now deletes.forests_now) to apart deletes.takes deletes.returns inserts.puts;
    claims = inserts.claims;
    stay = rows_now g shape middle def deletes.forests_now;
    were = deletes.rows;
    are = inserts.rows;
    space = space;
    blocks = keeps_then deletes.changes (deleted_no_block st) stay inserts.blocks;
  }
