-- Rows that are taken out one after the other, beside a rollout of their blocks.
use Rattle.std.specs.Prelude.{◌≡◌, ◌↔◌, ℕ, Bool, IsTrue, List, [], ◌∷◌, Contains, Option, Some, None, slice_index_or}
use Rattle.mdc_words.specs.ByteOrder.{Entry}
use Rattle.mdc_values.specs.declared.rid.Rid.{Rid}
use Rattle.mdc_ast.specs.declared.definition.TableDef.{TableDef}
use Rattle.mdc_ast.specs.declared.row.Row.{Row}
use Rattle.store_api.specs.declared.pages.Pages.{Ghosts}
use Rattle.store_api.specs.declared.shape.Shape.{Shape}
use Rattle.extent_map.specs.declared.kind.Kind.{Kind}
use Rattle.extent_map.specs.declared.space_notes.SpaceNotes.{SpaceNotes}
use Rattle.entry_tree.specs.EntryBounds.{IsEntryOf}
use Rattle.entry_tree.specs.Forest.{Forest, leaf_entries}
use Rattle.mdc_sound.specs.Placing.{Spot, SpotsAfterReturns, TakesRow}
use Rattle.mdc_sound.specs.Placing.Spot.{OtherBlock, UsedBlock}
use Rattle.mdc_sound.specs.StandingTable.{RoomNote, TableForests}
use Rattle.mdc_sound.specs.TableRows.{PlacedRow}
use Rattle.cell_change.specs.RowChanges.{DeletesRow}

-- Each row was taken out, one after the other, and behind each trees may have given extents back.
pub data TakesRows : List Spot → List PlacedRow → List Spot → Type 0 where
  none : {spots : List Spot} → TakesRows spots [] spots
  one : {old mid next new : List Spot} {rows : List PlacedRow} (placed : PlacedRow) → TakesRow old placed.rid placed.row mid → SpotsAfterReturns mid next → TakesRows next rows new → TakesRows old (placed ∷ rows) new

-- Rows of a table deleted one after the other, each by a call of its own.
pub data DeletesRows {S : Type 0} (g : Ghosts S) (shape : Shape) (def : TableDef) : S → List Kind → TableForests → List PlacedRow → S → List Kind → TableForests → Type 0 where
  none : {s : S} {owners : List Kind} {forests : TableForests} → DeletesRows g shape def s owners forests [] s owners forests
  one : {old mid new : S} {owners owners_now : List Kind} {forests forests_now : TableForests} {rows : List PlacedRow} {before noted : SpaceNotes} {room_of room_now : Entry → RoomNote} (placed : PlacedRow)
      (deletes : DeletesRow g shape before noted room_of room_now old mid def placed.row placed.rid owners forests) → DeletesRows g shape def mid deletes.owners_now deletes.forests_now rows new owners_now forests_now
      → DeletesRows g shape def old owners forests (placed ∷ rows) new owners_now forests_now

-- a row lies in a place of a Used block
pub record LiesIn (spots : List Spot) (rid : Rid) (row : Row) : Type 0 where
  pub slots : List (Option Row)
  pub block : slice_index_or spots rid.block OtherBlock ≡ UsedBlock slots
  pub slot : slice_index_or slots rid.slot None ≡ Some row

-- these are the rows that are chosen, each with its place, in any order
pub record AreChosenRows (chosen : Row → Bool) (spots : List Spot) (rows : List PlacedRow) : Type 0 where
  pub lie : (placed : PlacedRow) → Contains rows placed → LiesIn spots placed.rid placed.row × IsTrue (chosen placed.row)
  pub all : (placed : PlacedRow) → LiesIn spots placed.rid placed.row → IsTrue (chosen placed.row) → Contains rows placed

-- of each block all rows are chosen, or none is
abbrev pub AreWholeBlocks : (Row → Bool) → List Spot → Type 0
AreWholeBlocks chosen spots =
    (block : ℕ) (slots : List (Option Row)) → slice_index_or spots block OtherBlock ≡ UsedBlock slots → (row other : Row) → Contains slots (Some row) → Contains slots (Some other) → chosen row ≡ chosen other

-- two trees have the same entries
abbrev pub SameEntries : Forest → Forest → Type 0
SameEntries t u = (y : Entry) → IsEntryOf y (leaf_entries t) ↔ IsEntryOf y (leaf_entries u)
