-- A rollout leaves pages sound as they are between two changes of rows.
use Rattle.std.proofs.Common.{◌≤◌, ◌++◌, ℕ, List, [], ◌∷◌, length, inl, inr}
use Rattle.std.specs.Prelude.{Option}
use Rattle.std.proofs.lemmas.List.Sorted.{IsPermutation-sym}
use Rattle.mdc_words.specs.ByteOrder.{Entry}
use Rattle.mdc_ast.specs.declared.definition.TableDef.{TableDef}
use Rattle.mdc_ast.specs.declared.predicate.Pred.{Pred}
use Rattle.store_api.specs.Frame.{Touches}
use Rattle.store_api.specs.declared.pages.Pages.{Ghosts}
use Rattle.store_api.specs.declared.shape.Shape.{Shape}
use Rattle.store_api.proofs.FrameLemmas.{touches_wider}
use Rattle.extent_map.specs.declared.kind.Kind.{Kind}
use Rattle.extent_map.specs.declared.space_notes.SpaceNotes.{SpaceNotes}
use Rattle.mdc_sound.specs.BlockRules.{AreRowNumbersSound}
use Rattle.mdc_sound.specs.SoundDatabase.{IsSoundBetweenChanges}
use Rattle.mdc_sound.specs.StandingTable.{IsTableSpace, RoomNote, StandsTable, TableForests, pages_of}
use Rattle.mdc_sound.specs.TableRows.{PlacedRow, rows_in_table}
use Rattle.mdc_sound.proofs.ChangedTablesLemmas.{between_with_definition}
use Rattle.mdc_sound.proofs.RowNumbersLemmas.{numbers_in_order, numbers_without}
use Rattle.row_entries.specs.RowEntries.{IsTreeOrMapPageOfTable}
use Rattle.cell_change.proofs.RowChangesLemmas.{indexes_here, numbers_here}
use Rattle.rollout.specs.RolledBlocks.{RollsOutRows}
use Rattle.rollout.specs.declared.rolling.RolledOut.{RolledOut}

-- the numbers of rows behind some are as those of all are
numbers_behind : (def : TableDef) (gone rows : List PlacedRow) → AreRowNumbersSound def (gone ++ rows) → AreRowNumbersSound def rows
numbers_behind def [] rows numbers = numbers
numbers_behind def (placed ∷ gone) rows numbers = numbers_behind def gone rows (numbers_without def placed (gone ++ rows) numbers)

-- the pages that change are of those that a call on the table's rows may change
pub in_space : {S : Type 0} (g : Ghosts S) (shape : Shape) (old : S) (def : TableDef) (p : ℕ) → IsTreeOrMapPageOfTable g shape old def p → IsTableSpace g shape old def p
in_space g shape old def p mine owners forests st = elim (mine owners forests st) [ inl tree ↦ inl tree | inr map ↦ inr (inr (inl (inr map))) ]

module _ {S : Type 0} (g : Ghosts S) (shape : Shape) {before noted : SpaceNotes} {room_of : Entry → RoomNote} (old new : S) (def : TableDef) (pred : Option Pred) (rolled : RolledOut) (owners : List Kind) (forests : TableForests)
    (st : StandsTable g shape old def owners forests) (rolls : RollsOutRows g shape before noted room_of old new def pred rolled owners forests)
    (touched : Touches g (IsTreeOrMapPageOfTable g shape old def) old new) (longer : length (g.state old).work ≤ length (g.state new).work) (between : IsSoundBetweenChanges shape def (pages_of g old)) where
  pub sound_rolled : IsSoundBetweenChanges shape def (pages_of g new)
  sound_rolled =
      let were = rows_in_table shape (pages_of g old) def forests.map in
      let are = rows_in_table shape (pages_of g new) def rolls.forests_now.map in
      let numbers = numbers_in_order def were (rolls.gone ++ are) (IsPermutation-sym (rolls.gone ++ are) were rolls.rows) (numbers_here g shape old def owners forests between st) in
      between_with_definition g shape old new def owners rolls.owners_now forests rolls.forests_now between.sound st rolls.changes (touches_wider touched (in_space g shape old def)) longer between.rule11 between.numbers between.other_keys
      (rolls.sound (indexes_here g shape old def owners forests between st)) (numbers_behind def rolls.gone are numbers)
