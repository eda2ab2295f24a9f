-- The plain database that pages stand for, once the rows that qualify were rolled out.
use Rattle.std.proofs.Common.{◌≡◌, ◌<◌, ◌≤◌, ◌++◌, ◌∙◌, Bool, true, false, List, [], ◌∷◌, length, ap, refl, subst}
use Rattle.std.specs.Prelude.{IsPermutation, Option, filter, not}
use Rattle.std.specs.List.{AllByRecursion}
use Rattle.std.proofs.lemmas.List.Kept.{AllPairs-filter}
use Rattle.std.proofs.lemmas.List.Sorted.{IsPermutation-map, IsPermutation-trans}
use Rattle.mdc_words.specs.ByteOrder.{Entry}
use Rattle.mdc_ast.specs.Database.{Database, PlainTable, changed_at}
use Rattle.mdc_ast.specs.declared.definition.TableDef.{TableDef}
use Rattle.mdc_ast.specs.declared.predicate.Pred.{Pred}
use Rattle.mdc_ast.specs.declared.row.Row.{Row}
use Rattle.store_api.specs.Frame.{Touches}
use Rattle.store_api.specs.declared.pages.Pages.{Ghosts}
use Rattle.store_api.specs.declared.shape.Shape.{Shape}
use Rattle.store_api.proofs.FrameLemmas.{touches_wider}
use Rattle.extent_map.specs.declared.kind.Kind.{Kind}
use Rattle.extent_map.specs.declared.space_notes.SpaceNotes.{SpaceNotes}
use Rattle.mdc_sound.specs.SoundDatabase.{IsSoundBetweenChanges, with_table_page}
use Rattle.mdc_sound.specs.StandingTable.{RoomNote, StandsTable, TableForests, pages_of}
use Rattle.mdc_sound.specs.StandsForDatabase.{PagesStandFor}
use Rattle.mdc_sound.specs.TableRows.{PlacedRow, rows_in_table}
use Rattle.mdc_sound.proofs.ChangedDatabaseLemmas.{database_of_change}
use Rattle.mdc_sound.proofs.PlainTableLemmas.{IsPlainTable, rows_alone}
use Rattle.row_entries.specs.RowEntries.{IsTreeOrMapPageOfTable}
use Rattle.table_scan.proofs.ScannedRowsLemmas.{perm_filter}
use Rattle.table_scan.proofs.ScanningLemmas.{filter_first, filter_past}
use Rattle.rollout.specs.RolledBlocks.{RollsOutRows, is_chosen, without_chosen}
use Rattle.rollout.specs.declared.rolling.RolledOut.{RolledOut}
use Rattle.rollout.proofs.SoundRolledLemmas.{in_space}

module _ (pred : Option Pred) where
  -- a row stays
  abbrev is_left : Row → Bool
  is_left row = not (is_chosen pred row)

  left_alone : (rows : List PlacedRow) → AllByRecursion (λ placed. is_chosen pred placed.row ≡ false) rows → filter is_left (rows_alone rows) ≡ rows_alone rows
  left_alone [] dont = refl
  left_alone (placed ∷ rows) dont = filter_first is_left placed.row (rows_alone rows) (ap not dont.0) ∙ ap (λ rest. placed.row ∷ rest) (left_alone rows dont.1)

  -- of those that went and those that stay these are left
  left_behind : (gone rows : List PlacedRow) → AllByRecursion (λ placed. is_chosen pred placed.row ≡ true) gone → AllByRecursion (λ placed. is_chosen pred placed.row ≡ false) rows → filter is_left (rows_alone (gone ++ rows)) ≡ rows_alone rows
  left_behind [] rows qualify dont = left_alone rows dont
  left_behind (placed ∷ gone) rows qualify dont = filter_past is_left placed.row (rows_alone (gone ++ rows)) (ap not qualify.0) ∙ left_behind gone rows qualify.1 dont

module _ {S : Type 0} (g : Ghosts S) (shape : Shape) {before noted : SpaceNotes} {room_of : Entry → RoomNote} (old new : S) (def : TableDef) (pred : Option Pred) (rolled : RolledOut) (owners : List Kind) (forests : TableForests)
    (st : StandsTable g shape old def owners forests) (rolls : RollsOutRows g shape before noted room_of old new def pred rolled owners forests) where
  plain_left : (x : PlainTable) → IsPlainTable def (rows_in_table shape (pages_of g old) def forests.map) x → IsPlainTable def (rows_in_table shape (pages_of g new) def rolls.forests_now.map) (without_chosen pred x)
  plain_left x is =
      let were = rows_in_table shape (pages_of g old) def forests.map in
      let are = rows_in_table shape (pages_of g new) def rolls.forests_now.map in
      record {
        def_is = is.def_is;
        same_rows = subst (λ l. IsPermutation l (filter (is_left pred) x.rows)) (left_behind pred rolls.gone are rolls.qualify rolls.others)
            (perm_filter (is_left pred) (rows_alone (rolls.gone ++ are)) x.rows
            (IsPermutation-trans (rows_alone (rolls.gone ++ are)) (rows_alone were) x.rows (IsPermutation-map (λ (p : PlacedRow). p.row) (rolls.gone ++ are) were rolls.rows) is.same_rows));
        rising = AllPairs-filter (λ (a b : Row). a.number < b.number) (is_left pred) x.rows is.rising;
      }

  pub database_rolled : Touches g (IsTreeOrMapPageOfTable g shape old def) old new → length (g.state old).work ≤ length (g.state new).work → IsSoundBetweenChanges shape def (pages_of g old)
      → (db : Database) → PagesStandFor shape (with_table_page def (pages_of g old)) db → PagesStandFor shape (with_table_page def (pages_of g new)) (changed_at db def.number (without_chosen pred))
  database_rolled touched longer between db stands =
      database_of_change g shape old new def owners rolls.owners_now forests rolls.forests_now between.sound st rolls.changes (touches_wider touched (in_space g shape old def)) longer (without_chosen pred) plain_left db
      stands
