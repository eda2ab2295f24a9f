-- What pages that are sound between two changes of rows say of the table at hand.
use Rattle.std.proofs.Common.{◌≡◌, List, subst}
use Rattle.std.specs.List.{AllZip}
use Rattle.mdc_values.specs.declared.rid.Rid.{Rid}
use Rattle.mdc_ast.specs.declared.definition.TableDef.{TableDef}
use Rattle.mdc_ast.specs.declared.row.Row.{Row}
use Rattle.store_api.specs.declared.pages.Pages.{Ghosts}
use Rattle.store_api.specs.declared.shape.Shape.{Shape}
use Rattle.extent_map.specs.declared.kind.Kind.{Kind}
use Rattle.entry_tree.specs.Forest.{Forest}
use Rattle.block_map.specs.MapLines.{pending_blocks}
use Rattle.mdc_sound.specs.BlockRules.{AreRowNumbersSound, AreSoundIndexes, AreTableIndexesSound, IsSoundIndex}
use Rattle.mdc_sound.specs.SoundDatabase.{IsSoundBetweenChanges, IsSoundWith, with_table_page}
use Rattle.mdc_sound.specs.StandingTable.{HasRowAt, StandsTable, TableForests, forests_in_order, pages_of, view_of}
use Rattle.mdc_sound.specs.TableRows.{PlacedRow, rows_in_table}
use Rattle.mdc_sound.specs.TableViews.{TableView, trees_of_table}
use Rattle.mdc_sound.proofs.SoundDatabaseLemmas.{rows_with_table_page}
use Rattle.mdc_sound.proofs.SpaceRulesLemmas.{there_at}
use Rattle.mdc_sound.proofs.StandingTableLemmas.{forests_of, number_of_place, one_standing, stands_of_sound}
use Rattle.table_blocks.specs.BlockSteps.{HasThisRow}
use Rattle.cell_change.specs.RowChanges.{rows_now}
use Rattle.cell_change.proofs.OneTableLemmas.{expected_there}

module _ {S : Type 0} (g : Ghosts S) where
  -- a row that is known lies in a place
  pub has_row : (shape : Shape) (s : S) (def : TableDef) (rid : Rid) (row : Row) (owners : List Kind) (forests : TableForests) → HasThisRow g shape s def rid row owners forests → HasRowAt g shape s def rid owners forests
  has_row shape s def rid row owners forests has = record { row = row; slots = has.slots; lies = has.lies }

  -- ---- row numbers

  -- the row numbers of the table at hand are sound where those of all tables are
  pub numbers_here : (shape : Shape) (s : S) (def : TableDef) (owners : List Kind) (forests : TableForests) → IsSoundBetweenChanges shape def (pages_of g s) → StandsTable g shape s def owners forests
      → AreRowNumbersSound def (rows_now g shape s def forests)
  numbers_here shape s def owners forests between st =
      let pages = pages_of g s in
      let with = with_table_page def pages in
      let sound = between.sound in
      let table = sound.table in
      let low = (number_of_place shape with sound.view sound.first def.number table sound.there).0 in
      let stood = stands_of_sound g shape s def sound st.told in
      let trees : forests_in_order forests ≡ trees_of_table table = (one_standing g shape s def owners sound.view.owners forests (forests_of table) st stood).1 in
      let map : table.map ≡ forests.map = cc in
      let there : AreRowNumbersSound table.def (rows_in_table shape with table.def table.map) =
      there_at (λ (x : TableView). AreRowNumbersSound x.def (rows_in_table shape with x.def x.map)) sound.view.places def.number table sound.there between.numbers in
      let here : AreRowNumbersSound def (rows_in_table shape with def table.map) = subst (λ (d : TableDef). AreRowNumbersSound d (rows_in_table shape with d table.map)) sound.same there in
      let plain : AreRowNumbersSound def (rows_in_table shape pages def table.map) = subst (AreRowNumbersSound def) (rows_with_table_page shape def pages low def table.map) here in
      subst (λ (m : Forest). AreRowNumbersSound def (rows_in_table shape pages def m)) map plain

  -- ---- record indexes

  -- the record indexes of the table at hand are sound where those of all tables are
  pub indexes_of_all : (shape : Shape) (s : S) (def : TableDef) (owners : List Kind) (forests : TableForests) → (sound : IsSoundWith shape def (pages_of g s)) → AreSoundIndexes shape (with_table_page def (pages_of g s)) sound.view
      → StandsTable g shape s def owners forests → AreTableIndexesSound shape (pages_of g s) (view_of def forests)
  indexes_of_all shape s def owners forests sound rule11 st =
      let pages = pages_of g s in
      let with = with_table_page def pages in
      let table = sound.table in
      let low = (number_of_place shape with sound.view sound.first def.number table sound.there).0 in
      let stood = stands_of_sound g shape s def sound st.told in
      let there : AreTableIndexesSound shape with table = there_at (AreTableIndexesSound shape with) sound.view.places def.number table sound.there rule11 in
      let here : AreTableIndexesSound shape with (view_of def (forests_of table)) = subst (λ (d : TableDef). AreTableIndexesSound shape with (view_of d (forests_of table))) sound.same there in
      let plain : AreTableIndexesSound shape pages (view_of def (forests_of table)) =
      subst (λ (rows : List PlacedRow). AllZip (IsSoundIndex def rows (pending_blocks table.map)) def.indexes table.indexes) (rows_with_table_page shape def pages low def table.map) here in
      expected_there g shape s def sound.view.owners owners (forests_of table) forests stood st (λ kinds trees. AreTableIndexesSound shape pages (view_of def trees)) plain

  -- so they are between two changes
  pub indexes_here : (shape : Shape) (s : S) (def : TableDef) (owners : List Kind) (forests : TableForests) → IsSoundBetweenChanges shape def (pages_of g s) → StandsTable g shape s def owners forests
      → AreTableIndexesSound shape (pages_of g s) (view_of def forests)
  indexes_here shape s def owners forests between st = indexes_of_all shape s def owners forests between.sound between.rule11 st
