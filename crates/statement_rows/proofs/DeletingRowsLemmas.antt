-- Rows that are deleted one after the other: what one of them and the rest make.
use Rattle.std.proofs.Common.{List, [], ◌∷◌, ◌++◌, map, refl}
use Rattle.mdc_words.specs.ByteOrder.{Entry}
use Rattle.mdc_values.specs.declared.rid.Rid.{Rid}
use Rattle.mdc_ast.specs.declared.definition.TableDef.{TableDef}
use Rattle.mdc_ast.specs.declared.row.Row.{Row}
use Rattle.mdc_ast.specs.Database.{PlainTable}
use Rattle.store_api.specs.Frame.{Touches}
use Rattle.store_api.specs.Works.{Works}
use Rattle.store_api.specs.declared.pages.Pages.{Ghosts}
use Rattle.store_api.specs.declared.shape.Shape.{Shape}
use Rattle.store_api.proofs.FrameLemmas.{touches_wider}
use Rattle.extent_map.specs.declared.kind.Kind.{Kind}
use Rattle.extent_map.specs.declared.space_notes.SpaceNotes.{SpaceNotes}
use Rattle.row_page.specs.RowPage.{count_rows}
use Rattle.table_trees.specs.SpaceChanges.{SpaceChange}
use Rattle.mdc_sound.specs.Placing.{Spot, SpotsAfterReturns, TakesRow}
use Rattle.mdc_sound.specs.RunningFull.{taking_changes}
use Rattle.mdc_sound.specs.StandingTable.{IsTableOrMapPage, RoomNote, TableForests, spots_of}
use Rattle.mdc_sound.specs.StandsForDatabase.{without_row}
use Rattle.mdc_sound.specs.TableRows.{PlacedRow}
use Rattle.block_rows.specs.HeldRows.{placed_row}
use Rattle.block_rows.specs.declared.hit.Hit.{Hit}
use Rattle.table_blocks.specs.BlockSteps.{HasThisRow}
use Rattle.cell_change.specs.RowChanges.{DeletesFromDatabase, placed_at}
use Rattle.cell_change.proofs.ChangeRunsLemmas.{in_space}
use Rattle.cell_change.proofs.TableStepsLemmas.{takes_no_block}
use Rattle.statement_rows.specs.RowsAndSpace.{TakesRowsBy}
use Rattle.statement_rows.specs.RowsOfStatement.{ChangesRowsOf, HasTheseRows, IsReadyBetween, without_rows}
use Rattle.statement_rows.proofs.OtherRowsLemmas.{lies_after_returns, lies_taken, rows_behind}
use Rattle.statement_rows.proofs.OtherTablesLemmas.{others_kept}
use Rattle.statement_rows.proofs.RowsThenLemmas.{RowsLeadOn, leads_all, leads_more, leads_none}
use Rattle.statement_rows.proofs.TablePagesLemmas.{table_pages_kept}

-- ---- one row

-- rows are taken out behind one, by whichever changes
abbrev pub TakesBefore : TableDef → PlacedRow → List Spot → List SpaceChange → List Spot → Type 0
TakesBefore def placed was space between =
    (rows : List PlacedRow) (more : List SpaceChange) (is : List Spot) → TakesRowsBy def between rows more is → TakesRowsBy def was (placed ∷ rows) (space ++ more) is

-- the changes of a row in a place
abbrev pub left_by : {S : Type 0} (g : Ghosts S) (shape : Shape) (s : S) (def : TableDef) (rid : Rid) (row : Row) (owners : List Kind) (forests : TableForests) → HasThisRow g shape s def rid row owners forests → List SpaceChange
left_by g shape s def rid row owners forests this = taking_changes def row rid (count_rows this.slots)

-- the plain table without the rows of hits
abbrev pub without_hits : List Hit → PlainTable → PlainTable
without_hits hits = without_rows (map (λ hit. hit.row) hits)

module _ {S : Type 0} (g : Ghosts S) where
  -- rows behind the first lie where they did once it is out
  pub these_still : (shape : Shape) (old new : S) (def : TableDef) (owners owners_now : List Kind) (forests forests_now : TableForests) (placed : PlacedRow) (rows : List PlacedRow) (mid : List Spot)
      → TakesRow (spots_of g shape old def owners forests) placed.rid placed.row mid → SpotsAfterReturns mid (spots_of g shape new def owners_now forests_now) → HasTheseRows g shape old def (placed ∷ rows) owners forests
      → HasTheseRows g shape new def rows owners_now forests_now
  these_still shape old new def owners owners_now forests forests_now placed rows mid takes returns =
      rows_behind g shape old new def owners owners_now forests forests_now placed rows
      (λ at row apart lies.
      lies_after_returns mid (spots_of g shape new def owners_now forests_now) at row returns (lies_taken (spots_of g shape old def owners forests) mid placed.rid at placed.row row takes apart lies))

  abbrev pub one_deleted : (shape : Shape) (before now : SpaceNotes) (room_of room_now : Entry → RoomNote) (old new : S) (def : TableDef) (row : Row) (rid : Rid) (owners : List Kind) (forests : TableForests)
      → IsReadyBetween g shape before room_of old def owners forests → HasThisRow g shape old def rid row owners forests → DeletesFromDatabase g shape before now room_of room_now old new def row rid owners forests
      → Works g old new → Touches g (IsTableOrMapPage g shape old def) old new → ChangesRowsOf g shape before now room_now old new def def owners forests (TakesBefore def (placed_at rid row)) (without_row row.number)
  one_deleted shape before now room_of room_now old new def row rid owners forests ready this deletes works touches = record {
    owners_now = deletes.table.owners_now;
    forests_now = deletes.table.forests_now;
    changes = deletes.table.changes;
    now = record {
      ready = record { stands = deletes.table.changes.stands; notes = deletes.table.changes.notes ready.ready.notes; rooms = deletes.table.rooms ready.ready };
      sound = (deletes.database ready.sound).sound;
    };
    space = left_by g shape old def rid row owners forests this;
    places = λ rows more is rest. TakesRowsBy.one this.lies deletes.table.takes deletes.table.returns rest;
    makes = deletes.table.makes this.slots this.lies;
    stands_for = (deletes.database ready.sound).stands_for;
    table_pages = table_pages_kept g shape old new def owners forests ready.ready.stands works (touches_wider touches (in_space g shape old def));
    others = others_kept g shape old new def owners deletes.table.owners_now forests deletes.table.forests_now ready.sound.sound ready.ready.stands deletes.table.changes
        (touches_wider touches (in_space g shape old def)) works.no_shorter;
  }

  -- ---- rows so far, and the rest

  -- Rows were deleted, and so the table is ready for the rest of these, which lie where they did. With these all are deleted.
  pub record DeletesOn (shape : Shape) (before now : SpaceNotes) (room_now : Entry → RoomNote) (old mid : S) (def : TableDef) (hits rest : List Hit) (owners : List Kind) (forests : TableForests) : Type 0 where
    pub rows : RowsLeadOn g shape before now room_now old mid def def owners forests (λ was space is. TakesRowsBy def was (map placed_row rest) space is) (λ was space is. TakesRowsBy def was (map placed_row hits) space is) (without_hits rest) (without_hits hits)
    pub has : HasTheseRows g shape mid def (map placed_row rest) rows.owners_now rows.forests_now

  pub deletes_none : (shape : Shape) (noted : SpaceNotes) (room_of : Entry → RoomNote) (s : S) (def : TableDef) (hits : List Hit) (owners : List Kind) (forests : TableForests) → IsReadyBetween g shape noted room_of s def owners forests
      → HasTheseRows g shape s def (map placed_row hits) owners forests → DeletesOn shape noted noted room_of s s def hits hits owners forests
  deletes_none shape noted room_of s def hits owners forests ready has = record {
    rows = leads_none g shape noted room_of s def owners forests (λ was space is. TakesRowsBy def was (map placed_row hits) space is) (without_hits hits) ready;
    has = has;
  }

  pub deletes_all : (shape : Shape) (before now : SpaceNotes) (room_now : Entry → RoomNote) (old new : S) (def : TableDef) (hits : List Hit) (owners : List Kind) (forests : TableForests) → DeletesOn shape before now room_now old new def hits [] owners forests
      → ChangesRowsOf g shape before now room_now old new def def owners forests (λ was space is. TakesRowsBy def was (map placed_row hits) space is) (without_hits hits)
  deletes_all shape before now room_now old new def hits owners forests on =
      leads_all g shape before now room_now old new def def owners forests (λ was space is. TakesRowsBy def was [] space is) (λ was space is. TakesRowsBy def was (map placed_row hits) space is) (without_hits []) (without_hits hits) on.rows
      (λ spots. TakesRowsBy.none) (λ table. refl)

  pub deletes_more : (shape : Shape) (before mid next : SpaceNotes) (room_mid room_next : Entry → RoomNote) (old middle new : S) (def : TableDef) (hits : List Hit) (hit : Hit) (rest : List Hit) (owners : List Kind) (forests : TableForests)
      (on : DeletesOn shape before mid room_mid old middle def hits (hit ∷ rest) owners forests) → DeletesFromDatabase g shape mid next room_mid room_next middle new def hit.row hit.rid on.rows.owners_now on.rows.forests_now
      → Works g middle new → Touches g (IsTableOrMapPage g shape middle def) middle new → DeletesOn shape before next room_next old new def hits rest owners forests
  deletes_more shape before mid next room_mid room_next old middle new def hits hit rest owners forests on deletes works touches =
      let one = one_deleted shape mid next room_mid room_next middle new def hit.row hit.rid on.rows.owners_now on.rows.forests_now on.rows.ready on.has.each.0 deletes works touches in
      record {
        rows = leads_more g shape before mid next room_mid room_next old middle new def def def.next owners forests (TakesBefore def (placed_row hit)) (λ was space is. TakesRowsBy def was (map placed_row (hit ∷ rest)) space is)
            (λ was space is. TakesRowsBy def was (map placed_row rest) space is) (λ was space is. TakesRowsBy def was (map placed_row hits) space is) (without_row hit.row.number) (without_hits (hit ∷ rest)) (without_hits rest) (without_hits hits) on.rows one
            (λ was between is space more first. first (map placed_row rest) more is) (takes_no_block g shape middle new def on.rows.owners_now on.rows.forests_now on.rows.ready.ready.stands deletes.table.owners_now deletes.table.forests_now deletes.table.mid hit.row hit.rid deletes.table.takes deletes.table.returns) (λ table. refl) works.no_shorter;
        has = these_still shape middle new def on.rows.owners_now one.owners_now on.rows.forests_now one.forests_now (placed_row hit) (map placed_row rest) deletes.table.mid deletes.table.takes deletes.table.returns on.has;
      }
