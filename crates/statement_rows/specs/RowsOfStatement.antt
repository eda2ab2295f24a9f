-- What the rows of one statement make of a table: they are put, taken out or turned into others, one after the other.
use Rattle.std.specs.Prelude.{◌≡◌, ◌≢◌, ◌<◌, ℕ, List, [], ◌∷◌, AllPairs}
use Rattle.std.specs.List.{AllByRecursion}
use Rattle.mdc_words.specs.ByteOrder.{Entry}
use Rattle.mdc_ast.specs.declared.definition.TableDef.{TableDef}
use Rattle.mdc_ast.specs.declared.row.Row.{Row}
use Rattle.mdc_ast.specs.Database.{Database, PlainTable, changed_at}
use Rattle.store_api.specs.declared.fault.Damage.{Damage}
use Rattle.store_api.specs.declared.pages.Pages.{Ghosts}
use Rattle.store_api.specs.declared.shape.Shape.{Shape}
use Rattle.extent_map.specs.declared.kind.Kind.{Kind}
use Rattle.extent_map.specs.declared.space_notes.SpaceNotes.{SpaceNotes}
use Rattle.table_trees.specs.SpaceChanges.{MakesChanges, SpaceChange}
use Rattle.table_trees.specs.ToldPages.{PageList}
use Rattle.mdc_sound.specs.Placing.{Spot}
use Rattle.mdc_sound.specs.SoundDatabase.{IsSoundBetweenChanges, with_table_page}
use Rattle.mdc_sound.specs.StandingTable.{ChangesTable, IsReadyTable, NamesTablePart, RoomNote, TableForests, pages_of, spots_of}
use Rattle.mdc_sound.specs.StandsForDatabase.{PagesStandFor, with_row, without_row}
use Rattle.mdc_sound.specs.TablePages.{table_page_at}
use Rattle.mdc_sound.specs.TableRows.{PlacedRow}
use Rattle.block_rows.specs.declared.hit.Hit.{Hit}
use Rattle.table_blocks.specs.BlockSteps.{HasThisRow}
use Rattle.statement_rows.specs.OtherTables.{KeepsOtherTables}

-- ---- before the statement

-- The table is told to stand with right notes, and the pages are sound as they are between two changes of rows.
pub record IsReadyBetween {S : Type 0} (g : Ghosts S) (shape : Shape) (noted : SpaceNotes) (room_of : Entry → RoomNote) (s : S) (def : TableDef) (owners : List Kind) (forests : TableForests) : Type 0 where
  pub ready : IsReadyTable g shape noted room_of s def owners forests
  pub sound : IsSoundBetweenChanges shape def (pages_of g s)

-- these rows lie in these places, by rising row number
pub record HasTheseRows {S : Type 0} (g : Ghosts S) (shape : Shape) (s : S) (def : TableDef) (rows : List PlacedRow) (owners : List Kind) (forests : TableForests) : Type 0 where
  pub each : AllByRecursion (λ placed. HasThisRow g shape s def placed.rid placed.row owners forests) rows
  pub rising : AllPairs (λ a b. a.row.number < b.row.number) rows

-- these copies of rows lie in their places, no two in one
pub record LieApart {S : Type 0} (g : Ghosts S) (shape : Shape) (s : S) (def : TableDef) (hits : List Hit) (owners : List Kind) (forests : TableForests) : Type 0 where
  pub each : AllByRecursion (λ hit. HasThisRow g shape s def hit.rid hit.row owners forests) hits
  pub apart : AllPairs (λ a b. a.rid ≢ b.rid) hits

-- ---- after it

-- the 16 table pages are as they were
pub record KeepsTablePages (old new : PageList) : Type 0 where
  pub each : (t : ℕ) → t < 16 → table_page_at new t ≡ table_page_at old t

-- Rows of one table were changed one after the other. The table stands with right notes, the pages are sound as they are between
-- two changes of rows, the table's blocks were changed as `Places` says, trees took no more space than the changes that it
-- says with that, and whatever plain database the pages stood for, they stand for the one whose table is changed so. Table pages
-- stay, and so do the blocks of other tables.
pub record ChangesRowsOf {S : Type 0} (g : Ghosts S) (shape : Shape) (before noted : SpaceNotes) (room_of : Entry → RoomNote) (old new : S) (def def_now : TableDef)
    (owners : List Kind) (forests : TableForests) (Places : List Spot → List SpaceChange → List Spot → Type 0) (change : PlainTable → PlainTable) : Type 0 where
  pub owners_now : List Kind
  pub forests_now : TableForests
  pub changes : ChangesTable g shape before noted old new def owners forests owners_now forests_now
  pub now : IsReadyBetween g shape noted room_of new def_now owners_now forests_now
  pub space : List SpaceChange
  pub places : Places (spots_of g shape old def owners forests) space (spots_of g shape new def_now owners_now forests_now)
  pub makes : MakesChanges shape (pages_of g old) space (pages_of g new)
  pub stands_for : (db : Database) → PagesStandFor shape (with_table_page def (pages_of g old)) db
      → PagesStandFor shape (with_table_page def_now (pages_of g new)) (changed_at db def.number change)
  pub table_pages : KeepsTablePages (pages_of g old) (pages_of g new)
  pub others : KeepsOtherTables shape (pages_of g old) (pages_of g new) def.number

-- ---- the plain table

-- the table without the rows that these are
abbrev pub without_rows : List Row → PlainTable → PlainTable
without_rows [] table = table
without_rows (row ∷ rows) table = without_rows rows (without_row row.number table)

-- the table with these rows, each in the place of the one that has its number
abbrev pub with_rows : List Row → PlainTable → PlainTable
with_rows [] table = table
with_rows (row ∷ rows) table = with_rows rows (with_row row table)

-- ---- damage

-- The damage is that of a part of the table, which wasn't told to stand with right notes in sound pages, with what is expected
-- besides.
pub record BreaksReady {S : Type 0} (g : Ghosts S) (shape : Shape) (noted : SpaceNotes) (room_of : Entry → RoomNote) (s : S) (def : TableDef)
    (Expected : List Kind → TableForests → Type 0) (damage : Damage) : Type 0 where
  pub names : NamesTablePart shape def damage
  pub broken : (owners : List Kind) (forests : TableForests) → IsReadyBetween g shape noted room_of s def owners forests → Expected owners forests → ⊥

-- nothing is expected besides
abbrev pub NothingMore : List Kind → TableForests → Type 0
NothingMore owners forests = Unit {0}

-- any page
abbrev pub AnyPage : ℕ → Type 0
AnyPage p = Unit {0}
