-- The rows of one statement and the changes of space that they ask for: where each row goes, and what it needs there or leaves
-- (docs/FORMAT.md, "Placing" and "Running full"). Pages don't occur here.
use Rattle.std.specs.Prelude.{ℕ, List, [], ◌∷◌, ◌++◌, Option, slice_index_or}
use Rattle.mdc_values.specs.declared.rid.Rid.{Rid}
use Rattle.mdc_ast.specs.declared.definition.TableDef.{TableDef}
use Rattle.mdc_ast.specs.declared.row.Row.{Row}
use Rattle.row_page.specs.RowPage.{count_rows}
use Rattle.table_trees.specs.SpaceChanges.{SpaceChange}
use Rattle.mdc_sound.specs.Placing.{IsRowAt, PutsRow, Spot, SpotsAfterClaims, SpotsAfterReturns, TakesRow}
use Rattle.mdc_sound.specs.Placing.Spot.{OtherBlock}
use Rattle.mdc_sound.specs.RunningFull.{putting_changes, taking_changes}
use Rattle.mdc_sound.specs.TableRows.{PlacedRow}
use Rattle.cell_change.specs.RowChanges.{TurnsRowBy}

-- Rows are put one after the other, all of them, and after each trees may have taken free extents. The changes are those that
-- the rows need, each where placing puts it. Blocks have n slots.
pub data PutsRowsBy (def : TableDef) (n : ℕ) : List Spot → List Row → List SpaceChange → List Spot → Type 0 where
  none : {spots : List Spot} → PutsRowsBy def n spots [] [] spots
  one : {old mid next new : List Spot} {row : Row} {rows : List Row} {changes : List SpaceChange} (rid : Rid)
      → PutsRow def n old row mid rid → SpotsAfterClaims mid next → PutsRowsBy def n next rows changes new
      → PutsRowsBy def n old (row ∷ rows) (putting_changes def row rid (slice_index_or old rid.block OtherBlock) ++ changes) new

-- Rows are taken out one after the other, all of them, and after each trees may have given extents back. The changes are those
-- of each row and of the block that it leaves.
pub data TakesRowsBy (def : TableDef) : List Spot → List PlacedRow → List SpaceChange → List Spot → Type 0 where
  none : {spots : List Spot} → TakesRowsBy def spots [] [] spots
  one : {old mid next new : List Spot} {placed : PlacedRow} {rows : List PlacedRow} {changes : List SpaceChange} {slots : List (Option Row)}
      → IsRowAt old placed.rid placed.row slots → TakesRow old placed.rid placed.row mid → SpotsAfterReturns mid next
      → TakesRowsBy def next rows changes new
      → TakesRowsBy def old (placed ∷ rows) (taking_changes def placed.row placed.rid (count_rows slots) ++ changes) new

-- Rows become others one after the other, all of them. The changes are those of each row.
pub data TurnsRowsBy (def : TableDef) (n : ℕ) : List Spot → List (PlacedRow × Row) → List SpaceChange → List Spot → Type 0 where
  none : {spots : List Spot} → TurnsRowsBy def n spots [] [] spots
  one : {old next new : List Spot} {placed : PlacedRow} {other : Row} {rows : List (PlacedRow × Row)} {first changes : List SpaceChange}
      → TurnsRowBy def n old placed.rid placed.row other next first → TurnsRowsBy def n next rows changes new
      → TurnsRowsBy def n old ((placed, other) ∷ rows) (first ++ changes) new
