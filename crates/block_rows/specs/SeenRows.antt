-- What a call that read the rows of a block has seen of them, whatever its pages hold.
use Rattle.std.specs.Prelude.{◌≡◌, ◌↔◌, ◌≤◌, ◌<◌, ◌+◌, ◌/◌, ◌++◌, ℕ, Bool, IsTrue, List, [], ◌∷◌, length, map, slice_index_or, Option, Some, None, is_some, AllPairs}
use Rattle.std.specs.List.{AllByRecursion}
use Rattle.mdc_values.specs.declared.rid.Rid.{Rid}
use Rattle.mdc_values.specs.declared.value.Value.{Value}
use Rattle.mdc_ast.specs.Truth.{value_at}
use Rattle.mdc_ast.specs.declared.definition.ColumnDef.{ColumnDef}
use Rattle.mdc_ast.specs.declared.definition.TableDef.{TableDef}
use Rattle.mdc_ast.specs.declared.predicate.Pred.{Pred}
use Rattle.mdc_ast.specs.declared.row.Cell.{Cell}
use Rattle.mdc_ast.specs.declared.row.Row.{Row}
use Rattle.store_api.specs.Extents.{first_page_of}
use Rattle.store_api.specs.declared.shape.Shape.{Shape}
use Rattle.row_page.specs.Row.{row_in, row_width_of}
use Rattle.row_page.specs.RowPage.{StartsAsRowPage, count_rows, rows_of, slot_count, stated_rows}
use Rattle.table_trees.specs.ToldPages.{PageList}
use Rattle.mdc_sound.specs.TableRows.{PlacedRow, block_page, block_slots, rows_from_slot, rows_in_block}
use Rattle.block_rows.specs.Giving.{WasGiven}
use Rattle.block_rows.specs.HeldRows.{HasReadValues, qualifying}
use Rattle.block_rows.specs.declared.met_rows.MetRows.{MetRows}
use Rattle.block_rows.specs.declared.row_sink.RowSink.{Ghosts}

-- ---- pages

-- a page begins as a row page of these columns does, and has as many rows in its slots as its head says
pub record IsSeenPage (columns : List ColumnDef) (page : List ℕ) : Type 0 where
  pub starts : StartsAsRowPage columns page
  pub counted : stated_rows page ≡ count_rows (rows_of columns page)

-- Each page of a block is there and is such. Its rows are so many, and have a key in each column.
pub record HasSeenRows (shape : Shape) (pages : PageList) (def : TableDef) (block count : ℕ) : Type 0 where
  pub there : first_page_of shape.extents shape.extent_pages (block + 1) ≤ length pages
  pub forms : (j : ℕ) → j < shape.extent_pages → IsSeenPage def.columns (block_page shape pages block j)
  pub counted : count ≡ length (rows_in_block shape pages def block)
  pub read : AllByRecursion (λ placed. HasReadValues def.columns placed.row) (rows_in_block shape pages def block)

-- ---- slots

-- a page begins as a row page of these columns, and this is what its bytes say of a slot: a row, or none
pub record SeesSlotOfPage (columns : List ColumnDef) (page : List ℕ) (slot : ℕ) (row : Option Row) : Type 0 where
  pub starts : StartsAsRowPage columns page
  pub row_is : row ≡ slice_index_or (rows_of columns page) slot None

-- The pages of a block are there, and that of a slot begins as a row page does. This is what its bytes say of the slot: a row, or none.
pub record SeesSlot (shape : Shape) (pages : PageList) (def : TableDef) (rid : Rid) (row : Option Row) : Type 0 where
  pub there : first_page_of shape.extents shape.extent_pages (rid.block + 1) ≤ length pages
  pub starts : StartsAsRowPage def.columns (block_page shape pages rid.block (rid.slot / slot_count def.columns))
  pub row_is : row ≡ slice_index_or (block_slots shape pages def rid.block) rid.slot None

-- something was seen of a slot, a row or none, and this is whether it was a row
pub record SeesIfRow (Sees : Option Row → Type 0) (filled : Bool) : Type 0 where
  pub row : Option Row
  pub sees : Sees row
  pub filled_is : filled ≡ is_some row

-- a row was seen in a slot
abbrev pub SeesSomeRow : (Option Row → Type 0) → Type 0
SeesSomeRow Sees = (row : Row) × Sees (Some row)

-- ---- cells

-- the values of a row in some places
abbrev pub values_at : List ℕ → List Value → List Value
values_at places values = map (value_at values) places

-- a row has the values of a cell in these places
abbrev pub IsInCell : List ℕ → Cell → PlacedRow → Type 0
IsInCell places cell placed = cell.values ≡ values_at places placed.row.values

-- rows have the values of a given cell in these places, or the same ones where none is given
abbrev pub AreInCell : List ℕ → Option Cell → List PlacedRow → Type 0
AreInCell places None rows = AllPairs (λ a b. values_at places a.row.values ≡ values_at places b.row.values) rows
AreInCell places (Some cell) rows = AllByRecursion (IsInCell places cell) rows

-- ---- midway

-- A row of these values was met. Rows are judged by the given cell, or else by that of the first row.
abbrev pub MeetsCell : List Value → Option Cell → Option Cell → Option Cell → Bool → Bool → Type 0
MeetsCell values (Some given) first now were are = (now ≡ first) × (IsTrue are ↔ (IsTrue were × (given.values ≡ values)))
MeetsCell values None None now were are = (now ≡ Some (record { values = values })) × (are ≡ were)
MeetsCell values None (Some first) now were are = (now ≡ Some first) × (IsTrue are ↔ (IsTrue were × (first.values ≡ values)))

-- a row of these values was met: it is of the cell by which rows are judged, if all so far are
abbrev pub IsOfCell : List Value → Option Cell → Option Cell → Bool → Type 0
IsOfCell values (Some given) first in_cell = IsTrue in_cell → given.values ≡ values
IsOfCell values None None in_cell = ⊥
IsOfCell values None (Some first) in_cell = IsTrue in_cell → first.values ≡ values

-- these are the bytes of a row that was met, or not as many as a row has
abbrev pub IsLastRow : List ColumnDef → List ℕ → Option Cell → Option Cell → Bool → List ℕ → Type 0
IsLastRow columns places given first in_cell bytes =
    length bytes ≡ row_width_of columns → IsOfCell (values_at places (row_in columns bytes).values) given first in_cell

-- of rows that were met, the first has this cell, and whether all have it is known
pub record AreJudgedBy (places : List ℕ) (cell : Cell) (in_cell : Bool) (rows : List PlacedRow) : Type 0 where
  pub first : PlacedRow
  pub rest : List PlacedRow
  pub rows_are : rows ≡ first ∷ rest
  pub is_in : IsInCell places cell first
  pub all : IsTrue in_cell ↔ AllByRecursion (IsInCell places cell) rows

-- by which cell the rows that were met are judged, and whether all of them have it
abbrev pub IsCellSoFar : List ℕ → Option Cell → Option Cell → Bool → List PlacedRow → Type 0
IsCellSoFar places (Some given) first in_cell rows = IsTrue in_cell ↔ AllByRecursion (IsInCell places given) rows
IsCellSoFar places None None in_cell rows = (rows ≡ []) × IsTrue in_cell
IsCellSoFar places None (Some first) in_cell rows = AreJudgedBy places first in_cell rows

-- these rows were met
pub record HasMet (places : List ℕ) (given : Option Cell) (met : MetRows) (rows : List PlacedRow) : Type 0 where
  pub counted : met.rows ≡ length rows
  pub cell : IsCellSoFar places given met.first met.in_cell rows

-- The rows of a page were met, and a sink was given those that qualify.
pub record SeesPage {K : Type 0} (sinks : Ghosts K) (columns : List ColumnDef) (places : List ℕ) (given : Option Cell) (page : List ℕ) (block first : ℕ) (pred : Option Pred) (old new : K) (met met_now : MetRows) : Type 0 where
  pub form : IsSeenPage columns page
  pub read : AllByRecursion (λ placed. HasReadValues columns placed.row) (rows_from_slot block first (rows_of columns page))
  pub given_rows : WasGiven sinks old new (qualifying pred (rows_from_slot block first (rows_of columns page)))
  pub meets : (rows : List PlacedRow) → HasMet places given met rows → HasMet places given met_now (rows ++ rows_from_slot block first (rows_of columns page))
