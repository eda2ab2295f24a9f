-- What a call that read the rows of a block has seen, beside what the trees of the table say of it.
use Rattle.std.specs.Prelude.{◌≡◌, ◌<◌, List, Some, Contains, false}
use Rattle.mdc_ast.specs.declared.definition.TableDef.{TableDef}
use Rattle.mdc_ast.specs.declared.row.Cell.{Cell}
use Rattle.store_api.specs.Extents.{first_page_of}
use Rattle.store_api.specs.declared.fault.StoreFault.{StoreFault}
use Rattle.store_api.specs.declared.fault.StoreFault.TheVariants.{Damaged}
use Rattle.store_api.specs.declared.pages.Pages.{Ghosts}
use Rattle.store_api.specs.declared.shape.Shape.{Shape}
use Rattle.extent_map.specs.declared.kind.Kind.{Kind}
use Rattle.block_map.specs.MapLines.{MapLine, map_lines}
use Rattle.block_rows.specs.CountedRows.{HasSeenCounted, counted_rows}
use Rattle.block_rows.specs.SeenRows.{AreInCell, HasSeenRows}
use Rattle.block_rows.specs.declared.seen_rows.SeenRows.{SeenRows}
use Rattle.table_trees.specs.RowCells.{IsCellOf, cell_places}
use Rattle.table_trees.specs.ToldPages.{PageList}
use Rattle.mdc_sound.specs.StandingTable.{TableForests, pages_of}
use Rattle.mdc_sound.specs.TableRows.{PlacedRow, rows_in_block}
use Rattle.mdc_table.specs.declared.listed.ListedBlock.{ListedBlock}

-- Each page of the block is there, begins as a row page and has as many rows as its head says; the block has as many as its line
-- says, and each is of the cell under which the block is listed, or all are of one cell where none is given.
pub record HasSeenBlock (shape : Shape) (pages : PageList) (def : TableDef) (listed : ListedBlock) : Type 0 where
  pub rows : HasSeenRows shape pages def listed.block listed.rows
  pub cell : AreInCell (cell_places def) listed.cell (rows_in_block shape pages def listed.block)

-- The same of the pages of the block that are read until as many rows were met as its line says: that many lie on them, and each is of
-- the cell, or all are of one.
pub record HasSeenCountedBlock (shape : Shape) (pages : PageList) (def : TableDef) (listed : ListedBlock) : Type 0 where
  pub rows : HasSeenCounted shape pages def listed.block listed.rows listed.rows
  pub cell : AreInCell (cell_places def) listed.cell (counted_rows shape pages def listed.block listed.rows)

-- What was seen of a block isn't what is listed of it, and this names the block for that: no row by its line, other rows than it says,
-- or one of another cell.
pub data NamesUnlisted (shape : Shape) (listed : ListedBlock) (seen : SeenRows) (fault : StoreFault) : Type 0 where
  of_rows : (seen.rows ≡ listed.rows → 0 < listed.rows → ⊥) → fault ≡ Damaged (record { page = first_page_of shape.extents shape.extent_pages listed.block; rule = 8 }) → NamesUnlisted shape listed seen fault
  of_cell : seen.in_cell ≡ false → fault ≡ Damaged (record { page = first_page_of shape.extents shape.extent_pages listed.block; rule = 9 }) → NamesUnlisted shape listed seen fault

-- the line of a Used block with so many rows
abbrev pub used_line_of : ListedBlock → MapLine
used_line_of listed = record { block = listed.block; state = 1; rows = listed.rows }

-- the block map has its line, and its cell is that of a row of the block, if one is given
pub record IsListedSo {S : Type 0} (g : Ghosts S) (shape : Shape) (s : S) (def : TableDef) (listed : ListedBlock) (owners : List Kind) (forests : TableForests) : Type 0 where
  pub line : Contains (map_lines forests.map) (used_line_of listed)
  pub cell : (cell : Cell) → listed.cell ≡ Some cell → (placed : PlacedRow) × Contains (rows_in_block shape (pages_of g s) def listed.block) placed × IsCellOf def cell placed.row.values
