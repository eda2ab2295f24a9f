-- The blocks of a table and the rows in them.
use Rattle.std.specs.Prelude.{ℕ, ◌+◌, List, [], ◌∷◌, flat_map, Option, Some, None}
use Rattle.std.specs.List.{range_with_len}
use Rattle.mdc_values.specs.declared.rid.Rid.{Rid}
use Rattle.mdc_ast.specs.declared.definition.ColumnDef.{ColumnDef}
use Rattle.mdc_ast.specs.declared.definition.TableDef.{TableDef}
use Rattle.mdc_ast.specs.declared.row.Row.{Row}
use Rattle.store_api.specs.Extents.{first_page_of}
use Rattle.store_api.specs.StoreState.{page_at}
use Rattle.store_api.specs.declared.shape.Shape.{Shape}
use Rattle.row_page.specs.RowPage.{rows_of}
use Rattle.entry_tree.specs.Forest.{Forest}
use Rattle.table_trees.specs.ToldPages.{PageList}
use Rattle.block_map.specs.MapLines.{MapLine, used_blocks}
use Rattle.mdc_sound.specs.BlockLines.{columns_of_line, mapped_line}

-- a row and where it lies
pub record PlacedRow : Type 0 where
  pub rid : Rid
  pub row : Row

-- the rows of a block in its slots from one on
abbrev pub rows_from_slot : ℕ → ℕ → List (Option Row) → List PlacedRow
rows_from_slot block slot [] = []
rows_from_slot block slot (None ∷ slots) = rows_from_slot block (slot + 1) slots
rows_from_slot block slot (Some row ∷ slots) =
    record { rid = record { block = block; slot = slot }; row = row } ∷ rows_from_slot block (slot + 1) slots

-- a page of a block
abbrev pub block_page : Shape → PageList → ℕ → ℕ → List ℕ
block_page shape pages block j = page_at pages (first_page_of shape.extents shape.extent_pages block + j)

-- the slots of a block whose rows have these columns: those of its pages, one page behind the other
abbrev pub slots_by_columns : Shape → PageList → List ColumnDef → ℕ → List (Option Row)
slots_by_columns shape pages columns block = flat_map (λ j. rows_of columns (block_page shape pages block j)) (range_with_len 0 shape.extent_pages)

-- the slots of the block of a line
abbrev pub slots_by_line : Shape → PageList → TableDef → MapLine → List (Option Row)
slots_by_line shape pages def line = slots_by_columns shape pages (columns_of_line def line) line.block

-- the rows of the block of a line, by rising slot
abbrev pub rows_by_line : Shape → PageList → TableDef → MapLine → List PlacedRow
rows_by_line shape pages def line = rows_from_slot line.block 0 (slots_by_line shape pages def line)

-- the slots of a block whose rows have all columns
abbrev pub block_slots : Shape → PageList → TableDef → ℕ → List (Option Row)
block_slots shape pages def block = slots_by_columns shape pages def.columns block

-- the rows of such a block
abbrev pub rows_in_block : Shape → PageList → TableDef → ℕ → List PlacedRow
rows_in_block shape pages def block = rows_from_slot block 0 (block_slots shape pages def block)

-- the rows of a table: those in its Used blocks, each by its line
abbrev pub rows_in_table : Shape → PageList → TableDef → Forest → List PlacedRow
rows_in_table shape pages def map_tree = flat_map (λ block. rows_by_line shape pages def (mapped_line map_tree block)) (used_blocks map_tree)
