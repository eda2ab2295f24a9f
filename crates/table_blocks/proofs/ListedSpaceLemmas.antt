-- The entries of a block under its cell, each with its index, are those of the block under a row of the cell.
use Rattle.std.proofs.Common.{◌≡◌, ℕ, List, [], ◌∷◌, map, refl, ap, ◌∙◌}
use Rattle.std.specs.Prelude.{zip}
use Rattle.mdc_ast.specs.declared.definition.TableDef.{TableDef}
use Rattle.mdc_ast.specs.declared.row.Cell.{Cell}
use Rattle.mdc_ast.specs.declared.row.Row.{Row}
use Rattle.table_trees.specs.RowCells.{IsCellOf}
use Rattle.table_trees.specs.TableTrees.{block_entry, block_index_places, cell_parts, composite_place, dimension_place, rising_parts}
use Rattle.block_index.specs.Cells.{index_listings}
use Rattle.block_index.proofs.CellsLemmas.{cell_entries-row}
use Rattle.mdc_sound.specs.RunningFull.{block_listings}

-- lists that are made of one and put side by side
side_by_side : {A B C D : Type 0} (f : A × B → C) (h : A → D) (xs : List A) (ys : List B) → zip (map f (zip xs ys)) (map h xs) ≡ map (λ pair. (f pair, h pair.0)) (zip xs ys)
side_by_side f h [] ys = refl
side_by_side f h (x ∷ xs) [] = refl
side_by_side f h (x ∷ xs) (y ∷ ys) = ap (λ rest. (f (x, y), h x) ∷ rest) (side_by_side f h xs ys)

pub listings_are : (def : TableDef) (cell : Cell) (row : Row) (block : ℕ) → IsCellOf def cell row.values → index_listings def cell.values block ≡ block_listings def row block
listings_are def cell row block is =
    ap (zip (block_index_places def)) (cell_entries-row def cell row.values block is)
    ∙ ap (λ rest. (composite_place def, block_entry def.columns (cell_parts def) row.values block) ∷ rest)
    (side_by_side (λ pair. dimension_place def pair.0 pair.1) (λ dim. block_entry def.columns (rising_parts dim) row.values block) def.dims def.roots.dims)
