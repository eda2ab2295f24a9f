-- The line of a block in the block map of its table, and the columns that it gives the rows of the block.
use Rattle.std.specs.Prelude.{◌≡◌, ℕ, ◌==◌, if◌then◌else◌, Contains, List, [], ◌∷◌}
use Rattle.mdc_ast.specs.declared.definition.ColumnDef.{ColumnDef}
use Rattle.mdc_ast.specs.declared.definition.TableDef.{TableDef}
use Rattle.entry_tree.specs.Forest.{Forest}
use Rattle.block_map.specs.MapLines.{MapLine, map_lines, mapped_state, used_blocks}

-- how many rows a block map gives a block, and 0 for one that it doesn't name
abbrev pub mapped_rows : ℕ → List MapLine → ℕ
mapped_rows block [] = 0
mapped_rows block (line ∷ lines) = if line.block == block then line.rows else mapped_rows block lines

-- The line of a block: what a block map says of it, its state and how many rows it has. A sound map names a block once, so that
-- this is the one line that names it.
abbrev pub mapped_line : Forest → ℕ → MapLine
mapped_line map_tree block =
    record { block = block; state = mapped_state block (map_lines map_tree); rows = mapped_rows block (map_lines map_tree) }

-- a line is that of a Used block
abbrev pub HasUsedLine : Forest → MapLine → Type 0
HasUsedLine map_tree line = Contains (used_blocks map_tree) line.block × (mapped_line map_tree line.block ≡ line)

-- the columns that the rows of a block have, by its line: all columns of the table
abbrev pub columns_of_line : TableDef → MapLine → List ColumnDef
columns_of_line def line = def.columns
