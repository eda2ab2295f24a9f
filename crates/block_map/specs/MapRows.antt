-- The rows of a block map as its calls have them: a block, its state, and how many rows it has.
use Rattle.std.specs.Prelude.{ℕ}
use Rattle.mdc_words.specs.ByteOrder.{Entry}
use Rattle.block_map.specs.MapLines.{MapLine, map_entry}
use Rattle.block_map.specs.declared.row.BlockRow.{BlockRow}
use Rattle.block_map.specs.declared.state.BlockState.{BlockState}
use Rattle.block_map.specs.declared.state.BlockState.TheVariants.{Free, Used, Pending}

-- the number that an entry has for a state
abbrev pub state_number : BlockState → ℕ
state_number Free = 0
state_number Used = 1
state_number Pending = 2

-- the entry of a row
abbrev pub row_entry : BlockRow → Entry
row_entry row = map_entry row.block (state_number row.state) row.rows

-- the line of a row
abbrev pub line_of : BlockRow → MapLine
line_of row = record { block = row.block; state = state_number row.state; rows = row.rows }
