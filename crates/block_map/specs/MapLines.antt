-- The entries of a block map, and what they say of blocks.
use Rattle.std.specs.Prelude.{ℕ, ◌≡◌, ◌==◌, List, [], ◌∷◌, ◌++◌, map, filter, if◌then◌else◌}
use Rattle.byteorder.specs.Endian.{big_bytes}
use Rattle.mdc_words.specs.ByteOrder.{Entry}
use Rattle.store_api.specs.Format.{Format, first_format}
use Rattle.node_page.specs.Node.{number_within}
use Rattle.entry_tree.specs.EntryBounds.{IsEntryOf}
use Rattle.entry_tree.specs.Forest.{Forest, leaf_entries}

-- an entry of a block map: a block, its state, which is 0 for Free, 1 for Used and 2 for Pending, and how many rows it has
pub record MapLine : Type 0 where
  pub block : ℕ
  pub state : ℕ
  pub rows : ℕ

-- what the bytes of an entry say in a format
abbrev pub map_line_in : Format → Entry → MapLine
map_line_in format entry = record {
  block = number_within format.block.from format.block.bytes entry;
  state = number_within format.state.from format.state.bytes entry;
  rows = number_within format.rows.from format.rows.bytes entry;
}

-- what they say in the format of the file
abbrev pub map_line : Entry → MapLine
map_line entry = map_line_in first_format entry

-- the entry that says so: the block, its state, and how many rows it has
abbrev pub map_entry : ℕ → ℕ → ℕ → Entry
map_entry block state rows = big_bytes first_format.block.bytes block ++ state ∷ big_bytes first_format.rows.bytes rows

-- the entry is written as the bytes of what it says, each of which is below 256
pub record IsMapEntry (entry : Entry) : Type 0 where
  pub bytes_are : entry ≡ map_entry (map_line entry).block (map_line entry).state (map_line entry).rows

-- each entry of a block map is written so
abbrev pub AreMapEntries : Forest → Type 0
AreMapEntries map_tree = (entry : Entry) → IsEntryOf entry (leaf_entries map_tree) → IsMapEntry entry

-- the entries of a block map
abbrev pub map_lines : Forest → List MapLine
map_lines map_tree = map map_line (leaf_entries map_tree)

-- the blocks that a block map names
abbrev pub mapped_blocks : Forest → List ℕ
mapped_blocks map_tree = map (λ line. line.block) (map_lines map_tree)

-- the lines of a state among entries
abbrev pub lines_in_state : ℕ → List Entry → List MapLine
lines_in_state state entries = filter (λ line. line.state == state) (map map_line entries)

-- those of a block map
abbrev pub lines_of_state : ℕ → Forest → List MapLine
lines_of_state state map_tree = lines_in_state state (leaf_entries map_tree)

-- the blocks that a list of entries names with a state
abbrev pub blocks_in_state : ℕ → List Entry → List ℕ
blocks_in_state state entries = map (λ line. line.block) (lines_in_state state entries)

-- those of a state in a block map
abbrev pub blocks_of_state : ℕ → Forest → List ℕ
blocks_of_state state map_tree = blocks_in_state state (leaf_entries map_tree)

-- the blocks that are empty, and may be used by any cell
abbrev pub free_blocks : Forest → List ℕ
free_blocks = blocks_of_state 0

-- the blocks that have rows
abbrev pub used_blocks : Forest → List ℕ
used_blocks = blocks_of_state 1

-- the blocks that were rolled out, and whose entries in record indexes may be left
abbrev pub pending_blocks : Forest → List ℕ
pending_blocks = blocks_of_state 2

-- the state that a block map gives a block, and 3 for one that it doesn't name
abbrev pub mapped_state : ℕ → List MapLine → ℕ
mapped_state block [] = 3
mapped_state block (line ∷ lines) = if line.block == block then line.state else mapped_state block lines
