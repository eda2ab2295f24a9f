-- The entries of an index that have a part of their key in a range.
use Rattle.std.specs.Prelude.{ℕ, ◌+◌, ◌-◌, ◌==◌, Bool, ◌&&◌, List, [], ◌∷◌, ◌++◌, length, map, filter, drop, replicate, if◌then◌else◌}
use Rattle.byteorder.specs.Endian.{big_number}
use Rattle.mdc_words.specs.ByteOrder.{Entry}
use Rattle.mdc_ast.specs.declared.definition.ColumnDef.{ColumnDef}
use Rattle.key_codec.specs.Keys.{part_width, type_of_column}
use Rattle.key_codec.specs.Spans.{is_in_range, reaches}
use Rattle.entry_tree.specs.Reading.{entries_from}
use Rattle.block_index.specs.declared.part_range.PartRange.{PartRange}

-- how many bytes stand before the part of a column, at its first place
abbrev pub offset_of : List ColumnDef → List ℕ → ℕ → ℕ
offset_of columns [] column = 0
offset_of columns (place ∷ places) column = if place == column then 0 else part_width (type_of_column columns place) + offset_of columns places column

-- the part of an entry lies in the range
abbrev pub has_part_in : PartRange → Entry → Bool
has_part_in range entry = is_in_range range.low range.high (drop range.at entry)

-- a walk for the range ends at an entry: it begins with the part, which lies behind the range
abbrev pub ends_walk : PartRange → Entry → Bool
ends_walk range entry = (range.at == 0) && reaches range.high entry

-- where a walk for the range begins: where entries begin with the part, at the lowest one of the range
abbrev pub start_of_walk : ℕ → PartRange → Entry
start_of_walk width range = if range.at == 0 then range.low ++ replicate (width - length range.low) 0 else replicate width 0

-- the entries of a list up to where a walk ends
abbrev pub entries_until : PartRange → List Entry → List Entry
entries_until range [] = []
entries_until range (entry ∷ entries) = if ends_walk range entry then [] else entry ∷ entries_until range entries

-- the block that an entry names: its last four bytes
abbrev pub last_block : Entry → ℕ
last_block entry = big_number 4 (drop (length entry - 4) entry)

-- the blocks that are named by the entries with the part in the range
abbrev pub blocks_in_range : PartRange → List Entry → List ℕ
blocks_in_range range entries = map last_block (filter (has_part_in range) entries)

-- the entries that a walk for a range goes over
abbrev pub walked : ℕ → PartRange → List Entry → List Entry
walked width range all = entries_until range (entries_from (start_of_walk width range) all)
