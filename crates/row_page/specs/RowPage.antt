-- A page of rows: slots, each empty or with a row (docs/FORMAT.md, "Rows").
use Rattle.std.specs.Prelude.{◌≡◌, ℕ, ◌+◌, ◌-◌, ◌*◌, ◌/◌, ◌%◌, ◌^◌, ◌==◌, ◌≤◌, ◌<◌, Bool, true, false, IsTrue, if◌then◌else◌, List, [], ◌∷◌, ◌++◌, take, drop, replicate, slice_index, Option, Some, None, is_some}
use Rattle.std.specs.List.{count_by}
use Rattle.byteorder.specs.Endian.{big_bytes, big_number}
use Rattle.mdc_ast.specs.declared.definition.ColumnDef.{ColumnDef}
use Rattle.mdc_ast.specs.declared.row.Row.{Row}
use Rattle.mdc_words.specs.Listed.{listed}
use Rattle.store_api.specs.StoreState.{zero_page}
use Rattle.row_page.specs.Row.{row_bytes, row_in, row_width_of}

-- How many slots a page has: the greatest number of rows that fit into 4,096 bytes behind a head of 16 and a bit for each.
-- c slots fit where 8 * 16 + c + 7 at most + 8 * c * width is at most 8 * 4096, which is c * (8 * width + 1) at most 8 * 4080.
abbrev pub slot_count : List ColumnDef → ℕ
slot_count columns = 32640 / (8 * row_width_of columns + 1)

-- how many bytes the bits of so many slots take
abbrev pub slot_bit_bytes : ℕ → ℕ
slot_bit_bytes slots = (slots + 7) / 8

-- how many bytes a page with so many slots of so many bytes needs
abbrev pub bytes_for_slots : ℕ → ℕ → ℕ
bytes_for_slots width slots = 16 + slot_bit_bytes slots + slots * width

-- where the slots begin, behind the head and the bits
abbrev pub slots_start : List ColumnDef → ℕ
slots_start columns = 16 + slot_bit_bytes (slot_count columns)

-- where the slots end; what is behind them in the page is spare
abbrev pub slots_end : List ColumnDef → ℕ
slots_end columns = bytes_for_slots (row_width_of columns) (slot_count columns)

-- where a slot begins
abbrev pub slot_start : List ColumnDef → ℕ → ℕ
slot_start columns slot = slots_start columns + slot * row_width_of columns

-- ---- what a page holds

-- the bit of a slot is set: the highest bit of a byte is that of its first slot
abbrev pub is_slot_filled : List ℕ → ℕ → Bool
is_slot_filled page slot = slice_index page (16 + slot / 8) / 2 ^ (7 - slot % 8) % 2 == 1

-- the bytes of a slot
abbrev pub slot_bytes : List ColumnDef → List ℕ → ℕ → List ℕ
slot_bytes columns page slot = take (row_width_of columns) (drop (slot_start columns slot) page)

-- the row in a slot, if there is one
abbrev pub slot_row : List ColumnDef → List ℕ → ℕ → Option Row
slot_row columns page slot = if is_slot_filled page slot then Some (row_in columns (slot_bytes columns page slot)) else None

-- the slots of a page, in order
abbrev pub rows_of : List ColumnDef → List ℕ → List (Option Row)
rows_of columns page = listed (slot_count columns) (slot_row columns page)

-- how many rows a page states
abbrev pub stated_rows : List ℕ → ℕ
stated_rows page = big_number 2 (drop 4 page)

-- how many rows are in slots
abbrev pub count_rows : List (Option Row) → ℕ
count_rows slots = count_by is_some slots

-- the head of a page: its mark `RP`, how many slots it has, how many rows are in them, and ten zeros
unfoldable pub row_page_head : ℕ → ℕ → List ℕ
row_page_head slots rows = (82 ∷ 80 ∷ []) ++ big_bytes 2 slots ++ big_bytes 2 rows ++ replicate 10 0

-- a page begins as a row page of these columns does: with the mark and the number of slots
abbrev pub StartsAsRowPage : List ColumnDef → List ℕ → Type 0
StartsAsRowPage columns page = take 4 page ≡ take 4 (row_page_head (slot_count columns) 0)

-- a page has a head with as many rows as are in its slots
abbrev pub IsHeaded : List ColumnDef → List ℕ → Type 0
IsHeaded columns page = take 16 page ≡ row_page_head (slot_count columns) (count_rows (rows_of columns page))

-- the bytes of a slot are those that its row is written as
abbrev pub IsWrittenRow : List ColumnDef → List ℕ → Type 0
IsWrittenRow columns bytes = row_bytes columns (row_in columns bytes) ≡ bytes

-- each row of a page is written so
abbrev pub AreRowsWritten : List ColumnDef → List ℕ → Type 0
AreRowsWritten columns page =
    (slot : ℕ) → slot < slot_count columns → IsTrue (is_slot_filled page slot) → IsWrittenRow columns (slot_bytes columns page slot)

-- the bits behind those of the slots are zeros
abbrev pub AreSpareBitsBlank : List ColumnDef → List ℕ → Type 0
AreSpareBitsBlank columns page =
    (slot : ℕ) → slot_count columns ≤ slot → slot < 8 * slot_bit_bytes (slot_count columns) → is_slot_filled page slot ≡ false

-- the bytes behind the slots are zeros
abbrev pub AreSpareBytesBlank : List ColumnDef → List ℕ → Type 0
AreSpareBytesBlank columns page = drop (slots_end columns) page ≡ drop (slots_end columns) zero_page

-- A page of these columns has these slots: it is what they are written as, wherever its bytes are examined. The bytes of
-- an empty slot aren't.
pub record IsRowPage (columns : List ColumnDef) (page : List ℕ) (slots : List (Option Row)) : Type 0 where
  pub has : rows_of columns page ≡ slots
  pub head : take 16 page ≡ row_page_head (slot_count columns) (count_rows slots)
  pub written : AreRowsWritten columns page
  pub spare_bits : AreSpareBitsBlank columns page
  pub spare_bytes : AreSpareBytesBlank columns page

-- the page with no row: zeros behind the head
abbrev pub empty_row_page : List ColumnDef → List ℕ
empty_row_page columns = row_page_head (slot_count columns) 0 ++ drop 16 zero_page

-- the first number that passes a test, of those from a place up to an end, or none
abbrev pub IsFirstSlot : (ℕ → Bool) → ℕ → ℕ → Option ℕ → Type 0
IsFirstSlot test from end None = (slot : ℕ) → from ≤ slot → slot < end → test slot ≡ false
IsFirstSlot test from end (Some first) =
    (from ≤ first) × (first < end) × (test first ≡ true) × ((slot : ℕ) → from ≤ slot → slot < first → test slot ≡ false)
