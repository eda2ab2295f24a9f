-- What is found in a record index: the places that some entries name.
use Rattle.std.specs.Prelude.{◌≡◌, ◌<◌, ◌≤◌, ℕ, ◌+◌, ◌-◌, ◌*◌, ◌/◌, ◌%◌, ◌^◌, List, ◌++◌, length, count_by, drop, filter, Contains, Option, None, Some}
use Rattle.byteorder.specs.Endian.{big_bytes, big_number}
use Rattle.mdc_words.specs.ByteOrder.{Entry}
use Rattle.mdc_values.specs.declared.rid.Rid.{Rid}
use Rattle.mdc_ast.specs.declared.definition.ColumnDef.{ColumnDef}
use Rattle.mdc_ast.specs.declared.definition.KeyPart.{KeyPart}
use Rattle.mdc_ast.specs.declared.span.Span.{Span}
use Rattle.key_codec.specs.Keys.{type_of_column}
use Rattle.key_codec.specs.Spans.{IsRangeOf, first_column, is_first_descending, is_in_range}
use Rattle.entry_tree.specs.EntryBounds.{IsEntryOf}

-- ---- places of rows

-- where the row of an entry lies: its last six bytes are a block in four, and a slot in two
abbrev pub rid_in_entry : Entry → Rid
rid_in_entry entry = record { block = big_number 4 (drop (length entry - 6) entry); slot = big_number 2 (drop (length entry - 2) entry) }

-- an entry of a place under a key
abbrev pub entry_of_rid : List ℕ → Rid → Entry
entry_of_rid key rid = key ++ big_bytes 4 rid.block ++ big_bytes 2 rid.slot

-- a place has a block of four bytes, and a slot of two
pub record IsRid (rid : Rid) : Type 0 where
  pub block : rid.block < 2 ^ 32
  pub slot : rid.slot < 2 ^ 16

-- a place as one number: its block, and its slot in the lowest two bytes
abbrev pub rid_number : Rid → ℕ
rid_number rid = rid.block * 65536 + rid.slot

-- ---- under one key

-- these are the places that an index has under a key; as they rise, they stand in the order of their entries
pub record AreRidsUnder (key : List ℕ) (entries : List Entry) (rids : List Rid) : Type 0 where
  pub all : (rid : Rid) → IsRid rid → IsEntryOf (entry_of_rid key rid) entries → Contains rids rid
  pub only : (rid : Rid) → Contains rids rid → IsEntryOf (entry_of_rid key rid) entries
  pub places : (rid : Rid) → Contains rids rid → IsRid rid

-- ---- under one key, from a place on

-- the first place from one on that an index has under a key
pub record IsFirstRidUnder (key : List ℕ) (entries : List Entry) (from rid : Rid) : Type 0 where
  pub place : IsRid rid
  pub there : IsEntryOf (entry_of_rid key rid) entries
  pub reached : rid_number from ≤ rid_number rid
  pub first : (other : Rid) → IsRid other → IsEntryOf (entry_of_rid key other) entries → rid_number from ≤ rid_number other → rid_number rid ≤ rid_number other

-- the same, or that there is none
abbrev pub FindsRidUnder : List ℕ → List Entry → Rid → Option Rid → Type 0
FindsRidUnder key entries from None = (other : Rid) → IsRid other → IsEntryOf (entry_of_rid key other) entries → rid_number from ≤ rid_number other → ⊥
FindsRidUnder key entries from (Some rid) = IsFirstRidUnder key entries from rid

-- ---- within a span

-- these are the places that some entries name
pub record AreRidsOf (entries : List Entry) (rids : List Rid) : Type 0 where
  pub all : (entry : Entry) → IsEntryOf entry entries → Contains rids (rid_in_entry entry)
  pub only : (rid : Rid) → Contains rids rid → (entry : Entry) × IsEntryOf entry entries × (rid_in_entry entry ≡ rid)
  pub places : (rid : Rid) → Contains rids rid → IsRid rid

-- Of all entries of an index those were found that lie in a range of the span: an entry that begins with the first part of a
-- value is one of them exactly where that value lies in the span, whatever stands behind. These are the places that they name,
-- and the count rose by the number of these entries, those of rows that are gone included.
pub record FindsRids (columns : List ColumnDef) (parts : List KeyPart) (span : Span) (entries : List Entry) (rids : List Rid) (old new : ℕ) : Type 0 where
  pub low : Entry
  pub high : Option Entry
  pub range : IsRangeOf (type_of_column columns (first_column parts)) (is_first_descending parts) span low high
  pub places : AreRidsOf (filter (is_in_range low high) entries) rids
  pub counted : new ≡ old + count_by (is_in_range low high) entries

-- ---- midway

-- the place of a number
abbrev pub rid_of_number : ℕ → Rid
rid_of_number n = record { block = n / 65536; slot = n % 65536 }
