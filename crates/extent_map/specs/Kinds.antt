-- What an extent is, and its bytes in the extent map (docs/FORMAT.md, "Extent map").
use Rattle.std.specs.Prelude.{◌<◌, ◌^◌, ◌==◌, nat_lt, ℕ, Bool, true, false, if◌then◌else◌, List, ◌∷◌, replicate, take, drop, slice_index, ◌&&◌, Option, Some, None, bit_and, bit_or}
use Rattle.std.specs.Int.{bit_at, bit_not, trailing_ones, to_be_bytes, from_be_bytes, w32, w64}
use Rattle.extent_map.specs.declared.kind.Kind.{Kind}
use Rattle.extent_map.specs.declared.kind.Kind.TheVariants.{Free, Block, Index}

-- the 8 bytes of an extent in the map: what it is, whose it is, two zeros, and a bit for each of its pages that is used
unfoldable pub kind_bytes : Kind → List ℕ
kind_bytes Free = replicate 8 0
kind_bytes (Block table) = 1 ∷ table ∷ replicate 6 0
kind_bytes (Index used) = 2 ∷ 0 ∷ 0 ∷ 0 ∷ to_be_bytes w32 used

-- A kind that an extent of so many pages may have: a table's number is a byte, and an index extent has a bit, and none for a
-- page that it doesn't have.
abbrev pub IsKindOf : ℕ → Kind → Type 0
IsKindOf extent_pages Free = Unit {0}
IsKindOf extent_pages (Block table) = table < 256
IsKindOf extent_pages (Index used) = (0 < used) × (used < 2 ^ extent_pages)

-- what the owner and the bits of a free extent say, where they have the form
abbrev pub free_stated : ℕ → ℕ → Option Kind
free_stated owner used = if owner == 0 && used == 0 then Some Free else None

-- the same of a block: it has the number of its table, and no bit
abbrev pub block_stated : ℕ → ℕ → Option Kind
block_stated owner used = if used == 0 then Some (Block owner) else None

-- the same of an index extent: it has no owner, a bit at least, and none for a page that it doesn't have
abbrev pub index_stated : ℕ → ℕ → ℕ → Option Kind
index_stated extent_pages owner used = if owner == 0 && nat_lt 0 used && nat_lt used (2 ^ extent_pages) then Some (Index used) else None

-- what they say by their first byte, the owner and the bits
abbrev pub kind_marked : ℕ → ℕ → ℕ → ℕ → Option Kind
kind_marked extent_pages mark owner used =
    if mark == 0 then free_stated owner used
    else (if mark == 1 then block_stated owner used else (if mark == 2 then index_stated extent_pages owner used else None))

-- what 8 bytes say, of which two are zeros
abbrev pub kind_stated : ℕ → List ℕ → Option Kind
kind_stated extent_pages entry =
    if slice_index entry 2 == 0 && slice_index entry 3 == 0
    then kind_marked extent_pages (slice_index entry 0) (slice_index entry 1) (from_be_bytes w32 (take 4 (drop 4 entry)))
    else None

-- an extent without an owner
abbrev pub is_free_kind : Kind → Bool
is_free_kind Free = true
is_free_kind (Block table) = false
is_free_kind (Index used) = false

-- a block, of whatever table
abbrev pub is_block_kind : Kind → Bool
is_block_kind Free = false
is_block_kind (Block table) = true
is_block_kind (Index used) = false

-- the page at a place of an index extent is used
abbrev pub is_used_place : ℕ → Kind → Bool
is_used_place j Free = false
is_used_place j (Block table) = false
is_used_place j (Index used) = bit_at used j == 1

-- the page at a place of an index extent isn't used
abbrev pub is_unused_place : ℕ → Kind → Bool
is_unused_place j Free = false
is_unused_place j (Block table) = false
is_unused_place j (Index used) = bit_at used j == 0

-- the kind with the page at a place used: a free extent becomes an index extent
abbrev pub with_used_place : ℕ → Kind → Kind
with_used_place j Free = Index (2 ^ j)
with_used_place j (Block table) = Block table
with_used_place j (Index used) = Index (bit_or used (2 ^ j))

-- an index extent with these pages used, which is free where none is
abbrev pub index_or_free : ℕ → Kind
index_or_free used = if used == 0 then Free else Index used

-- the kind with the page at a place no longer used
abbrev pub without_place : ℕ → Kind → Kind
without_place j Free = Free
without_place j (Block table) = Block table
without_place j (Index used) = index_or_free (bit_and used (bit_not w32 (2 ^ j)))

-- the lowest place of an index extent of so many pages whose page isn't used, where there is one
abbrev pub lowest_unused_place : ℕ → Kind → Option ℕ
lowest_unused_place extent_pages Free = None
lowest_unused_place extent_pages (Block table) = None
lowest_unused_place extent_pages (Index used) =
    if nat_lt (trailing_ones w64 used) extent_pages then Some (trailing_ones w64 used) else None
