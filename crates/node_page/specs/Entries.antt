-- Rising lists of entries, and places in them.
use Rattle.std.specs.Prelude.{◌==◌, ◌≡◌, ◌<◌, ◌≤◌, ℕ, suc, ◌+◌, ◌/◌, nat_le, Bool, not, if◌then◌else◌, IsTrue, List, [], ◌∷◌, ◌++◌, length, get_or, take, drop}
use Rattle.std.specs.List.{filter, list_any}
use Rattle.std.specs.Slice.Scan.{big_endian}
use Rattle.mdc_words.specs.ByteOrder.{Entry, below}
use Rattle.node_page.specs.Node.{number_within}

-- each entry is below the next
abbrev pub EntriesRise : List Entry → Type 0
EntriesRise [] = Unit {0}
EntriesRise (x ∷ []) = Unit {0}
EntriesRise (x ∷ y ∷ entries) = IsTrue (below x y) × EntriesRise (y ∷ entries)

-- how many entries stand before the first that isn't below this one: its place
abbrev pub place_in : Entry → List Entry → ℕ
place_in entry [] = 0
place_in entry (x ∷ entries) = if below x entry then suc (place_in entry entries) else 0

-- how many separators stand before the first that is above this entry: the child below which the entry belongs
abbrev pub child_in : Entry → List Entry → ℕ
child_in entry [] = 0
child_in entry (x ∷ separators) = if below entry x then 0 else suc (child_in entry separators)

-- the entry stands at a place
abbrev pub StandsAt : Entry → ℕ → List Entry → Type 0
StandsAt entry place entries = (place < length entries) × (get_or entries place [] ≡ entry)

-- a byte string of this width has a word, and this is the number of its first eight bytes
pub record IsFirstWord (width : ℕ) (s : Entry) (first : ℕ) : Type 0 where
  pub same : width ≡ length s
  pub long : 8 ≤ width
  pub read : first ≡ big_endian 0 (take 8 s)

-- the four bytes of an entry from a place on name one of these blocks
abbrev pub names_block : List ℕ → ℕ → Entry → Bool
names_block blocks at entry = list_any (λ block. block == number_within at 4 entry) blocks

-- the entries without those from a place on that name one of these blocks
abbrev pub without_blocks : List ℕ → ℕ → ℕ → List Entry → List Entry
without_blocks blocks at from entries = take from entries ++ filter (λ entry. not (names_block blocks at entry)) (drop from entries)

-- how many entries from a place on name one of these blocks
abbrev pub count_named : List ℕ → ℕ → ℕ → List Entry → ℕ
count_named blocks at from entries = length (filter (names_block blocks at) (drop from entries))

-- how many of n entries and one more stay in the lower of two leaves
abbrev pub lower_half : ℕ → ℕ
lower_half n = n / 2 + 1

-- which of n separators and one more, that comes at this place, goes up between two inner nodes: never the one that comes
abbrev pub middle_place : ℕ → ℕ → ℕ
middle_place n at = if nat_le at (n / 2) then n / 2 + 1 else n / 2

-- each entry has this width
abbrev pub HaveWidth : ℕ → List Entry → Type 0
HaveWidth width [] = Unit {0}
HaveWidth width (x ∷ entries) = (length x ≡ width) × HaveWidth width entries

-- each number fits into four bytes
abbrev pub AreShort : List ℕ → Type 0
AreShort [] = Unit {0}
AreShort (n ∷ numbers) = (n < 4294967296) × AreShort numbers
