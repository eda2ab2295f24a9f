-- What a store of pages is seen as. A page is the list of its bytes.
use Rattle.std.specs.Prelude.{ℕ, ◌+◌, Bool, true, false, if◌then◌else◌, List, [], ◌∷◌, ◌++◌, length, take, drop, replicate, slice_index_or, Option, None}
use Rattle.std.specs.Int.{from_be_bytes, w32}
use Rattle.std.specs.Str.{bytes_eq}
use Rattle.store_api.specs.declared.shape.Shape.{Shape}

-- what lies beside the pages of a store, which no call changes: how large its database may grow, and what was attached
pub record Beside : Type 0 where
  -- how many extents of how many pages its database may have, where the store has a file that says so
  pub shape : Option Shape
  -- the attaches of the host beneath, each a path and whether it may make the file, where they are told
  pub attaches : Option (List (List ℕ × Bool))

-- all that the calls of a store speak of, but for the counts of faults, the clock and the count of pages written
pub record StoreState : Type 0 where
  -- whether it tells what its pages hold. No store can tell that of a real file.
  pub is_told : Bool
  -- the pages of the last commit
  pub base : List (List ℕ)
  -- the pages as they are now
  pub work : List (List ℕ)
  -- the work at the mark, where one is open
  pub marked : Option (List (List ℕ))
  -- the page at hand, where there is one
  pub hand : Option (List ℕ)
  -- the work is ready for `commit`
  pub prepared : Bool
  -- a commit failed, and the store takes no further call
  pub ended : Bool
  -- the bytes told, where they are told
  pub told : Option (List ℕ)
  -- the numbers of the pages that were brought to hand, in order, where they are told
  pub fetched : Option (List ℕ)
  -- the bytes of its file, where it has one that is told. Only `commit` changes them.
  pub file : Option (List ℕ)
  -- what lies beside the pages
  pub beside : Beside

-- a store in memory has no file, and tells no attaches
abbrev pub nothing_beside : Beside
nothing_beside = record { shape = None; attaches = None }

-- Pages as a store shows them to contracts: one that doesn't tell what they hold shows how many there are.
abbrev pub seen : Bool → List (List ℕ) → List (List ℕ)
seen true pages = pages
seen false pages = replicate (length pages) []

-- the page of a number
abbrev pub page_at : List (List ℕ) → ℕ → List ℕ
page_at pages p = slice_index_or pages p []

-- a page of zeros
unfoldable pub zero_page : List ℕ
zero_page = replicate 4096 0

-- the page with these bytes from a place on
abbrev pub patched : ℕ → List ℕ → List ℕ → List ℕ
patched at bytes page = take at page ++ bytes ++ drop (at + length bytes) page

-- the page count that a page 0 states, in its bytes 8 to 11
abbrev pub stated_in : List ℕ → ℕ
stated_in page = from_be_bytes w32 (take 4 (drop 8 page))

-- the page count that page 0 of these states
abbrev pub stated_count : List (List ℕ) → ℕ
stated_count pages = stated_in (page_at pages 0)

-- how many pages differ. A page that only one of the two has counts.
abbrev pub differing : List (List ℕ) → List (List ℕ) → ℕ
differing [] work = length work
differing (page ∷ base) [] = length (page ∷ base)
differing (old ∷ base) (new ∷ work) = (if bytes_eq old new then 0 else 1) + differing base work
