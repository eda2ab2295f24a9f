-- How large a database may grow: how many extents it has, and how many pages each extent (docs/FORMAT.md, "Extents").
use Rattle.std.specs.Prelude.{ℕ, ◌+◌, ◌*◌, ◌/◌, Bool, ◌&&◌, ◌||◌, ◌==◌, nat_le}

-- an extent has 2, 4, 8, 16 or 32 pages
abbrev pub is_extent_size : ℕ → Bool
is_extent_size pages = pages == 2 || pages == 4 || pages == 8 || pages == 16 || pages == 32

-- a database has 4 to 65,536 extents, which have 262,144 pages at most
abbrev pub is_shape : ℕ → ℕ → Bool
is_shape extents extent_pages =
    nat_le 4 extents && nat_le extents 65536 && is_extent_size extent_pages && nat_le (extents * extent_pages) 262144

-- how many pages hold the extent map, 512 extents each
abbrev pub map_pages : ℕ → ℕ
map_pages extents = (extents + 511) / 512

-- how many pages a new database has: the root page, 16 table pages and the extent map
abbrev pub first_count : ℕ → ℕ
first_count extents = 17 + map_pages extents

-- the first page of an extent
abbrev pub first_page_of : ℕ → ℕ → ℕ → ℕ
first_page_of extents extent_pages e = first_count extents + e * extent_pages
