-- The bytes of a page where slots are put in, taken out, or laid down.
use Rattle.std.specs.Prelude.{ℕ, ◌+◌, ◌-◌, List, ◌++◌, take, drop, length}
use Rattle.byteorder.specs.Endian.{big_bytes}
use Rattle.store_api.specs.StoreState.{patched, zero_page}

-- the page with these bytes put in at a place, and what lay from there to the end moved behind them
abbrev pub opened_up : ℕ → ℕ → List ℕ → List ℕ → List ℕ
opened_up at end bytes page = take at page ++ bytes ++ take (end - at) (drop at page) ++ drop (end + length bytes) page

-- the zeros of a page from a place on up to an end
abbrev pub zeros_between : ℕ → ℕ → List ℕ
zeros_between from end = take (end - from) (drop from zero_page)

-- the page without the n bytes at a place: what lay behind them up to the end moved there, and zeros behind that
abbrev pub closed_up : ℕ → ℕ → ℕ → List ℕ → List ℕ
closed_up at n end page = take at page ++ take (end - (at + n)) (drop (at + n) page) ++ zeros_between (end - n) end ++ drop end page

-- the page with zeros from a place on up to an end
abbrev pub blanked : ℕ → ℕ → List ℕ → List ℕ
blanked from end page = take from page ++ zeros_between from end ++ drop end page

-- the page with another count of entries
abbrev pub with_count : ℕ → List ℕ → List ℕ
with_count n page = patched 4 (big_bytes 2 n) page
