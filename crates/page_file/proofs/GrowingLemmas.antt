-- How long a file of pages becomes.
use Rattle.std.proofs.Common.{◌≡◌, ◌≤◌, ◌+◌, ◌*◌, ◌/◌, ℕ, List, length, max, arith}
use Rattle.page_file.specs.Layout.{FrontStays}
use Rattle.page_file.specs.Growing.{GrewFrom, index_pages, most_bytes}
use Rattle.page_file.proofs.FrontLemmas.{front_stays_itself, front_stays_then}

-- more numbers need no fewer pages
pub index_pages-le : (few many : ℕ) → few ≤ many → index_pages few ≤ index_pages many
index_pages-le few many le = omega (arith, le)

-- more pages need no fewer bytes
pub most_bytes-le : (few many : ℕ) → few ≤ many → most_bytes few ≤ most_bytes many
most_bytes-le few many le = omega (arith, le, index_pages-le few many le)

-- what has its front and is as long
pub grew_not : (first file : List ℕ) (count : ℕ) → FrontStays first file → length file ≤ length first → GrewFrom first count file
grew_not first file count front size = record { front = front; size = omega (arith, size) }

-- A file that grew, and then took a journal of some of its pages behind them all.
pub grew_then : (first file image : List ℕ) (few many n : ℕ) → GrewFrom first few file → FrontStays file image → few ≤ many → n ≤ many
    → length image ≤ max (length file) (4096 * (66 + many + index_pages n + n)) → GrewFrom first many image
grew_then first file image few many n grew front le within reach = record {
  front = front_stays_then first file image grew.front front;
  size = omega (arith, grew.size, reach, le, within, index_pages-le n many within, most_bytes-le few many le);
}
