-- The bytes of a journal, piece by piece.
use Rattle.std.specs.Prelude.{◌≡◌, ℕ, zero, suc, ◌-◌, ◌*◌, List, [], ◌∷◌, ◌++◌, length, take, drop, replicate}
use Rattle.std.specs.List.{flat_map}
use Rattle.page_file.specs.Layout.{home_start}
use Rattle.byteorder.specs.Endian.{big_bytes}
use Rattle.mdc_outside.specs.Disk.{overwritten}
use Rattle.store_api.specs.StoreState.{zero_page}
use Rattle.redo_journal.specs.Images.{Numbered}

-- the numbers of the images, as they stand in the index
abbrev pub number_bytes : Numbered → List ℕ
number_bytes images = flat_map (λ image. big_bytes 4 image.0) images

-- the pages of the images, one after the other
abbrev pub page_bytes : Numbered → List ℕ
page_bytes images = flat_map (λ image. image.1) images

-- the images whose numbers stand in an index page
abbrev pub chunk : ℕ → Numbered → Numbered
chunk first images = take 1024 (drop first images)

-- a page with the numbers of these images, and zeros behind them
abbrev pub index_page : Numbered → List ℕ
index_page images = number_bytes images ++ drop (4 * length images) zero_page

-- the first k index pages
abbrev pub index_bytes : ℕ → Numbered → List ℕ
index_bytes zero images = []
index_bytes (suc k) images = index_bytes k images ++ index_page (chunk (k * 1024) images)

-- from a place on, the bytes are now these, and behind them any
abbrev pub Replaces : ℕ → List ℕ → List ℕ → List ℕ → Type 0
Replaces at piece old new = (rest : List ℕ) × (new ≡ take at old ++ piece ++ rest)

-- the start and the number of images, as they stand in the file
abbrev pub header : ℕ → ℕ → List ℕ
header start n = big_bytes 4 start ++ big_bytes 4 n

-- the bytes, with a piece from a place on; where they end before it, zeros stand up to it
abbrev pub placed : ℕ → List ℕ → List ℕ → List ℕ
placed at piece bytes = overwritten at piece (bytes ++ replicate (at - length bytes) 0)

-- the bytes, with each image in its home page
abbrev pub homed : Numbered → List ℕ → List ℕ
homed [] bytes = bytes
homed (image ∷ images) bytes = homed images (placed (home_start image.0) image.1 bytes)
