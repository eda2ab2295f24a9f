-- Images of pages under their numbers.
pub use Rattle.store_api.specs.NumberedPages.{Numbered, AreRising, unboxed}
use Rattle.std.specs.Prelude.{◌≡◌, ◌<◌, ℕ, List, length}
use Rattle.page_file.specs.declared.layout.TheConstants.{PAGE_BYTES}

-- the number fits 32 bits, and the page has 4,096 bytes
abbrev pub IsPageImage : ℕ × List ℕ → Type 0
IsPageImage image = (image.0 < 4294967296) × (length image.1 ≡ PAGE_BYTES)
