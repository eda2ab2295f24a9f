-- What one record more makes of a file, and what a crash leaves meanwhile.
use Rattle.std.specs.Prelude.{◌≡◌, ◌⊎◌, ◌≤◌, ◌<◌, ℕ, suc, ◌+◌, IsSome, List, length, take, drop, max, slice_index, unwrap_or}
use Rattle.std.specs.List.{All}
use Rattle.mdc_words.specs.Listed.{listed}
use Rattle.mdc_outside.specs.Disk.{File, IsOutside, all_synced}
use Rattle.store_api.specs.StoreState.{stated_in}
use Rattle.page_file.specs.Layout.{page_start}
use Rattle.redo_journal.specs.Images.{Numbered}
use Rattle.redo_journal.specs.Layout.{index_pages, is_open}
use Rattle.redo_journal.specs.Pieces.{index_bytes}
use Rattle.redo_log.specs.declared.layout.TheConstants.{LOG_GATES, LOG_HEADER_BYTES}
use Rattle.redo_log.specs.Layout.{header_at, number_in, start_at, log_end, record_at, newest, need_of}
use Rattle.redo_log.specs.Log.{IsLogged}
use Rattle.redo_log.specs.Standing.{image_of, page_by, count_by, pages_by, Stands}

-- page p, with these images laid over what the file stands for by its first n records
abbrev pub page_over : ℕ → Numbered → List ℕ → ℕ → List ℕ
page_over n images file p = unwrap_or (image_of images p) (page_by n file p)

-- how many pages there are then, as page 0 states it
abbrev pub count_over : ℕ → Numbered → List ℕ → ℕ
count_over n images file = stated_in (page_over n images file 0)

-- all pages then
abbrev pub pages_over : ℕ → Numbered → List ℕ → List (List ℕ)
pages_over n images file = listed (count_over n images file) (page_over n images file)

-- the count with these images is no less, the images are below it, and those of all pages that are new are among them
pub record IsTaken (n : ℕ) (images : Numbered) (file : List ℕ) : Type 0 where
  pub named : All (λ image. image.0 < count_over n images file) images
  pub no_less : count_by n file ≤ count_over n images file
  pub grown : (p : ℕ) → count_by n file ≤ p → p < count_over n images file → IsSome (image_of images p)

-- the index of these images stands from a file page on, with zeros behind the last number
abbrev pub HasIndex : ℕ → Numbered → List ℕ → Type 0
HasIndex start images file = take (page_start (index_pages (length images))) (drop (page_start start) file) ≡ index_bytes (index_pages (length images)) images

-- record k holds these images from a file page on, whatever its gate says, and all is on the disk
pub record HoldsRecord (k start : ℕ) (images : Numbered) (file : File) : Type 0 where
  pub settled : file.since ≡ all_synced file.bytes
  pub starts : start_at k file.bytes ≡ start
  pub number : number_in (header_at k) file.bytes ≡ length images
  pub images_are : record_at k file.bytes ≡ images
  pub index : HasIndex start images file.bytes
  pub within : page_start (start + need_of (length images)) ≤ length file.bytes

-- An image stands for what the file stood for, or for that with these images. By its first n records alone each page is what
-- it was, so a file whose record was not acknowledged still has them.
pub record StandsEither (n : ℕ) (images : Numbered) (before : File) (image : List ℕ) : Type 0 where
  pub either : Stands before.bytes (pages_by n before.bytes) image ⊎ Stands before.bytes (pages_over n images before.bytes) image
  pub stays : (p : ℕ) → p < count_by n before.bytes → page_by n image p ≡ page_by n before.bytes p

-- No byte was changed but those of record n with so many images: its gate, its header, and its file pages, which start at the
-- log's end. Nothing was cut off, and the image is no longer than the file, or than up to the end of the record.
pub record OnlyRecord (n m : ℕ) (before : File) (image : List ℕ) : Type 0 where
  pub no_shorter : length before.bytes ≤ length image
  pub reach : length image ≤ max (length before.bytes) (page_start (log_end n before.bytes + need_of m))
  pub same : (i : ℕ) → i < length before.bytes → IsOutside i (record { at = LOG_GATES + n; count = 1 }) → IsOutside i (record { at = header_at n; count = LOG_HEADER_BYTES })
      → IsOutside i (record { at = page_start (log_end n before.bytes); count = page_start (need_of m) }) → slice_index image i ≡ slice_index before.bytes i

-- One record more counts, which holds these images behind the others, and the file stands for them laid over what it stood
-- for. The journal's gate is as it was.
pub record IsAdded (n : ℕ) (images : Numbered) (before after : File) : Type 0 where
  pub logged : IsLogged (suc n) after
  pub ends : log_end (suc n) after.bytes ≡ log_end n before.bytes + need_of (length images)
  pub stands : Stands before.bytes (pages_over n images before.bytes) after.bytes
  pub record_is : record_at n after.bytes ≡ images
  pub index : HasIndex (log_end n before.bytes) images after.bytes
  pub older : newest n after.bytes ≡ newest n before.bytes
  pub journal : is_open after.bytes ≡ is_open before.bytes
