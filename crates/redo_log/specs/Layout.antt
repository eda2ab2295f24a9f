-- The log in a file: its gates and the headers of its records in file page 0, and its records in file pages 2 to 65. Each
-- record is index pages with the numbers of its images, and then the images, as a journal is.
use Rattle.std.specs.Prelude.{◌≡◌, ◌≢◌, ◌≤◌, ◌<◌, ◌==◌, ℕ, zero, suc, ◌+◌, ◌*◌, if◌then◌else◌, List, [], ◌∷◌, ◌++◌, length, take, drop, slice_index}
use Rattle.byteorder.specs.Endian.{big_number}
use Rattle.mdc_outside.specs.Disk.{Since, torn}
use Rattle.page_file.specs.Layout.{page_start}
use Rattle.page_file.specs.declared.layout.TheConstants.{FIRST_PAGE}
use Rattle.redo_journal.specs.Images.{Numbered, AreRising}
use Rattle.redo_journal.specs.Layout.{entries, index_pages}
use Rattle.redo_log.specs.declared.layout.TheConstants.{LOG_GATES, GATE_COUNT, LOG_HEADERS, LOG_HEADER_BYTES, FIRST_LOG_PAGE}

-- the file page that a header names, at which its images start. The journal's header is one too.
abbrev pub start_in : ℕ → List ℕ → ℕ
start_in header file = big_number 4 (drop header file)

-- how many images a header names
abbrev pub number_in : ℕ → List ℕ → ℕ
number_in header file = big_number 4 (drop (header + 4) file)

-- the images under a header
abbrev pub stored_in : ℕ → List ℕ → Numbered
stored_in header file =
    entries (number_in header file) (drop (page_start (start_in header file)) file) (drop (page_start (start_in header file + index_pages (number_in header file))) file)

-- the file page behind them
abbrev pub end_in : ℕ → List ℕ → ℕ
end_in header file = start_in header file + index_pages (number_in header file) + number_in header file

-- where the header of record k stands
abbrev pub header_at : ℕ → ℕ
header_at k = LOG_HEADERS + LOG_HEADER_BYTES * k

-- the images of record k, whatever its gate says
abbrev pub record_at : ℕ → List ℕ → Numbered
record_at k file = stored_in (header_at k) file

-- the file page at which record k starts
abbrev pub start_at : ℕ → List ℕ → ℕ
start_at k file = start_in (header_at k) file

-- the file page behind record k
abbrev pub end_at : ℕ → List ℕ → ℕ
end_at k file = end_in (header_at k) file

-- the file page behind the first n records
abbrev pub log_end : ℕ → List ℕ → ℕ
log_end zero file = FIRST_LOG_PAGE
log_end (suc n) file = end_at n file

-- how many of these gates stand open before the first that doesn't
abbrev pub leading : List ℕ → ℕ
leading [] = 0
leading (gate ∷ gates) = if gate == 79 then suc (leading gates) else 0

-- the bytes of the gates
abbrev pub gates_in : List ℕ → List ℕ
gates_in file = take GATE_COUNT (drop LOG_GATES file)

-- these are the gates of the file; where it ends before one, that one is closed
pub record AreGates (gates file : List ℕ) : Type 0 where
  pub size : length gates ≡ GATE_COUNT
  pub each : (k : ℕ) → k < GATE_COUNT → slice_index gates k ≡ slice_index file (LOG_GATES + k)

-- how many records count: those whose gates are open and have none below them that isn't
abbrev pub records_in : List ℕ → ℕ
records_in file = leading (gates_in file)

-- the first n gates are open, and the next isn't
pub record HasRecords (n : ℕ) (file : List ℕ) : Type 0 where
  pub most : n ≤ GATE_COUNT
  pub opened : (k : ℕ) → k < n → slice_index file (LOG_GATES + k) ≡ 79
  pub stops : n < GATE_COUNT → slice_index file (LOG_GATES + n) ≢ 79

-- no gate from the nth on is open
pub record NoneFrom (n : ℕ) (file : List ℕ) : Type 0 where
  pub shut : (k : ℕ) → n ≤ k → k < GATE_COUNT → slice_index file (LOG_GATES + k) ≢ 79

-- all gates from the nth on hold the byte of a closed gate as it is written
pub record AreClosedFrom (n : ℕ) (file : List ℕ) : Type 0 where
  pub zero : (k : ℕ) → n ≤ k → k < GATE_COUNT → slice_index file (LOG_GATES + k) ≡ 0

-- the images of the first n records, the newest record first
abbrev pub newest : ℕ → List ℕ → Numbered
newest zero file = []
newest (suc n) file = record_at n file ++ newest n file

-- record k lies within the log, behind all records below it, and within the file, and its numbers rise
pub record IsLaid (k : ℕ) (file : List ℕ) : Type 0 where
  pub behind_gates : FIRST_LOG_PAGE ≤ start_at k file
  pub behind : (j : ℕ) → j < k → end_at j file ≤ start_at k file
  pub in_log : end_at k file ≤ FIRST_PAGE
  pub in_file : page_start (end_at k file) ≤ length file
  pub rising : AreRising (record_at k file)

-- so do the first n records
abbrev pub AreLaid : ℕ → List ℕ → Type 0
AreLaid n file = (k : ℕ) → k < n → IsLaid k file

-- how many file pages so many images take in the log
abbrev pub need_of : ℕ → ℕ
need_of m = index_pages m + m

-- record k with m images is being written from a file page on
abbrev pub torn_record : ℕ → ℕ → ℕ → Since → Since
torn_record k start m since = torn (page_start start) (page_start (need_of m)) (torn (header_at k) LOG_HEADER_BYTES since)
