-- What opening a database does to its file, and what a store shows that was just opened.
use Rattle.std.specs.Prelude.{◌≡◌, ◌≤◌, ℕ, Bool, false, if◌then◌else◌, List, [], ◌∷◌, Option, Some, None}
use Rattle.std.specs.Option.{option_map}
use Rattle.store_api.specs.StoreState.{StoreState}
use Rattle.store_api.specs.Moments.{Outcomes}
use Rattle.store_api.specs.declared.shape.Shape.{Shape}
use Rattle.mdc_words.specs.Time.{OverTime, RestsAt}
use Rattle.mdc_outside.specs.Disk.{File, IsImage, overwritten}
use Rattle.mdc_outside.specs.Moments.{Beside}
use Rattle.page_store.specs.declared.desk.Desk.{Desk}
use Rattle.page_store.specs.Changes.{nothing}
use Rattle.page_file.specs.Leaving.{LeavesImage}
use Rattle.page_file.specs.declared.layout.TheConstants.{GATE}
use Rattle.redo_journal.specs.Images.{Numbered}
use Rattle.redo_journal.specs.Layout.{is_open, journal_of}
use Rattle.redo_journal.specs.Pieces.{homed}
use Rattle.page_store.specs.FileStore.{beside_of}
use Rattle.page_store.specs.Opening.{StandsAs}
use Rattle.page_store.specs.Standing.{pages_in}

-- the bytes that a read gives, where the file is told
abbrev pub file_bytes : Option File → Option (List ℕ)
file_bytes told = option_map (λ file. file.bytes) told

-- the bytes of a file once these images are in their home pages and the gate of its journal is closed
abbrev pub brought_home : Numbered → List ℕ → List ℕ
brought_home images file = overwritten GATE (0 ∷ []) (homed images file)

-- the bytes of a file once it was opened: a journal that counts was brought home, and else nothing was written
abbrev pub opened_bytes : List ℕ → List ℕ
opened_bytes file = if is_open file then brought_home (journal_of file) file else file

-- an image that a crash could leave of the file
abbrev pub CouldBeLeft : File → List ℕ → Type 0
CouldBeLeft before image = IsImage before.since image

-- Time goes on over an opening. At its origin all of the file was on the disk. Up to it a crash leaves only images that
-- could be left of the file as the opening began, and from it on only images that stand for the pages of the file, with the
-- tape as it was.
pub record StandsSince {D : Type 0} (clock : D → ℕ) (moment : D → ℕ → List ℕ → List ℕ → Type 0) (file : File) (said : List ℕ) (old origin new : D) : Type 0 where
  pub until : OverTime clock moment (LeavesImage (CouldBeLeft file) said) old origin
  pub at_origin : RestsAt clock moment (LeavesImage (StandsAs file.bytes) said) origin
  pub since : OverTime clock moment (LeavesImage (StandsAs file.bytes) said) origin new

-- An opening that had all on the disk at some moment: where the file is told, it stays told, and it and all that a crash
-- leaves after it stand for the pages that the file stood for; where the tape is told too, so does what a crash leaves at
-- each moment since then. All beside the file is as it was.
pub record Opens {D : Type 0} (file : D → Option File) (aside : D → Beside) (attaches : D → Option (List (List ℕ × Bool))) (is_attached : D → Bool) (clock : D → ℕ) (moment : D → ℕ → List ℕ → List ℕ → Type 0) (old new : D) : Type 0 where
  pub untold : file old ≡ None → file new ≡ None
  pub told : (before : File) → file old ≡ Some before → (after : File) × (file new ≡ Some after) × StandsAs before.bytes after.bytes
      × ((image : List ℕ) → IsImage after.since image → StandsAs before.bytes image)
  pub crash : (before : File) (said : List ℕ) → file old ≡ Some before → (aside old).tape ≡ Some said
      → (origin : D) × StandsSince clock moment before said old origin new
  pub later : clock old ≤ clock new
  pub attached : is_attached new ≡ is_attached old
  pub listed : attaches new ≡ attaches old
  pub beside : aside new ≡ aside old

-- Since each time since which a host leaves only images that stand for the pages of this file, with these bytes said, the
-- store leaves these pages alone.
abbrev pub LeavesBaseSince : (ℕ → List ℕ → List ℕ → Type 0) → (ℕ → Outcomes) → List ℕ → List ℕ → Type 0
LeavesBaseSince moment left file said =
    (t : ℕ) → ((image tape : List ℕ) → moment t image tape → StandsAs file image × (tape ≡ said))
    → (pages : Option (List (List ℕ))) (told : List ℕ) → left t pages told → (pages ≡ Some (pages_in file)) × (told ≡ said)

-- a desk with nothing on it
pub record IsEmptyDesk (desk : Desk) : Type 0 where
  pub changes : desk.changes ≡ nothing desk.base
  pub cache : desk.cache ≡ []
  pub hand : desk.hand ≡ None
  pub prepared : desk.prepared ≡ false
  pub halt : desk.halt ≡ None

-- a store of this shape that was just opened over a host that tells its file or not, and this tape and these attaches, with a log that
-- tells these fetches
abbrev pub IsJustOpened : Bool → Option (List ℕ) → Shape → Option (List (List ℕ × Bool)) → Option (List ℕ) → StoreState → Type 0
IsJustOpened is_told tape shape attaches fetched state =
    state ≡ record {
      is_told = is_told;
      base = state.base;
      work = state.base;
      marked = None;
      hand = None;
      prepared = false;
      ended = false;
      told = tape;
      fetched = fetched;
      file = state.file;
      beside = beside_of shape attaches;
    }
