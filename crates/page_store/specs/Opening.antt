-- What opening a file finds (docs/FORMAT.md, "Opening").
use Rattle.std.specs.Prelude.{◌≡◌, ◌≢◌, ◌⊎◌, ◌≤◌, ℕ, ◌+◌, ◌-◌, ◌*◌, ◌/◌, IsTrue, IsFalse, List, [], ◌∷◌, length, take, drop}
use Rattle.byteorder.specs.Endian.{big_number}
use Rattle.mdc_outside.specs.Disk.{File, all_synced}
use Rattle.page_file.specs.Layout.{file_page, home_start, page_start, FrontStays}
use Rattle.redo_journal.specs.Layout.{is_open}
use Rattle.store_api.specs.StoreState.{stated_in}
use Rattle.store_api.specs.declared.fault.Damage.{Damage}
use Rattle.page_store.specs.declared.fault.OpenFault.{OpenFault}
use Rattle.page_store.specs.declared.fault.OpenFault.TheVariants.{Exists, Unmade, NotMdc, Version, Device, Damaged, Memory}
use Rattle.store_api.specs.Extents.{first_count}
use Rattle.store_api.specs.Format.{first_format}
use Rattle.page_store.specs.Shape.{IsBirth, extents_in, extent_pages_in}
use Rattle.page_store.specs.Standing.{IsFitting, IsFormed, Stands, page_of, count_of, pages_in, is_made}
use Rattle.page_store.specs.Fresh.{IsUnmade}
use Rattle.page_file.specs.declared.layout.TheConstants.{FIRST_PAGE, PAGE_BYTES}

-- Page 0 is whole and begins with `ROOT`, and its count is that of a new database and of some whole extents.
pub record IsRoot (extents extent_pages : ℕ) (page : List ℕ) : Type 0 where
  pub size : length page ≡ PAGE_BYTES
  pub begins : take 4 page ≡ 82 ∷ 79 ∷ 79 ∷ 84 ∷ []
  pub counts : (used : ℕ) × (used ≤ extents) × (stated_in page ≡ first_count extents + used * extent_pages)

-- a journal that counts fits, and page 0 has its form
pub record IsRead (file : List ℕ) : Type 0 where
  pub journal : IsTrue (is_open file) → IsFitting file
  pub root : IsRoot (extents_in (file_page file 1)) (extent_pages_in (file_page file 1)) (page_of file 0)

-- no page is missing
abbrev pub IsWhole : List ℕ → Type 0
IsWhole file = home_start (count_of file) ≤ length file

-- the version that page 0 states
abbrev pub version_of : List ℕ → ℕ
version_of file = big_number 4 (drop 4 (page_of file 0))

-- the file is long enough and its made byte is open
abbrev pub IsMade : List ℕ → Type 0
IsMade file = (page_start 2 ≤ length file) × IsTrue (is_made file)

-- what is damaged: page 0, or else the first page that isn't whole
abbrev pub IsDamage : Damage → List ℕ → Type 0
IsDamage damage file =
    ((¬ IsRead file) × (damage ≡ record { page = 0; rule = 1 }))
    ⊎ (IsRead file × (¬ IsWhole file) × (damage ≡ record { page = length file / PAGE_BYTES - FIRST_PAGE; rule = 1 }))

-- the file isn't a database's
abbrev pub IsOther : List ℕ → Type 0
IsOther file = IsMade file × (¬ IsBirth (file_page file 1))

-- the file is damaged there
abbrev pub IsDamagedFile : Damage → List ℕ → Type 0
IsDamagedFile damage file = IsMade file × IsBirth (file_page file 1) × IsDamage damage file

-- the file is of another version
abbrev pub IsOfVersion : ℕ → List ℕ → Type 0
IsOfVersion version file =
    IsMade file × IsBirth (file_page file 1) × IsRead file × IsWhole file × (version ≡ version_of file) × (version ≢ first_format.version)

-- the file is a database that can be served
abbrev pub IsServed : List ℕ → Type 0
IsServed file = IsMade file × IsBirth (file_page file 1) × IsRead file × IsWhole file × (version_of file ≡ first_format.version)

-- An image that has all that isn't the store's as it is in that file, and is no longer. Where the file is formed, the image is
-- too, stands for the same pages and has the file's birth page.
abbrev pub StandsAs : List ℕ → List ℕ → Type 0
StandsAs file image = FrontStays file image × (IsFormed file → Stands file (pages_in file) image) × (length image ≤ length file)

-- All is on the disk, the gate is closed, and the file is formed and has so many pages, of a database of this size.
pub record IsAtRest (extents extent_pages pages : ℕ) (file : File) : Type 0 where
  pub synced : file.since ≡ all_synced file.bytes
  pub closed : IsFalse (is_open file.bytes)
  pub formed : IsFormed file.bytes
  pub states_pages : count_of file.bytes ≡ pages
  pub states_extents : extents_in (file_page file.bytes 1) ≡ extents
  pub states_extent_pages : extent_pages_in (file_page file.bytes 1) ≡ extent_pages

-- the cause of each refusal, in what the file holds
abbrev pub Refuses : OpenFault → List ℕ → Type 0
Refuses Exists file = ⊥
Refuses Unmade file = IsUnmade file
Refuses NotMdc file = IsOther file
Refuses (Version version) file = IsOfVersion version file
Refuses Device file = Unit {0}
Refuses (Damaged damage) file = IsDamagedFile damage file
Refuses Memory file = Unit {0}
