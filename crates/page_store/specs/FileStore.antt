-- What a store in a file is seen as.
use Rattle.std.specs.Prelude.{◌≡◌, ◌⊎◌, ◌≤◌, ℕ, Bool, IsTrue, IfSome, List, Option, Some, None}
use Rattle.std.specs.Option.{ForSome}
use Rattle.store_api.specs.Moments.{Outcomes}
use Rattle.store_api.specs.StoreState.{Beside, StoreState}
use Rattle.store_api.specs.declared.shape.Shape.{Shape}
use Rattle.mdc_outside.specs.Disk.{File}
use Rattle.page_file.specs.Growing.{GrewFrom}
use Rattle.page_store.specs.declared.desk.Desk.{Desk}
use Rattle.page_store.specs.declared.write_through.Halt.{Halt}
use Rattle.page_store.specs.Standing.{Reopens, IsStoreImage, count_of, pages_in}
use Rattle.page_store.specs.Desk.{IsKept}
use Rattle.store_api.specs.declared.pages.TheConstants.{MAX_PAGES}

-- a host, what the store has in memory beside it, and its log
pub record HeldStore (H L : Type 0) : Type 0 where
  pub host : H
  pub desk : Desk
  pub log : L

-- a store whose log tells these fetches
abbrev pub with_log : Option (List ℕ) → StoreState → StoreState
with_log fetched state = record state { fetched = fetched }

-- What a file became that had these bytes first, by commits of at most so many pages; where no commit has failed, of as many
-- as it has.
abbrev pub GrewWhere : Type 0 → List ℕ → List ℕ → Type 0
GrewWhere Going first file = (count : ℕ) × (count ≤ MAX_PAGES) × (Going → count ≡ count_of file) × GrewFrom first count file

-- the same of a file that is told, where it is known what it was first
abbrev pub HasGrown : Option (List ℕ) → Option File → Option Halt → Type 0
HasGrown first told halt = IfSome first (λ bytes. ForSome told (λ file. GrewWhere (halt ≡ None) bytes file.bytes))

-- The store has a file attached and, while no commit has failed, what it has in memory fits the file. The file is what commits
-- made of it since it was opened.
pub record FitsFile (first : Option (List ℕ)) (is_attached : Bool) (told : Option File) (desk : Desk) : Type 0 where
  pub attached : IsTrue is_attached
  pub kept : desk.halt ≡ None → IsKept desk told
  pub grew : HasGrown first told desk.halt

-- what lies beside the pages of a store in a file: the shape that its file states, and the attaches of its host
abbrev pub beside_of : Shape → Option (List (List ℕ × Bool)) → Beside
beside_of shape attaches = record { shape = Some shape; attaches = attaches }

-- what a crash may leave: an image and a tape that the host may leave, by what the image reopens to
abbrev pub left_of : Shape → Option File → Option (List ℕ) → (ℕ → List ℕ → List ℕ → Type 0) → ℕ → Outcomes
left_of shape told tape moment t pages heard =
    (file : File) × (told ≡ Some file) × (said : List ℕ) × (tape ≡ Some said) × (image : List ℕ) × moment t image heard × Reopens shape file.bytes image pages

-- what may be left since a time may be left since an earlier one, where that is so of a host
pub left_of-earlier : (shape : Shape) (told : Option File) (tape : Option (List ℕ)) (moment : ℕ → List ℕ → List ℕ → Type 0) (now : ℕ)
    → ((s t : ℕ) (image heard : List ℕ) → s ≤ t → t ≤ now → moment t image heard → moment s image heard)
    → (s t : ℕ) (pages : Option (List (List ℕ))) (heard : List ℕ) → s ≤ t → t ≤ now → left_of shape told tape moment t pages heard → left_of shape told tape moment s pages heard
left_of-earlier shape told tape moment now back s t pages heard first then left =
    (left.0, left.1, left.2, left.3, left.4, back s t left.4 heard first then left.5, left.6)

-- An image and a tape of a crash, by what a store leaves: it is an image of the store's file, and stands for pages that the
-- store leaves with that tape. Or the store leaves a file that doesn't reopen.
abbrev pub IsLeft : Shape → List ℕ → Outcomes → List ℕ → List ℕ → Type 0
IsLeft shape file left image heard = (IsStoreImage shape file image × left (Some (pages_in image)) heard) ⊎ left None heard
