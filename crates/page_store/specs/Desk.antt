-- What a store has in memory beside its file, and what the two together are seen as.
use Rattle.std.specs.Prelude.{◌≡◌, ◌⊎◌, ◌≤◌, ◌<◌, ℕ, IsTrue, IsSome, is_some, List, [], length, replicate, slice_get, slice_index_or, Option, Some, None, Result, OnOk, OnErr}
use Rattle.std.specs.Option.{ForSome, option_map}
use Rattle.store_api.specs.StoreState.{Beside, StoreState, stated_count}
use Rattle.mdc_outside.specs.Disk.{File, IsImage}
use Rattle.redo_journal.specs.Images.{Numbered, AreRising}
use Rattle.page_file.specs.Layout.{home_page, FrontStays}
use Rattle.page_store.specs.declared.desk.Desk.{Desk}
use Rattle.page_store.specs.declared.desk.Hand.{Hand}
use Rattle.page_store.specs.declared.desk.Hand.TheVariants.{Changed, Clean}
use Rattle.page_store.specs.declared.write_through.Halt.{Halt}
use Rattle.page_store.specs.declared.write_through.Halt.TheVariants.{BeforeHome, BehindGate}
use Rattle.mdc_words.specs.Listed.{listed}
use Rattle.page_store.specs.Standing.{pages_in, IsFormedAs}
use Rattle.page_store.specs.Changes.{Overlay, laid_over, image_in, HoldsBelow}
use Rattle.page_store.specs.Cached.{AreHome}
use Rattle.page_store.specs.Opening.{IsAtRest}

-- The pages of the last commit. Once a commit has failed behind its gate, they are what the journal makes of them.
abbrev pub base_in : Option Halt → ℕ → List ℕ → List (List ℕ)
base_in None count file = listed count (home_page file)
base_in (Some BeforeHome) count file = listed count (home_page file)
base_in (Some BehindGate) count file = pages_in file

-- the base, where the file is told, and else how many pages it has
abbrev pub base_of : Option File → Desk → List (List ℕ)
base_of None desk = replicate desk.base []
base_of (Some file) desk = base_in desk.halt desk.base file.bytes

-- the base with changes laid over it, and where the file isn't told how many pages that makes
abbrev pub work_of : Option File → Desk → Overlay → List (List ℕ)
work_of None desk changes = replicate (length changes) []
work_of (Some file) desk changes = laid_over changes (base_in desk.halt desk.base file.bytes)

-- the page at hand
abbrev pub page_at_hand : Option Hand → Overlay → Numbered → Option (List ℕ)
page_at_hand None changes cache = None
page_at_hand (Some (Changed p)) changes cache = slice_index_or changes p None
page_at_hand (Some Clean) changes cache = option_map (λ entry. entry.1) (slice_get cache 0)

-- what a store is seen as
abbrev pub state_of : Option File → Option (List ℕ) → Beside → Desk → StoreState
state_of told tape beside desk = record {
  is_told = is_some told;
  base = base_of told desk;
  work = work_of told desk desk.changes.now;
  marked = option_map (work_of told desk) desk.changes.marked;
  hand = page_at_hand desk.hand desk.changes.now desk.cache;
  prepared = desk.prepared;
  ended = is_some desk.halt;
  told = tape;
  fetched = None;
  file = option_map (λ file. file.bytes) told;
  beside = beside;
}

-- The pages that were written are the images that make the work, in the order of their numbers. Its page 0 states how many
-- pages it has, and no mark is open.
pub record IsPrepared (desk : Desk) (told : Option File) : Type 0 where
  pub holds : HoldsBelow (length desk.changes.now) (image_in desk.base desk.changes.now) desk.changes.pages
  pub rising : AreRising desk.changes.pages
  pub counted : ForSome told (λ file. stated_count (laid_over desk.changes.now (listed desk.base (home_page file.bytes))) ≡ length desk.changes.now)
  pub unmarked : desk.changes.marked ≡ None

-- a number between two
abbrev pub IsBetween : ℕ → ℕ → ℕ → Type 0
IsBetween low high n = (low ≤ n) × (n ≤ high)

-- What the desk has fits the file, which is at rest: between the calls of a store in which no commit has failed.
pub record IsKept (desk : Desk) (told : Option File) : Type 0 where
  pub at_rest : ForSome told (IsAtRest desk.shape.extents desk.shape.extent_pages desk.base)
  pub clean : ForSome told (λ file. AreHome file.bytes desk.base desk.cache)
  pub some : 18 ≤ desk.base
  pub based : desk.changes.base ≡ desk.base
  pub count : IsBetween desk.base 262289 (length desk.changes.now)
  pub marked : ForSome desk.changes.marked (λ changes. IsBetween desk.base (length desk.changes.now) (length changes))
  pub hand : IsSome desk.hand → IsSome (page_at_hand desk.hand desk.changes.now desk.cache)
  pub ready : IsTrue desk.prepared → IsPrepared desk told

-- where the page of a number lies in memory: it was changed or grown, or else it is a clean page
abbrev pub IsPlaced : ℕ → Desk → Option Hand → Type 0
IsPlaced p desk None = (p < desk.base) × (image_in desk.base desk.changes.now p ≡ None)
IsPlaced p desk (Some hand) =
    (page : List ℕ) × (page_at_hand (Some hand) desk.changes.now desk.cache ≡ Some page) × (image_in desk.base desk.changes.now p ≡ Some page)

-- an image that is formed, states the shape and stands for the base or for the work
abbrev pub StandsForEither : Desk → File → List ℕ → Type 0
StandsForEither desk file image =
    IsFormedAs desk.shape image × ((pages_in image ≡ base_of (Some file) desk) ⊎ (pages_in image ≡ work_of (Some file) desk desk.changes.now))

-- such an image, with all that isn't the store's as it is in the file
abbrev pub CommitLeaves : Desk → File → List ℕ → Type 0
CommitLeaves desk file image = StandsForEither desk file image × FrontStays file.bytes image

-- what a crash leaves from now on stands for the base or for the work
abbrev pub RestsEither : Desk → File → Type 0
RestsEither desk file = (image : List ℕ) → IsImage file.since image → StandsForEither desk file image

-- how many pages differ from the base, or may differ
abbrev pub written_in : Desk → ℕ
written_in desk = desk.changes.kept

-- a step of a store, whatever is told of the tape and lies beside its pages
abbrev pub Does : (StoreState → StoreState → Type 0) → Option File → Desk → Option File → Desk → Type 0
Does step before old after new =
    (tape : Option (List ℕ)) (beside : Beside) → step (state_of before tape beside old) (state_of after tape beside new)

-- the same where a call succeeds
abbrev pub DoesOnOk : {T E : Type 0} → Result T E → (StoreState → StoreState → Type 0) → Option File → Desk → Option File → Desk → Type 0
DoesOnOk result step before old after new =
    (tape : Option (List ℕ)) (beside : Beside) → OnOk result (step (state_of before tape beside old) (state_of after tape beside new))

-- the same where it fails
abbrev pub DoesOnErr : {T E : Type 0} → Result T E → (StoreState → StoreState → Type 0) → Option File → Desk → Option File → Desk → Type 0
DoesOnErr result step before old after new =
    (tape : Option (List ℕ)) (beside : Beside) → OnErr result (step (state_of before tape beside old) (state_of after tape beside new))
