-- A change of a table that is whole by itself: it begins with a mark, and is made and kept, or all is as it was.
use Rattle.std.specs.Prelude.{◌≡◌, ℕ, List, None, OnErr, OnOk, Option, Result, Some}
use Rattle.std.specs.Option.{unwrap_or}
use Rattle.mdc_words.specs.Faults.{CountsFault}
use Rattle.store_api.specs.Fetching.{BringsOnly}
use Rattle.store_api.specs.Frame.{Touches}
use Rattle.store_api.specs.StoreState.{StoreState}
use Rattle.store_api.specs.Works.{Steady}
use Rattle.store_api.specs.declared.fault.StoreFault.{StoreFault}
use Rattle.store_api.specs.declared.fault.StoreFault.TheVariants.{Device}
use Rattle.store_api.specs.declared.pages.Pages.{Ghosts}
use Rattle.store_api.specs.declared.shape.Shape.{Shape}
use Rattle.extent_map.specs.Owners.{AreRightNotes}
use Rattle.extent_map.specs.declared.kind.Kind.{Kind}
use Rattle.extent_map.specs.declared.space_notes.SpaceNotes.{SpaceNotes}
use Rattle.table_trees.specs.ToldPages.{PageList}
use Rattle.free_space.specs.RoomNotes.{IsForgotten}
use Rattle.free_space.specs.declared.rooms.Rooms.{Rooms}

-- a store tells the same pages in two states
pub record HasSamePages {S : Type 0} (g : Ghosts S) (old new : S) : Type 0 where
  pub told : (g.state new).is_told ≡ (g.state old).is_told
  pub same : (g.state new).work ≡ (g.state old).work

-- the pages of the mark, where one is open
abbrev marked_pages : StoreState → PageList
marked_pages state = unwrap_or state.marked state.work

-- ---- how a change begins, and how it ends

-- a change begins
pub record BeginsChange {S : Type 0} (g : Ghosts S) (old new : S) : Type 0 where
  -- the pages are those that there were
  pub pages : HasSamePages g old new
  -- they are marked
  pub marked : (g.state new).marked ≡ Some (g.state old).work
  -- none came to hand
  pub fetched : (g.state new).fetched ≡ (g.state old).fetched
  -- no call of the disk failed
  pub disk_faults : g.disk_faults new ≡ g.disk_faults old
  -- the base stands, also in a crash
  pub steady : Steady g old new

-- a change that was made is kept
pub record KeepsChange {S : Type 0} (g : Ghosts S) (old new : S) : Type 0 where
  -- the pages are those that it made
  pub pages : HasSamePages g old new
  -- none came to hand
  pub fetched : (g.state new).fetched ≡ (g.state old).fetched
  -- no mark is open
  pub unmarked : (g.state new).marked ≡ None
  -- the base stands, also in a crash
  pub steady : Steady g old new

-- a change goes back to its mark
pub record UndoesChange {S : Type 0} (g : Ghosts S) (old new : S) : Type 0 where
  -- the pages are those of the mark
  pub back : (g.state new).work ≡ marked_pages (g.state old)
  -- no mark is open
  pub unmarked : (g.state new).marked ≡ None
  -- the base stands, also in a crash
  pub steady : Steady g old new

-- what was noted of free space and of rooms is forgotten
pub record ForgetsNotes (noted : SpaceNotes) (rooms : Rooms) : Type 0 where
  -- what is noted of free space is right, whatever extents there are and whoever owns them
  pub notes : (shape : Shape) (owners : List Kind) → AreRightNotes shape noted owners
  -- nothing is noted of rooms
  pub forgotten : IsForgotten rooms

-- ---- the whole of it

-- A change of the pages of a store, of which these are mine, that ends with this result, and with this fault of the store if any. It
-- is kept, or all is as it was.
pub record IsWholeChange {S X E : Type 0} (g : Ghosts S) (Mine : ℕ → Type 0) (noted : SpaceNotes) (rooms : Rooms) (old new : S) (result : Result X E) (fault : Option StoreFault) : Type 0 where
  -- after a fault all pages are those that there were
  pub back : OnErr result ((g.state new).work ≡ (g.state old).work)
  -- what is noted of free space then is right, whatever extents there are and whoever owns them
  pub notes : OnErr result ((shape : Shape) (owners : List Kind) → AreRightNotes shape noted owners)
  -- and nothing is noted of rooms
  pub forgotten : OnErr result (IsForgotten rooms)
  -- no mark is open
  pub unmarked : (g.state new).marked ≡ None
  -- the base stands, also in a crash
  pub steady : Steady g old new
  -- a fault of the disk is answered only where one was counted, and nothing else is counted
  pub device : CountsFault (fault ≡ Some Device) (g.disk_faults old) (g.disk_faults new)
  -- of the pages that were there, only those that are mine may be others
  pub touches : Touches g Mine old new
  -- where it is kept, only those that are mine came to hand
  pub brings : OnOk result (BringsOnly g Mine old new)
