-- What each run of calls keeps of a store.
use Rattle.std.specs.Prelude.{◌≡◌, ◌≤◌, length}
use Rattle.mdc_words.specs.Time.{OverTime, RestsAt}
use Rattle.store_api.specs.Moments.{OnlyBase, AtRest}
use Rattle.store_api.specs.declared.pages.Pages.{Ghosts}

-- A run of any calls but `commit` and `tell`: the base stands, no byte of the file is another, no byte is told, no count of
-- faults fell, that of telling stood still, and a crash meanwhile leaves the base.
pub record Steady {S : Type 0} (g : Ghosts S) (old new : S) : Type 0 where
  pub is_told : (g.state new).is_told ≡ (g.state old).is_told
  pub base : (g.state new).base ≡ (g.state old).base
  pub ended : (g.state new).ended ≡ (g.state old).ended
  pub told : (g.state new).told ≡ (g.state old).told
  pub file : (g.state new).file ≡ (g.state old).file
  pub beside : (g.state new).beside ≡ (g.state old).beside
  pub disk_faults : g.disk_faults old ≤ g.disk_faults new
  pub say_faults : g.say_faults new ≡ g.say_faults old
  pub time : OverTime g.clock g.left (OnlyBase (g.state old)) old new

-- A run of calls that fetch, write, edit and grow: the mark stands too, and pages may have come, but none is gone.
pub record Works {S : Type 0} (g : Ghosts S) (old new : S) : Type 0 where
  pub steady : Steady g old new
  pub marked : (g.state new).marked ≡ (g.state old).marked
  pub no_shorter : length (g.state old).work ≤ length (g.state new).work

-- a crash now leaves what the state says
abbrev pub Rests : {S : Type 0} → Ghosts S → S → Type 0
Rests g s = RestsAt g.clock g.left (AtRest (g.state s)) s
