-- What has changed of the pages of a store since its last commit.
use Rattle.std.specs.Prelude.{ℕ, ◌+◌, List, [], ◌∷◌, Option, Some, None, replicate}
use Rattle.dirty_pages.specs.Table.{Numbered}

-- for each page what was written over it, or nothing where it is as it was
abbrev pub Overlay : Type 0
Overlay = List (Option (List ℕ))

-- the changes as they are now and, where a mark is open, as they were then
pub record Changed : Type 0 where
  -- how many pages there were at the last commit
  pub base : ℕ
  pub now : Overlay
  pub marked : Option Overlay
  -- how many pages have a change
  pub kept : ℕ
  -- the pages that were written, under their numbers
  pub pages : Numbered

-- no change of n pages
abbrev pub unchanged : ℕ → Overlay
unchanged n = replicate n None

-- nothing has changed of n pages
abbrev pub nothing : ℕ → Changed
nothing n = record { base = n; now = unchanged n; marked = None; kept = 0; pages = [] }

-- how many pages have a change
abbrev pub changed_in : Overlay → ℕ
changed_in [] = 0
changed_in (None ∷ changes) = changed_in changes
changed_in (Some page ∷ changes) = 1 + changed_in changes
