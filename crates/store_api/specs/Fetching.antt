-- Which pages a run of calls brought to hand, where that is told.
use Rattle.std.specs.Prelude.{◌≡◌, ◌≢◌, ◌<◌, ◌≤◌, ℕ, List, length, slice_index, All}
use Rattle.store_api.specs.Calls.{continued}
use Rattle.store_api.specs.declared.pages.Pages.{Ghosts}

-- these pages came to hand, in this order
pub record Brought {S : Type 0} (g : Ghosts S) (pages : List ℕ) (old new : S) : Type 0 where
  pub log : (g.state new).fetched ≡ continued pages (g.state old).fetched

-- only pages of this kind came to hand
pub record BringsOnly {S : Type 0} (g : Ghosts S) (Kind : ℕ → Type 0) (old new : S) : Type 0 where
  pub pages : List ℕ
  pub brought : Brought g pages old new
  pub kind : All Kind pages

-- no number stands in the list twice
pub record NoneTwice (pages : List ℕ) : Type 0 where
  pub apart : (i j : ℕ) → i < j → j < length pages → slice_index pages i ≢ slice_index pages j

-- only pages of this kind came to hand, and none of them twice
pub record BringsOnce {S : Type 0} (g : Ghosts S) (Kind : ℕ → Type 0) (old new : S) : Type 0 where
  pub pages : List ℕ
  pub brought : Brought g pages old new
  pub kind : All Kind pages
  pub once : NoneTwice pages

-- the pages from one on to before another
abbrev pub PagesBetween : ℕ → ℕ → ℕ → Type 0
PagesBetween a b p = (a ≤ p) × (p < b)
