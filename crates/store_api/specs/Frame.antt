-- Which pages are told to hold what, and which pages a run of calls leaves alone.
use Rattle.std.specs.Prelude.{◌≡◌, ◌≢◌, ◌<◌, ◌≤◌, ◌+◌, ℕ, IsTrue, List, [], length}
use Rattle.store_api.specs.StoreState.{page_at, patched, stated_count, zero_page}
use Rattle.store_api.specs.declared.pages.Pages.{Ghosts}

-- Page p of the work is told to be these bytes. A store that doesn't tell what its pages hold has no such page.
pub record HoldsPage {S : Type 0} (g : Ghosts S) (s : S) (p : ℕ) (bytes : List ℕ) : Type 0 where
  pub is_told : IsTrue (g.state s).is_told
  pub within : p < length (g.state s).work
  pub bytes_are : page_at (g.state s).work p ≡ bytes

-- each page that was there, and isn't mine, is as it was
pub record Touches {S : Type 0} (g : Ghosts S) (Mine : ℕ → Type 0) (old new : S) : Type 0 where
  pub others : (p : ℕ) (bytes : List ℕ) → (Mine p → ⊥) → HoldsPage g old p bytes → HoldsPage g new p bytes

-- page p, where its bytes were told, is these bytes now
pub record WritesPage {S : Type 0} (g : Ghosts S) (p : ℕ) (bytes : List ℕ) (old new : S) : Type 0 where
  pub there : (was : List ℕ) → HoldsPage g old p was → HoldsPage g new p bytes

-- page p, where its bytes were told, has these bytes from a place on
pub record PatchesPage {S : Type 0} (g : Ghosts S) (p at : ℕ) (bytes : List ℕ) (old new : S) : Type 0 where
  pub there : (was : List ℕ) → HoldsPage g old p was → HoldsPage g new p (patched at bytes was)

-- n pages came, which are told to be zeros
pub record GrowsBy {S : Type 0} (g : Ghosts S) (n : ℕ) (old new : S) : Type 0 where
  pub count : length (g.state new).work ≡ length (g.state old).work + n
  pub zeros : IsTrue (g.state old).is_told → (p : ℕ) → length (g.state old).work ≤ p → p < length (g.state old).work + n → HoldsPage g new p zero_page

-- the pages that one structure has, and no bytes for any other page
abbrev pub Part : Type 0
Part = ℕ → List ℕ

-- each page of the part is told to hold what the part says
pub record IsPart {S : Type 0} (g : Ghosts S) (s : S) (part : Part) : Type 0 where
  pub each : (p : ℕ) → part p ≢ [] → HoldsPage g s p (part p)

-- no page at all
abbrev pub NoPage : ℕ → Type 0
NoPage p = ⊥

-- one page
abbrev pub OnlyPage : ℕ → ℕ → Type 0
OnlyPage q p = p ≡ q

-- page 0 states how many pages there are, where that is told
pub record IsCounted {S : Type 0} (g : Ghosts S) (s : S) : Type 0 where
  pub counts : IsTrue (g.state s).is_told → stated_count (g.state s).work ≡ length (g.state s).work

-- the pages of a structure, where its part is told and has the shape
abbrev pub Own : {S : Type 0} → Ghosts S → S → (Part → Type 0) → ℕ → Type 0
Own g s Shape p = (part : Part) → IsPart g s part → Shape part → part p ≢ []

-- no part that is told has the shape
abbrev pub IsBroken : {S : Type 0} → Ghosts S → S → (Part → Type 0) → Type 0
IsBroken g s Shape = (part : Part) → IsPart g s part → Shape part → ⊥

-- the first has no page of the second
abbrev pub AreApart : Part → Part → Type 0
AreApart first second = (p : ℕ) → first p ≢ [] → second p ≡ []
