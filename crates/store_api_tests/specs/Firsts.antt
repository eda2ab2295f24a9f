-- The first bytes of pages.
use Rattle.std.specs.Prelude.{◌≡◌, ◌≢◌, ◌+◌, ◌<◌, ◌≤◌, ℕ, zero, suc, List, slice_index, [], Option, MatchOption}
use Rattle.store_api.specs.Frame.{Part, HoldsPage}
use Rattle.store_api.specs.declared.fault.Damage.{Damage}
use Rattle.store_api.specs.declared.pages.Pages.{Ghosts}

-- the sum of the first bytes of so many pages from one on
abbrev pub sum_first : Part → ℕ → ℕ → ℕ
sum_first part a zero = 0
sum_first part a (suc n) = sum_first part a n + slice_index (part (a + n)) 0

-- each page from one on to before another is told to be what the part says
pub record HoldsAll {S : Type 0} (g : Ghosts S) (s : S) (a b : ℕ) (part : Part) : Type 0 where
  pub each : (p : ℕ) → a ≤ p → p < b → HoldsPage g s p (part p)

-- no page from one on to before another begins so
abbrev pub NoneBegins : Part → ℕ → ℕ → ℕ → Type 0
NoneBegins part a b byte = (p : ℕ) → a ≤ p → p < b → slice_index (part p) 0 ≢ byte

-- the first page that begins so, where there is one
abbrev pub FindsFirst : Part → ℕ → ℕ → ℕ → Option ℕ → Type 0
FindsFirst part a b byte found = MatchOption found (NoneBegins part a b byte) (λ p. NoneBegins part a p byte × (slice_index (part p) 0 ≡ byte))

-- the page doesn't begin with 77
abbrev pub BreaksFirst : {S : Type 0} → Ghosts S → S → Damage → Type 0
BreaksFirst g s damage = (bytes : List ℕ) → HoldsPage g s damage.page bytes → slice_index bytes 0 ≢ 77

-- the root names a page by its first byte, and both are in the part
pub record IsLinked (root : ℕ) (part : Part) : Type 0 where
  pub root_there : part root ≢ []
  pub page_there : part (slice_index (part root) 0) ≢ []
