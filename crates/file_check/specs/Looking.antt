-- Which pages a judge looks at, and what it may name as damage of its own: nothing, where the pages are told and what it rests on
-- holds.
use Rattle.std.specs.Prelude.{ℕ, IsTrue}
use Rattle.store_api.specs.declared.fault.Damage.{Damage}
use Rattle.store_api.specs.declared.pages.Pages.{Ghosts}
use Rattle.table_trees.specs.ToldPages.{PageList}

-- any page
abbrev pub AnyPage : ℕ → Type 0
AnyPage p = Unit {0}

-- the pages aren't told, or they don't hold what they should
abbrev pub Unless : {S : Type 0} → Ghosts S → S → (PageList → Type 0) → Damage → Type 0
Unless g s Holds damage = IsTrue (g.state s).is_told → Holds (g.state s).work → ⊥

-- the pages aren't told
abbrev pub UnlessTold : {S : Type 0} → Ghosts S → S → Damage → Type 0
UnlessTold g s damage = IsTrue (g.state s).is_told → ⊥
