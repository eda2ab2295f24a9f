-- What judging a rule says of pages: that it holds, or the lowest page that breaks it (docs/FORMAT.md, "Rules").
use Rattle.std.specs.Prelude.{◌≤◌, ◌⊎◌, ℕ, List, [], ◌∷◌, Option, Some, None, min}
use Rattle.std.specs.List.{AllByRecursion}
use Rattle.store_api.specs.declared.shape.Shape.{Shape}
use Rattle.table_trees.specs.ToldPages.{PageList}
use Rattle.mdc_sound.specs.Breaks.{BreaksRule}

-- this page breaks a rule, or a part of one, and none below it does
pub record IsLowestBreak (Breaks : ℕ → Type 0) (page : ℕ) : Type 0 where
  pub breaks : Breaks page
  pub lowest : (p : ℕ) → Breaks p → page ≤ p

-- it holds, and no page breaks it
pub record HoldsUnbroken (Holds : Type 0) (Breaks : ℕ → Type 0) : Type 0 where
  pub holds : Holds
  pub unbroken : (p : ℕ) → Breaks p → ⊥

-- a rule, or a part of one, holds, and no page breaks it; or the lowest page that breaks it was found
abbrev pub Judges : Type 0 → (ℕ → Type 0) → Option ℕ → Type 0
Judges Holds Breaks None = HoldsUnbroken Holds Breaks
Judges Holds Breaks (Some page) = IsLowestBreak Breaks page

-- the same of a whole rule, by its number
abbrev pub JudgesRule : Shape → PageList → ℕ → Type 0 → Option ℕ → Type 0
JudgesRule shape pages rule Holds = Judges Holds (BreaksRule shape pages rule)

-- ---- several parts

-- the lower of two pages that were found
abbrev pub lower : Option ℕ → Option ℕ → Option ℕ
lower None found = found
lower (Some page) None = Some page
lower (Some page) (Some other) = Some (min page other)

-- one of them breaks it at a page
abbrev pub BreaksAny : {X : Type 0} → (X → ℕ → Type 0) → List X → ℕ → Type 0
BreaksAny Breaks [] p = ⊥
BreaksAny Breaks (x ∷ xs) p = Breaks x p ⊎ BreaksAny Breaks xs p

-- all of them are judged: P holds of each, or this is the lowest page at which one breaks it
abbrev pub JudgesEach : {X : Type 0} → (X → Type 0) → (X → ℕ → Type 0) → List X → Option ℕ → Type 0
JudgesEach P Breaks xs = Judges (AllByRecursion P xs) (BreaksAny Breaks xs)
