-- When a verdict is that of some pages.
use Rattle.std.specs.Prelude.{ℕ}
use Rattle.store_api.specs.declared.shape.Shape.{Shape}
use Rattle.table_trees.specs.ToldPages.{PageList}
use Rattle.mdc_sound.specs.Breaks.{BreaksRule, IsFirstBreak}
use Rattle.mdc_sound.specs.SoundDatabase.{IsSoundDatabase}
use Rattle.file_check.specs.declared.verdict.Verdict.{Verdict}
use Rattle.file_check.specs.declared.verdict.Verdict.TheVariants.{Sound, Broken}

-- the pages are sound, and no page of them breaks a rule
pub record AreSoundUnbroken (shape : Shape) (pages : PageList) : Type 0 where
  pub sound : IsSoundDatabase shape pages
  pub unbroken : (rule page : ℕ) → BreaksRule shape pages rule page → ⊥

-- they are sound, or this is the first rule that is broken and the lowest page that breaks it
abbrev pub IsVerdictOf : Shape → PageList → Verdict → Type 0
IsVerdictOf shape pages Sound = AreSoundUnbroken shape pages
IsVerdictOf shape pages (Broken damage) = IsFirstBreak shape pages damage.rule damage.page
