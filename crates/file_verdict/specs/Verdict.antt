-- When a verdict is that of a file (docs/PROGRAM.md, "What `check` says").
use Rattle.std.specs.Prelude.{◌⊎◌, ℕ, List, Result, Ok, Err}
use Rattle.store_api.specs.declared.fault.Damage.{Damage}
use Rattle.store_api.specs.declared.fault.PageFault.{PageFault}
use Rattle.store_api.specs.declared.fault.PageFault.TheVariants as page
use Rattle.store_api.specs.declared.shape.Shape.{Shape}
use Rattle.table_trees.specs.ToldPages.{PageList}
use Rattle.mdc_sound.specs.Breaks.{IsFirstBreak}
use Rattle.page_store.specs.Fresh.{IsUnmade}
use Rattle.page_store.specs.Opening.{IsDamagedFile, IsOfVersion, IsOther, IsServed}
use Rattle.page_store.specs.Standing.{pages_in}
use Rattle.file_check.specs.Verdicts.{IsVerdictOf}
use Rattle.file_check.specs.declared.verdict.Verdict.{Verdict}
use Rattle.file_check.specs.declared.verdict.Verdict.TheVariants.{Broken, Sound}
use Rattle.file_verdict.specs.SoundFile.{IsSoundFile, StatesExtents}
use Rattle.file_verdict.specs.declared.unjudged.Unjudged.{Unjudged}
use Rattle.file_verdict.specs.declared.unjudged.Unjudged.TheVariants.{Device, Memory, NotMdc, Unmade, Version}

-- The file can be opened, and of the pages that it stands for this is the first rule that is broken, with the lowest page that breaks
-- it.
pub record BreaksFirst (damage : Damage) (file : List ℕ) : Type 0 where
  pub served : IsServed file
  pub shape : Shape
  pub states : StatesExtents file shape
  pub first : IsFirstBreak shape (pages_in file) damage.rule damage.page

-- The file is sound; or it can't be opened for this damage, or it can and this is the first rule that its pages break; or it isn't
-- made, is another program's, or is of this other version. A fault of the disk and a want of memory say nothing of it.
abbrev pub IsVerdictOn : List ℕ → Result Verdict Unjudged → Type 0
IsVerdictOn file (Ok Sound) = IsSoundFile file
IsVerdictOn file (Ok (Broken damage)) = IsDamagedFile damage file ⊎ BreaksFirst damage file
IsVerdictOn file (Err Unmade) = IsUnmade file
IsVerdictOn file (Err NotMdc) = IsOther file
IsVerdictOn file (Err (Version version)) = IsOfVersion version file
IsVerdictOn file (Err Device) = Unit {0}
IsVerdictOn file (Err Memory) = Unit {0}

-- there was no verdict, for a fault of the disk or for want of memory
abbrev pub IsNoVerdict : Result Verdict Unjudged → Type 0
IsNoVerdict (Err Device) = Unit {0}
IsNoVerdict (Err Memory) = Unit {0}
IsNoVerdict verdict = ⊥

-- what may be answered of a sound file: that it is sound, or that there was no verdict
abbrev pub IsAnswerOnSound : Result Verdict Unjudged → Type 0
IsAnswerOnSound (Ok Sound) = Unit {0}
IsAnswerOnSound answer = IsNoVerdict answer

-- the verdict is that of the pages of a file that was opened, of this shape
abbrev pub IsVerdictOnPages : Shape → PageList → Result Verdict Unjudged → Type 0
IsVerdictOnPages shape pages (Ok verdict) = IsVerdictOf shape pages verdict
IsVerdictOnPages shape pages (Err Device) = Unit {0}
IsVerdictOnPages shape pages (Err Memory) = Unit {0}
IsVerdictOnPages shape pages (Err other) = ⊥

-- what a check of the pages found, as the verdict on their file
abbrev pub verdict_of_check : Result Verdict PageFault → Result Verdict Unjudged
verdict_of_check (Ok verdict) = Ok verdict
verdict_of_check (Err page.Device) = Err Device
verdict_of_check (Err page.Memory) = Err Memory
