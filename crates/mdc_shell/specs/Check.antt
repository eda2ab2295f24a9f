-- What `check FILE` says, and what it leaves of the file (docs/PROGRAM.md).
use Rattle.std.specs.Prelude.{◌≡◌, ◌⊎◌, ℕ, List, Option, Some, Result, Ok, Err, codes}
use Rattle.std.specs.Option.{ForSome}
use Rattle.mdc_words.specs.Time.{OverTime}
use Rattle.mdc_outside.specs.Disk.{File, IsImage}
use Rattle.mdc_outside.specs.Moments.{IsMoment}
use Rattle.mdc_outside.specs.Outside.{Takes, TakesPart}
use Rattle.mdc_outside.specs.declared.disk.Disk.{Ghosts}
use Rattle.page_file.specs.Leaving.{LeavesImage}
use Rattle.page_store.specs.Opened.{CouldBeLeft, opened_bytes}
use Rattle.page_store.specs.Opening.{IsServed}
use Rattle.file_check.specs.declared.verdict.Verdict.{Verdict}
use Rattle.file_check.specs.declared.verdict.Verdict.TheVariants.{Broken, Sound}
use Rattle.file_verdict.specs.Resting.{ComesToRest, StandsAsBefore}
use Rattle.file_verdict.specs.Verdict.{IsVerdictOn}
use Rattle.file_verdict.specs.Written.{IsSameOrOpened}
use Rattle.file_verdict.specs.declared.unjudged.Unjudged.{Unjudged}
use Rattle.file_verdict.specs.declared.unjudged.Unjudged.TheVariants.{Device, Memory, NotMdc, Unmade, Version}
use Rattle.session.specs.declared.stop.Stop.{Stop}
use Rattle.session.specs.declared.stop.Stop.TheVariants as why
use Rattle.mdc_shell.specs.Leaving.{HasPart}
use Rattle.mdc_shell.specs.Status.{damage_line, line_of_stop, status_of_stop}

-- why there is no verdict, as the stop of a run for the same cause
abbrev pub stop_of : Unjudged → Stop
stop_of Unmade = why.Unmade
stop_of NotMdc = why.NotMdc
stop_of (Version version) = why.Version version
stop_of Device = why.Device
stop_of Memory = why.Memory

-- 0 for a sound file, 9 for one with a page that breaks a rule, and as of a run where there is no verdict
abbrev pub status_of_verdict : Result Verdict Unjudged → ℕ
status_of_verdict (Ok Sound) = 0
status_of_verdict (Ok (Broken damage)) = 9
status_of_verdict (Err why) = status_of_stop (stop_of why)

-- the line that is said
abbrev pub line_of_verdict : Result Verdict Unjudged → List ℕ
line_of_verdict (Ok Sound) = codes "SOUND\n"
line_of_verdict (Ok (Broken damage)) = damage_line (codes "BROKEN") damage
line_of_verdict (Err why) = line_of_stop (stop_of why)

-- The status is that of the verdict, whose line is said; or a first part of its line is, and the status is 5; or memory was wanted
-- for the line.
abbrev pub SaysVerdict : Option (List ℕ) → Option (List ℕ) → ℕ → Result Verdict Unjudged → Type 0
SaysVerdict tape new status verdict =
    ((status ≡ status_of_verdict verdict) × Takes tape (line_of_verdict verdict) new) ⊎ ((status ≡ 5) × TakesPart tape (line_of_verdict verdict) new)
    ⊎ ((status ≡ 8) × (new ≡ tape))

-- one of the statuses that a check may end with
abbrev pub IsCheckStatus : ℕ → Type 0
IsCheckStatus n = (n ≡ 0) ⊎ (n ≡ 3) ⊎ (n ≡ 5) ⊎ (n ≡ 6) ⊎ (n ≡ 8) ⊎ (n ≡ 9)

-- `check FILE` on any file: where it is told, the verdict is that of the file as it was at entry, and its line is said, and nothing
-- else is
pub record ChecksPath (file : Option File) (tape new_tape : Option (List ℕ)) (status : ℕ) : Type 0 where
  pub verdict : Result Verdict Unjudged
  pub is_its : ForSome file (λ file. IsVerdictOn file.bytes verdict)
  pub says : SaysVerdict tape new_tape status verdict

-- what a check of a sound file may end with
abbrev pub IsStatusOnSound : ℕ → Type 0
IsStatusOnSound n = (n ≡ 0) ⊎ (n ≡ 3) ⊎ (n ≡ 5) ⊎ (n ≡ 8)

-- what a check may end with where nothing failed
abbrev pub IsCheckComplete : ℕ → Type 0
IsCheckComplete n = (n ≡ 0) ⊎ (n ≡ 6) ⊎ (n ≡ 8) ⊎ (n ≡ 9)

-- a check with this status may have stopped before any origin of its opening
abbrev pub IsUnsettled : ℕ → Type 0
IsUnsettled n = (n ≡ 3) ⊎ (n ≡ 8)

-- A check of a formed file: from the origin of its opening on a crash leaves an image that stands for the same pages, with a first part
-- of the line. Or it stopped before any origin, with no line, and a crash leaves an image that could be left as it began.
abbrev pub LeavesChecked : {D : Type 0} → Ghosts D → File → List ℕ → List ℕ → D → D → ℕ → Type 0
LeavesChecked g before said line old new status =
    ComesToRest g before said (λ image tape. StandsAsBefore before.bytes image × HasPart line said tape) old new
    ⊎ (IsUnsettled status × OverTime g.clock g.moment (LeavesImage (CouldBeLeft before) said) old new)

-- `check FILE` on a formed file: the verdict on it, its line, and what a crash leaves at each moment
pub record ChecksFormed {D : Type 0} (g : Ghosts D) (before : File) (said : List ℕ) (new_tape : Option (List ℕ)) (old new : D) (status : ℕ) : Type 0 where
  pub verdict : Result Verdict Unjudged
  pub is_its : IsVerdictOn before.bytes verdict
  pub says : SaysVerdict (Some said) new_tape status verdict
  pub leaves : LeavesChecked g before said (line_of_verdict verdict) old new status

-- `check FILE` on a file that can't be opened: the verdict on it and its line, and a crash leaves an image that could be left as it
-- began
pub record ChecksUnserved {D : Type 0} (g : Ghosts D) (before : File) (said : List ℕ) (new_tape : Option (List ℕ)) (old new : D) (status : ℕ) : Type 0 where
  pub verdict : Result Verdict Unjudged
  pub is_its : IsVerdictOn before.bytes verdict
  pub says : SaysVerdict (Some said) new_tape status verdict
  pub time : OverTime g.clock g.moment (IsMoment before.since said (line_of_verdict verdict)) old new

-- Unless the disk failed, a check leaves the bytes that the file had, or those that its opening makes of them. At another status than 3
-- and 8 those of a file that can be opened are those of its opening.
pub record WritesChecked (status : ℕ) (before : List ℕ) (after : Option (List ℕ)) : Type 0 where
  pub at_most : (status ≡ 3 → ⊥) → IsSameOrOpened before after
  pub opened : (IsUnsettled status → ⊥) → IsServed before → after ≡ Some (opened_bytes before)

-- the file is told still, and each image that a crash may leave of it stands for what it stood for
abbrev pub StaysStanding : File → Option File → Type 0
StaysStanding before new = (after : File) × (new ≡ Some after) × ((image : List ℕ) → IsImage after.since image → StandsAsBefore before.bytes image)

-- the file is told still, it is one that a crash could leave as the check began, and unless the disk failed it has the same bytes
abbrev pub StaysUnserved : File → Option File → ℕ → Type 0
StaysUnserved before new status = (after : File) × (new ≡ Some after) × IsImage before.since after.bytes × ((status ≡ 3 → ⊥) → after.bytes ≡ before.bytes)
