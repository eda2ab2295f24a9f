-- The statuses of a run, and the lines that it ends with (docs/PROGRAM.md).
use Rattle.std.specs.Prelude.{◌≡◌, ◌⊎◌, ℕ, List, [], ◌++◌, codes, Option, Result, Ok, Err}
use Rattle.std.specs.Fmt.{decimal}
use Rattle.mdc_outside.specs.Outside.{Takes, TakesPart}
use Rattle.store_api.specs.declared.fault.Damage.{Damage}
use Rattle.session.specs.declared.script.served.Served.{Served}
use Rattle.session.specs.declared.script.served.Served.TheVariants.{AllDone, SomeRefused}
use Rattle.session.specs.declared.stop.Stop.{Stop}
use Rattle.session.specs.declared.stop.Stop.TheVariants.{Damaged, Device, Memory, NotMdc, TooLong, Unmade, Unread, Unsaid, Version}
use Rattle.mdc_shell.specs.declared.create.Created.{Created}
use Rattle.mdc_shell.specs.declared.create.Created.TheVariants.{Made, Exists, DiskFailed}
use Rattle.mdc_shell.specs.declared.create.Created.TheVariants as created

-- 3 to 5 for a failed call of the outside, 6 and 9 for the file, 7 for a script that is too long, 8 for memory
abbrev pub status_of_stop : Stop → ℕ
status_of_stop Device = 3
status_of_stop Unread = 4
status_of_stop Unsaid = 5
status_of_stop Unmade = 6
status_of_stop NotMdc = 6
status_of_stop (Version version) = 6
status_of_stop TooLong = 7
status_of_stop Memory = 8
status_of_stop (Damaged damage) = 9

-- a script that was read to its end, with a refusal or without, or a stop
abbrev pub status_of : Result Served Stop → ℕ
status_of (Ok AllDone) = 0
status_of (Ok SomeRefused) = 1
status_of (Err stop) = status_of_stop stop

-- the line of a page that breaks a rule, behind this word
abbrev pub damage_line : List ℕ → Damage → List ℕ
damage_line word damage = word ++ codes " page " ++ decimal damage.page ++ codes " rule " ++ decimal damage.rule ++ codes "\n"

-- the line that is said at a stop, if one is
abbrev pub line_of_stop : Stop → List ℕ
line_of_stop Unmade = codes "NOT MADE\n"
line_of_stop NotMdc = codes "NOT MDC\n"
line_of_stop (Version version) = codes "VERSION " ++ decimal version ++ codes "\n"
line_of_stop (Damaged damage) = damage_line (codes "DAMAGED") damage
line_of_stop stop = []

-- the line that is said at the end of a run
abbrev pub line_of_end : Result Served Stop → List ℕ
line_of_end (Ok served) = []
line_of_end (Err stop) = line_of_stop stop

-- The status is that of the end, whose line is said; or a first part of its line is, and the status is 5; or memory was wanted for
-- the line, where the end has one.
abbrev pub SaysEnd : Option (List ℕ) → Option (List ℕ) → ℕ → Result Served Stop → Type 0
SaysEnd tape new status end_ =
    ((status ≡ status_of end_) × Takes tape (line_of_end end_) new) ⊎ ((status ≡ 5) × TakesPart tape (line_of_end end_) new) ⊎ ((status ≡ 8) × (line_of_end end_ ≡ [] → ⊥) × (new ≡ tape))

-- one of the statuses that the run of a script may end with
abbrev pub IsScriptStatus : ℕ → Type 0
IsScriptStatus n = (n ≡ 0) ⊎ (n ≡ 1) ⊎ (n ≡ 3) ⊎ (n ≡ 4) ⊎ (n ≡ 5) ⊎ (n ≡ 6) ⊎ (n ≡ 7) ⊎ (n ≡ 8) ⊎ (n ≡ 9)

-- how a create ends
abbrev pub status_of_created : Created → ℕ
status_of_created Made = 0
status_of_created DiskFailed = 3
status_of_created created.Unsaid = 5
status_of_created Exists = 6

-- one of the statuses that a create may end with
abbrev pub IsCreateStatus : ℕ → Type 0
IsCreateStatus n = (n ≡ 0) ⊎ (n ≡ 3) ⊎ (n ≡ 5) ⊎ (n ≡ 6) ⊎ (n ≡ 8)

-- one of the statuses that a run may end with: 2 is for words that are no command line
abbrev pub IsStatus : ℕ → Type 0
IsStatus n = IsScriptStatus n ⊎ (n ≡ 2)
