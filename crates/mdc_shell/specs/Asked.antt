-- The command that words ask for.
use Rattle.std.specs.Prelude.{◌≡◌, ℕ, List, Option, Some, None, codes}
use Rattle.mdc_shell.specs.declared.command.Command.{Command}
use Rattle.mdc_shell.specs.declared.command.Command.TheVariants as command
use Rattle.mdc_shell.specs.Words.{CheckFile, CreateFile, IsNoLine, IsPath, IsRequest, Line, RunFile, RunScratch, SpellsLine}

-- the command line that asks for a command
abbrev pub line_of : Command → Line
line_of command.RunScratch = RunScratch
line_of (command.RunFile path) = RunFile path.now
line_of (command.Check path) = CheckFile path.now
line_of (command.Create path shape) = CreateFile path.now shape.extents shape.extent_pages

-- the words of a command line ask for this
abbrev pub Asks : List (List ℕ) → Option Command → Type 0
Asks words None = IsNoLine words
Asks words (Some command) = SpellsLine words (line_of command)

-- a path and two numerals ask for a create, or for nothing
abbrev pub AsksCreate : List ℕ → List ℕ → List ℕ → Option Command → Type 0
AsksCreate file extents pages None = (n m : ℕ) → IsRequest file extents pages n m → ⊥
AsksCreate file extents pages (Some command.RunScratch) = ⊥
AsksCreate file extents pages (Some (command.RunFile path)) = ⊥
AsksCreate file extents pages (Some (command.Check path)) = ⊥
AsksCreate file extents pages (Some (command.Create path shape)) = (path.now ≡ file) × IsRequest file extents pages shape.extents shape.extent_pages

-- the file behind `run` asks for a script from the input on a scratch file, or on the file at that path, or for nothing
abbrev pub AsksRun : List ℕ → Option Command → Type 0
AsksRun file None = (file ≡ codes "-" → ⊥) × (IsPath file → ⊥)
AsksRun file (Some command.RunScratch) = file ≡ codes "-"
AsksRun file (Some (command.RunFile path)) = (path.now ≡ file) × IsPath file
AsksRun file (Some (command.Check path)) = ⊥
AsksRun file (Some (command.Create path shape)) = ⊥

-- the file behind `check` asks for a check of the file at that path, or for nothing
abbrev pub AsksCheck : List ℕ → Option Command → Type 0
AsksCheck file None = IsPath file → ⊥
AsksCheck file (Some command.RunScratch) = ⊥
AsksCheck file (Some (command.RunFile path)) = ⊥
AsksCheck file (Some (command.Check path)) = (path.now ≡ file) × IsPath file
AsksCheck file (Some (command.Create path shape)) = ⊥
