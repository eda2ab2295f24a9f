-- A run of calls of a disk and what it leaves, at a bound: for `D: Disk` or `D: Host`, `g` is `D.Disk`.
use Rattle.std.specs.Prelude.{List, ℕ}
use Rattle.mdc_outside.specs.Disk.{File, Since}
use Rattle.mdc_outside.specs.declared.disk.Disk.{Ghosts}
use Rattle.page_file.specs.Leaving.{Leaves}
use Rattle.page_file.specs.Runs.{Runs}

-- what a crash may leave at the end of the run, and at each moment of it, is within what is allowed
abbrev pub RunsOf : {D : Type 0} → Ghosts D → (Since → Since → Type 0) → (Since → Since) → D → D → Type 0
RunsOf g = Runs g.file g.beside g.attaches g.is_attached g.clock g.moment

-- a crash leaves images of the kind alone, at the end of the run and at each moment of it
abbrev pub LeavesOf : {D : Type 0} → Ghosts D → (File → List ℕ → Type 0) → D → D → Type 0
LeavesOf g = Leaves g.file g.beside g.attaches g.is_attached g.clock g.moment
