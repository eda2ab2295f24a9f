-- An opening, at a bound: for `D: Disk` or `D: Host`, `g` is `D.Disk`.
use Rattle.mdc_outside.specs.declared.disk.Disk.{Ghosts}
use Rattle.page_store.specs.Opened.{Opens}

-- an opening that had all on the disk at some moment, since which a crash leaves the pages that the file stood for
abbrev pub OpensOf : {D : Type 0} → Ghosts D → D → D → Type 0
OpensOf g = Opens g.file g.beside g.attaches g.is_attached g.clock g.moment
