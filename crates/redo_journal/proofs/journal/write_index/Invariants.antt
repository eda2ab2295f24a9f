use Rattle.std.proofs.Common.{◌≡◌, ◌*◌, length}
use Rattle.mdc_outside.specs.Disk.{torn}
use Rattle.redo_journal.specs.Layout.{index_pages}
use Rattle.redo_journal.specs.Pieces.{Replaces, index_bytes}
use Rattle.page_file.specs.Bound.{RunsOf}
use Rattle.page_file.specs.Runs.{IsCovered, Between}
use Rattle.redo_journal.proofs.journal.write_index.Given as goal

-- the first k index pages stand
abbrev pub invariant-loop-k : goal.invariant-loop-k
invariant-loop-k g l = record {
  runs : RunsOf g.D.Disk IsCovered (torn l.place (4096 * index_pages (length l.images))) l.initial.disk l.disk;
  index : Between (g.D.Disk.file l.initial.disk) (g.D.Disk.file l.disk) (Replaces l.place (index_bytes l.k l.images));
  faults : g.D.Disk.disk_faults l.disk ≡ g.D.Disk.disk_faults l.initial.disk;
}
