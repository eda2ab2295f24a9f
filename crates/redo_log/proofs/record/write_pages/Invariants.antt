use Rattle.std.proofs.Common.{◌≡◌, ◌*◌, length, take}
use Rattle.mdc_outside.specs.Disk.{torn}
use Rattle.std.specs.List.{All}
use Rattle.redo_journal.specs.Images.{IsPageImage}
use Rattle.redo_journal.specs.Pieces.{Replaces, page_bytes}
use Rattle.page_file.specs.Bound.{RunsOf}
use Rattle.page_file.specs.Runs.{IsCovered, Between}
use Rattle.redo_log.proofs.record.write_pages.Given as goal

-- the first i pages stand
abbrev pub invariant-loop-i : goal.invariant-loop-i
invariant-loop-i g l = record {
  runs : RunsOf g.D.Disk IsCovered (torn l.place (4096 * length l.images)) l.initial.disk l.disk;
  pages : Between (g.D.Disk.file l.initial.disk) (g.D.Disk.file l.disk) (Replaces l.place (page_bytes (take l.i l.images)));
  each : All IsPageImage (take l.i l.images);
  faults : g.D.Disk.disk_faults l.disk ≡ g.D.Disk.disk_faults l.initial.disk;
}
