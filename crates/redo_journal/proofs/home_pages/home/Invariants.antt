use Rattle.std.proofs.Common.{◌≡◌, ◌≤◌, length, take}
use Rattle.std.specs.Option.{ForSome}
use Rattle.std.specs.List.{All}
use Rattle.page_file.specs.Layout.{home_page}
use Rattle.redo_journal.specs.Images.{IsPageImage}
use Rattle.redo_journal.specs.Layout.{torn_home}
use Rattle.redo_journal.specs.Pieces.{homed}
use Rattle.page_file.specs.Bound.{RunsOf}
use Rattle.page_file.specs.Runs.{IsCovered, Between}
use Rattle.redo_journal.proofs.home_pages.home.Given as goal

-- the first i images stand in their places, and the file ends where the code says
abbrev pub invariant-loop-i : goal.invariant-loop-i
invariant-loop-i g l = record {
  runs : RunsOf g.D.Disk IsCovered (torn_home l.images) l.fn.disk l.disk;
  size : ForSome (g.D.Disk.file l.disk) (λ f. l.end ≡ length f.bytes);
  grown : ForSome (g.D.Disk.file l.fn.disk) (λ f. length f.bytes ≤ l.end);
  short : ForSome (g.D.Disk.file l.fn.disk) (λ f. l.end ≤ (torn_home l.images f.since).longest);
  home : ForSome (g.D.Disk.file l.disk) (λ f. All (λ image. home_page f.bytes image.0 ≡ image.1) (take l.i l.images));
  bytes : Between (g.D.Disk.file l.fn.disk) (g.D.Disk.file l.disk) (λ old new. new ≡ homed (take l.i l.images) old);
  each : All IsPageImage (take l.i l.images);
  faults : g.D.Disk.disk_faults l.disk ≡ g.D.Disk.disk_faults l.fn.disk;
}
