use Rattle.std.proofs.Common.{◌≡◌}
use Rattle.std.specs.Option.{ForSome}
use Rattle.page_file.specs.Bound.{RunsOf}
use Rattle.page_file.specs.Runs.{IsCovered}
use Rattle.redo_log.proofs.ReadRecords.{HasRead}
use Rattle.redo_log.proofs.reading.lay_images.Given as goal

-- the first k images are laid over the overlay
abbrev pub invariant-loop-k : goal.invariant-loop-k
invariant-loop-k g l = record {
  runs : RunsOf g.D.Disk IsCovered (λ since. since) l.initial.disk l.disk;
  same : g.D.Disk.file l.disk ≡ g.D.Disk.file l.initial.disk;
  read : ForSome (g.D.Disk.file l.initial.disk) (λ f. HasRead l.k l.index l.pages l.least f.bytes l.initial.overlay l.overlay);
  faults : g.D.Disk.disk_faults l.disk ≡ g.D.Disk.disk_faults l.initial.disk;
}
