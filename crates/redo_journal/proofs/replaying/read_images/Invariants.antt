use Rattle.std.proofs.Common.{◌≡◌, drop}
use Rattle.std.specs.Option.{ForSome}
use Rattle.redo_journal.specs.Images.{AreRising}
use Rattle.redo_journal.specs.Layout.{entries}
use Rattle.page_file.specs.Bound.{RunsOf}
use Rattle.page_file.specs.Runs.{IsCovered}
use Rattle.redo_journal.proofs.replaying.read_images.Given as goal

-- the first k images
abbrev pub invariant-loop-k : goal.invariant-loop-k
invariant-loop-k g l = record {
  runs : RunsOf g.D.Disk IsCovered (λ since. since) l.initial.disk l.disk;
  same : g.D.Disk.file l.disk ≡ g.D.Disk.file l.initial.disk;
  images : ForSome (g.D.Disk.file l.initial.disk) (λ f. l.images ≡ entries l.k (drop l.index f.bytes) (drop l.pages f.bytes));
  rising : AreRising l.images;
  faults : g.D.Disk.disk_faults l.disk ≡ g.D.Disk.disk_faults l.initial.disk;
}
