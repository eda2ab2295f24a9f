use Rattle.std.proofs.Common.{◌≡◌}
use Rattle.std.specs.Option.{ForSome}
use Rattle.page_file.specs.Bound.{RunsOf}
use Rattle.page_file.specs.Runs.{IsCovered}
use Rattle.redo_log.specs.Bounds.{IsInLog}
use Rattle.redo_log.specs.Checkpointing.{AreOverlay}
use Rattle.redo_log.specs.Layout.{log_end, AreLaid}
use Rattle.redo_log.proofs.replaying.lay_records.Given as goal

-- the first k records are laid over each other
abbrev pub invariant-loop-k : goal.invariant-loop-k
invariant-loop-k g l = record {
  runs : RunsOf g.D.Disk IsCovered (λ since. since) l.fn.disk l.disk;
  same : g.D.Disk.file l.disk ≡ g.D.Disk.file l.fn.disk;
  in_log : IsInLog l.k l.end;
  ends : ForSome (g.D.Disk.file l.fn.disk) (λ f. log_end l.k f.bytes ≡ l.end);
  laid : ForSome (g.D.Disk.file l.fn.disk) (λ f. AreLaid l.k f.bytes);
  overlay : ForSome (g.D.Disk.file l.fn.disk) (λ f. AreOverlay l.k f.bytes l.overlay);
  faults : g.D.Disk.disk_faults l.disk ≡ g.D.Disk.disk_faults l.fn.disk;
}
