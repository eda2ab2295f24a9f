use Rattle.std.proofs.Common.{◌≡◌, ◌≤◌, ◌-◌, ◌++◌, replicate, max}
use Rattle.mdc_outside.specs.Disk.{torn}
use Rattle.page_file.specs.Bound.{RunsOf}
use Rattle.page_file.specs.Runs.{IsCovered, Between}
use Rattle.page_file.proofs.filling.fill.Given as goal

-- zeros stand up to the end so far
abbrev pub invariant-loop-end : goal.invariant-loop-end
invariant-loop-end g l = record {
  low : l.from ≤ l.end;
  high : l.end ≤ max l.from l.to;
  runs : RunsOf g.D.Disk IsCovered (torn l.from (l.to - l.from)) l.initial.disk l.disk;
  filled : Between (g.D.Disk.file l.initial.disk) (g.D.Disk.file l.disk) (λ old new. new ≡ old ++ replicate (l.end - l.from) 0);
  faults : g.D.Disk.disk_faults l.disk ≡ g.D.Disk.disk_faults l.initial.disk;
}

abbrev pub decreases-loop-end : goal.decreases-loop-end
decreases-loop-end g l = l.to - l.end
