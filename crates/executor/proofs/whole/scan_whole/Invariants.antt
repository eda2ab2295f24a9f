use Rattle.std.proofs.Common.{Some}
use Rattle.executor.specs.SettledSinks.{begun_by}
use Rattle.executor.proofs.whole.scan_whole.Given as goal

-- the block is begun with the sink as it is lent here
abbrev pub ghosts-scan_settled : goal.ghosts-scan_settled
ghosts-scan_settled g a = record { begun = Some (begun_by a.settled.now) }
