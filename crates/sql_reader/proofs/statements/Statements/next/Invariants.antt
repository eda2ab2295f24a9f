use Rattle.std.proofs.Common.{◌≡◌, ◌≤◌, ◌+◌, ◌-◌, ◌*◌, false, length}
use Rattle.sql_reader.specs.Holding.{work_left}
use Rattle.sql_reader.specs.Progress.{Progress}
use Rattle.sql_reader.specs.Standing.{IsAt}
use Rattle.sql_reader.proofs.Giving.{IsUnderWay}
use Rattle.sql_reader.proofs.statements.Statements.next.Given as goal

-- what was read so far is taken, and only once each closed statement was given
abbrev pub invariant-loop-self : goal.invariant-loop-self
invariant-loop-self g l = record {
  goes : (old : Progress) → IsAt l.initial.self old → (now : Progress) × IsUnderWay g.I.Source.left l.initial.source l.source l.self old now;
  unfinished : l.self.finished ≡ false;
  few : l.self.count ≤ 67108864;
  kept : l.self.kept ≤ 69632;
  faults : g.I.Source.read_faults l.source ≡ g.I.Source.read_faults l.initial.source;
  work : work_left l.self ≤ work_left l.initial.self;
}

abbrev pub decreases-loop-self : goal.decreases-loop-self
decreases-loop-self g l = 2 * (67108864 - l.self.count) + length l.self.ahead
