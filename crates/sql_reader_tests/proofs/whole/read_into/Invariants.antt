use Rattle.std.proofs.Common.{◌≡◌, ◌≤◌, [], map, true, IfSome}
use Rattle.sql_reader.specs.Holding.{work_left}
use Rattle.sql_reader.specs.Item.{item_of}
use Rattle.sql_reader.specs.Progress.{Progress, Given, Took}
use Rattle.sql_reader.specs.Standing.{IsAt}
use Rattle.sql_reader_tests.proofs.whole.read_into.Given as goal

-- the items read so far are those given
abbrev pub invariant-loop-statements : goal.invariant-loop-statements
invariant-loop-statements g l = record {
  given : (now : Progress) × IsAt l.statements now × Given now (map item_of l.reads) × Took (g.I.Source.left l.fn.source) [] (g.I.Source.left l.source) now.taken
      × (now.finished ≡ true → IfSome (g.I.Source.left l.source) (λ bytes. bytes ≡ []));
  few : l.statements.count ≤ 67108864;
  faults : g.I.Source.read_faults l.source ≡ g.I.Source.read_faults l.fn.source;
}

abbrev pub decreases-loop-statements : goal.decreases-loop-statements
decreases-loop-statements g l = work_left l.statements
