use Rattle.std.proofs.Common.{◌≤◌}
use Rattle.sql_reader_tests.proofs.tally.read_all.Given as goal

abbrev pub invariant-loop : goal.invariant-loop
invariant-loop g l = l.reader.count ≤ 67108864
