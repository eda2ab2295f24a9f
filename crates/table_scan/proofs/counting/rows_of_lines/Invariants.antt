use Rattle.std.proofs.Common.{◌≡◌, ◌≤◌, ◌*◌, sum_by, take}
use Rattle.table_scan.proofs.counting.rows_of_lines.Given as goal

-- the rows of the lines so far were counted, at most 65,535 each
abbrev pub invariant-loop-one : goal.invariant-loop-one
invariant-loop-one l = record {
  sum : l.count ≡ sum_by (λ one. one.rows) (take l.one-index l.listed);
  few : l.count ≤ l.one-index * 65535;
}
