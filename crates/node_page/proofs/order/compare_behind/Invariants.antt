use Rattle.std.proofs.Common.{◌≡◌, ◌≤◌, ◌-◌, drop}
use Rattle.node_page.proofs.WordsLemmas.{order}
use Rattle.node_page.proofs.order.compare_behind.Given as goal

-- what is from `at` on decides
abbrev pub invariant-loop-at : goal.invariant-loop-at
invariant-loop-at l = record {
  within : l.at ≤ l.last;
  decides : order l.a l.b ≡ order (drop l.at l.a) (drop l.at l.b);
}

abbrev pub decreases-loop-at : goal.decreases-loop-at
decreases-loop-at l = l.last - l.at
