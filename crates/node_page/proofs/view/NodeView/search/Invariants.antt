use Rattle.std.proofs.Common.{◌-◌, ◌≤◌, length}
use Rattle.node_page.specs.Looked.{entries_in}
use Rattle.node_page.proofs.FindLemmas.{Seeks}
use Rattle.node_page.proofs.view.NodeView.search.Given as goal

-- the place lies from low to high
abbrev pub invariant-loop-low : goal.invariant-loop-low
invariant-loop-low l = record {
  order : l.low ≤ l.high;
  within : l.high ≤ length (entries_in l.self.node);
  seeks : Seeks (entries_in l.self.node) l.entry l.low l.high;
}

abbrev pub decreases-loop-low : goal.decreases-loop-low
decreases-loop-low l = l.high - l.low
