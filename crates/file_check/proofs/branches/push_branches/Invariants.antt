use Rattle.std.proofs.Common.{◌≡◌, ◌≤◌, ◌+◌, ◌++◌, length, drop, reverse}
use Rattle.node_page.specs.Looked.{children_in, entries_in}
use Rattle.file_check.specs.Branches.{branches_of}
use Rattle.file_check.proofs.branches.push_branches.Given as goal

-- the branches from this one on were put last
abbrev pub invariant-loop-i : goal.invariant-loop-i
invariant-loop-i l = record {
  within : l.i ≤ length (entries_in l.view.node);
  pushed : length (children_in l.view.node) ≡ length (entries_in l.view.node) + 1
      → reverse l.left.items ≡ drop l.i (branches_of (entries_in l.view.node) (children_in l.view.node) l.fn.high) ++ reverse l.fn.left.items;
}

abbrev pub decreases-loop-i : goal.decreases-loop-i
decreases-loop-i l = l.i
