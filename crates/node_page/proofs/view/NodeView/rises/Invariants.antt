use Rattle.node_page.specs.Looked.{entries_in}
use Rattle.node_page.proofs.JudgeLemmas.{StepsUp}
use Rattle.node_page.proofs.view.NodeView.rises.Given as goal

-- the entries before i rise
abbrev pub invariant-loop-i : goal.invariant-loop-i
invariant-loop-i l = StepsUp (entries_in l.self.node) l.i
