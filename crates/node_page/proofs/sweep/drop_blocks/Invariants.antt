use Rattle.std.proofs.Common.{◌≡◌, ◌≤◌, List}
use Rattle.mdc_words.specs.ByteOrder.{Entry}
use Rattle.node_page.specs.Node.{node_of}
use Rattle.node_page.specs.Node.Node.{LeafNode}
use Rattle.node_page.proofs.SweepLemmas.{Sweeps}
use Rattle.node_page.proofs.sweep.drop_blocks.Given as goal

-- those that stay so far are in front
abbrev pub invariant-loop-i : goal.invariant-loop-i
invariant-loop-i l = record {
  lower : l.fn.from ≤ l.to;
  upper : l.to ≤ l.i;
  sweeps : (entries : List Entry) → node_of l.fn.width l.fn.page ≡ LeafNode entries
      → Sweeps l.blocks l.fn.at l.fn.from l.i l.to l.fn.width l.fn.page l.page entries;
}
