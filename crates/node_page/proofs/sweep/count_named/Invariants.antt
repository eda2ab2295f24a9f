use Rattle.std.proofs.Common.{◌≡◌, ◌+◌, ◌≤◌, List}
use Rattle.mdc_words.specs.ByteOrder.{Entry}
use Rattle.node_page.specs.Node.{node_of, stated_entries}
use Rattle.node_page.specs.Node.Node.{LeafNode}
use Rattle.node_page.specs.Entries.{count_named}
use Rattle.node_page.proofs.sweep.count_named.Given as goal

-- those that were counted, and those that are still to be
abbrev pub invariant-loop-i : goal.invariant-loop-i
invariant-loop-i l = record {
  passed : l.named ≤ l.i;
  few : l.named ≤ stated_entries l.fn.page;
  counts : (entries : List Entry) → node_of l.fn.width l.fn.page ≡ LeafNode entries → l.named + count_named l.blocks l.at l.i entries ≡ count_named l.blocks l.at l.fn.from entries;
}
