use Rattle.entry_tree.proofs.FindingLemmas.{leaf_has}
use Rattle.entry_tree.proofs.tree.Tree.has.Goals as goal

pub returns-clause-has : goal.returns-clause-has
returns-clause-has g c t h = leaf_has t c.args.entry.now c.in_ok-leaf.leaf.page c.in_ok-leaf.leaf.at c.in_ok-leaf.leaf.there h (c.in_ok-leaf.ensures.found t h)

pub returns-clause-seen : goal.returns-clause-seen
returns-clause-seen g c told = record { leaf = c.in_ok-leaf.leaf.page; at = c.in_ok-leaf.leaf.at; place = c.in_ok-leaf.ensures.seen told }
