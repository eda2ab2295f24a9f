use Rattle.std.proofs.Common.{arith}
use Rattle.store_api.proofs.RunsOverPagesLemmas.{runs_none}
use Rattle.entry_tree.proofs.FreedLemmas.{past_node, runs_no_node}
use Rattle.entry_tree.proofs.tree.Tree.push_children.Goals as goal

pub returns-then-page-count-clause-runs : goal.returns-then-page-count-clause-runs
returns-then-page-count-clause-runs g c =
    runs_no_node c.args.page c.damaged.result c.damaged.ensures runs_none (past_node c.args.page (omega (arith, c.if-page-count.true, c.count.ensures)))
