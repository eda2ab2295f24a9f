use Rattle.std.proofs.Common.{ap}
use Rattle.std.specs.Result.{is_ok}
use Rattle.node_page.specs.Node.Node.{InnerNode}
use Rattle.store_api.proofs.RunsOverPagesLemmas.{runs_edit, runs_wider}
use Rattle.entry_tree.proofs.LentNodesLemmas.{lent_node, refuted}
use Rattle.entry_tree.proofs.UnderWayLemmas.{runs_not_so}
use Rattle.entry_tree.proofs.pruning.take_from_inner.Goals as goal

pub returns-then-not-take_child-clause-runs : goal.returns-then-not-take_child-clause-runs
returns-then-not-take_child-clause-runs g c =
    runs_not_so c.args.tree.now c.damaged.result c.damaged.ensures
    (runs_wider (runs_edit c.args.page _ (c.edit.follows.holds c.take_child.new.page (ap is_ok c.in_ok-edit.was))) (λ p there is. is) (λ p is. is) (λ damage none. absurd none))
    (λ node. refuted c.take_child.result
    (c.take_child.ensures node.seps node.children
    (lent_node c.args.tree.now.width (g.P.Pages.state c.args.pages.now) c.args.page c.in_ok-edit.field-0.now (InnerNode node.seps node.children) c.in_ok-edit.ensures.page node.inner (λ e. cc))
    node.within node.some).0
    c.if-not-take_child.true)

pub returns-clause-runs : goal.returns-clause-runs
returns-clause-runs g c =
    runs_wider (runs_edit c.args.page _ (c.edit.follows.holds c.take_child.new.page (ap is_ok c.in_ok-edit.was))) (λ p there is. is) (λ p is. is) (λ damage none. absurd none)
