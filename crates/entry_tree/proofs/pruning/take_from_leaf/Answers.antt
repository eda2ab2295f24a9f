use Rattle.std.proofs.Common.{ap}
use Rattle.std.specs.Result.{is_ok}
use Rattle.node_page.specs.Node.Node.{LeafNode}
use Rattle.store_api.proofs.RunsOverPagesLemmas.{runs_edit, runs_wider}
use Rattle.entry_tree.proofs.LentNodesLemmas.{lent_node, refuted}
use Rattle.entry_tree.proofs.UnderWayLemmas.{runs_not_so}
use Rattle.entry_tree.proofs.pruning.take_from_leaf.Goals as goal

pub returns-then-not-take_item-clause-runs : goal.returns-then-not-take_item-clause-runs
returns-then-not-take_item-clause-runs g c =
    runs_not_so c.args.tree.now c.damaged.result c.damaged.ensures
    (runs_wider (runs_edit c.args.page _ (c.edit.follows.holds c.take_item.new.page (ap is_ok c.in_ok-edit.was))) (λ p there is. is) (λ p is. is) (λ damage none. absurd none))
    (λ leaf. refuted c.take_item.result
    (c.take_item.ensures leaf.items (lent_node c.args.tree.now.width (g.P.Pages.state c.args.pages.now) c.args.page c.in_ok-edit.field-0.now (LeafNode leaf.items) c.in_ok-edit.ensures.page leaf.leaf (λ e. cc)) leaf.within).0
    c.if-not-take_item.true)

pub returns-clause-runs : goal.returns-clause-runs
returns-clause-runs g c =
    runs_wider (runs_edit c.args.page _ (c.edit.follows.holds c.take_item.new.page (ap is_ok c.in_ok-edit.was))) (λ p there is. is) (λ p is. is) (λ damage none. absurd none)
