use Rattle.std.proofs.Common.{ap}
use Rattle.std.specs.Result.{is_ok}
use Rattle.node_page.specs.Node.Node.{LeafNode}
use Rattle.store_api.proofs.RunsOverPagesLemmas.{runs_edit, runs_wider}
use Rattle.entry_tree.proofs.LentNodesLemmas.{lent_node, refuted}
use Rattle.entry_tree.proofs.UnderWayLemmas.{runs_not_so}
use Rattle.entry_tree.proofs.naming.sweep_page.Goals as goal

pub returns-then-not-sweep_items-clause-runs : goal.returns-then-not-sweep_items-clause-runs
returns-then-not-sweep_items-clause-runs g c =
    runs_not_so c.args.tree.now c.damaged.result c.damaged.ensures
    (runs_wider (runs_edit c.args.page _ (c.edit.follows.holds c.sweep_items.new.page (ap is_ok c.in_ok-edit.was))) (λ p there is. is) (λ p is. is) (λ damage none. absurd none))
    (λ leaf. refuted c.sweep_items.result
    (c.sweep_items.ensures leaf.items (lent_node c.args.tree.now.width (g.P.Pages.state c.args.pages.now) c.args.page c.in_ok-edit.field-0.now (LeafNode leaf.items) c.in_ok-edit.ensures.page leaf.leaf (λ e. cc)) leaf.within).0
    c.if-not-sweep_items.true)

pub returns-clause-runs : goal.returns-clause-runs
returns-clause-runs g c =
    runs_wider (runs_edit c.args.page _ (c.edit.follows.holds c.sweep_items.new.page (ap is_ok c.in_ok-edit.was))) (λ p there is. is) (λ p is. is) (λ damage none. absurd none)
