use Rattle.node_page.specs.Node.Node.{InnerNode}
use Rattle.store_api.proofs.RunsOverPagesLemmas.{runs_wider}
use Rattle.entry_tree.proofs.LentNodesLemmas.{hand_bytes, lent_node}
use Rattle.entry_tree.proofs.UnderWayLemmas.{runs_not_so}
use Rattle.entry_tree.proofs.pruning.other_child.Goals as goal

pub returns-in-None-clause-runs : goal.returns-in-None-clause-runs
returns-in-None-clause-runs g c =
    runs_not_so c.args.tree.now c.damaged.result c.damaged.ensures
    (runs_wider c.in_ok-bring.ensures.runs (λ p there none. none) (λ p is. is) (λ damage none. absurd none))
    (λ node.
    let is = c.child_beside.ensures.known node.seps node.children
    (lent_node c.args.tree.now.width (g.P.Pages.state c.args.pages.now) c.args.page c.page.result.now (InnerNode node.seps node.children)
    (hand_bytes c.args.pages.now c.args.page (g.P.Pages.state c.bring.new.pages).hand c.page.result.now c.requires.within c.in_ok-bring.ensures.hand c.page.ensures) node.inner (λ e. cc))
    node.within node.some in
    cc (is.1, c.in-None.is))
