use Rattle.node_page.specs.Node.Node.{LeafNode}
use Rattle.store_api.proofs.RunsOverPagesLemmas.{runs_wider}
use Rattle.entry_tree.proofs.LentNodesLemmas.{hand_bytes, lent_node}
use Rattle.entry_tree.proofs.UnderWayLemmas.{runs_not_so}
use Rattle.entry_tree.proofs.naming.count_in_leaf.Goals as goal

pub returns-in-Some-clause-counts : goal.returns-in-Some-clause-counts
returns-in-Some-clause-counts g c items leaf =
    let is = c.named_on.ensures.counts items
    (lent_node c.args.tree.now.width (g.P.Pages.state c.args.pages.now) c.args.page c.page.result.now (LeafNode items)
    (hand_bytes c.args.pages.now c.args.page (g.P.Pages.state c.bring.new.pages).hand c.page.result.now c.requires.within c.in_ok-bring.ensures.hand c.page.ensures) leaf (λ e. cc)) in
    cc (is, c.in-Some.is)

pub returns-in-None-clause-runs : goal.returns-in-None-clause-runs
returns-in-None-clause-runs g c =
    runs_not_so c.args.tree.now c.damaged.result c.damaged.ensures
    (runs_wider c.in_ok-bring.ensures.runs (λ p there none. none) (λ p is. is) (λ damage none. absurd none))
    (λ leaf.
    let is = c.named_on.ensures.counts leaf.0
    (lent_node c.args.tree.now.width (g.P.Pages.state c.args.pages.now) c.args.page c.page.result.now (LeafNode leaf.0)
    (hand_bytes c.args.pages.now c.args.page (g.P.Pages.state c.bring.new.pages).hand c.page.result.now c.requires.within c.in_ok-bring.ensures.hand c.page.ensures) leaf.1 (λ e. cc)) in
    cc (is, c.in-None.is))
