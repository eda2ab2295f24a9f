use Rattle.node_page.proofs.SeenLemmas.{leaf_item, inner_item}
use Rattle.node_page.proofs.view.NodeView.is_leaf.Goals as goal

pub returns-clause-width : goal.returns-clause-width
returns-clause-width c = λ yes. let v = c.self.inside in leaf_item c.args.self.now v.leaf v.width v.count v.page.now c.self.view_is yes

pub returns-clause-fork : goal.returns-clause-fork
returns-clause-fork c = λ yes. let v = c.self.inside in inner_item c.args.self.now v.leaf v.width v.count v.page.now c.self.view_is yes
