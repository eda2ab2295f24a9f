use Rattle.std.proofs.Common.{length, ap, sym, ◌∙◌}
use Rattle.node_page.specs.Looked.{entries_in}
use Rattle.node_page.proofs.SeenLemmas.{length-seen}
use Rattle.node_page.proofs.view.NodeView.len.Goals as goal

pub returns : goal.returns
returns c =
    let v = c.self.inside in
    sym (length-seen v.leaf v.width v.count v.page.now) ∙ ap (λ view. length (entries_in view.node)) c.self.view_is
