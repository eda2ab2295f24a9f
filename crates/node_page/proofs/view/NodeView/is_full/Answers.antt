use Rattle.std.proofs.Common.{◌<◌, ◌+◌, ◌*◌, ap, sym, subst, ◌∙◌}
use Rattle.std.proofs.lemmas.Bool.{ltb-false}
use Rattle.node_page.specs.Node.{is_full}
use Rattle.node_page.specs.Looked.{SeenNode}
use Rattle.node_page.proofs.SeenLemmas.{full_seen, room_seen}
use Rattle.node_page.proofs.view.NodeView.is_full.Goals as goal

pub returns-clause-full : goal.returns-clause-full
returns-clause-full c = λ some.
    let v = c.self.inside in
    sym (full_seen v.leaf v.width v.count v.step v.page.now c.self.invariant (subst (λ (view : SeenNode). 0 < view.width) (sym c.self.view_is) some))
    ∙ ap (λ (view : SeenNode). is_full view.width view.node) c.self.view_is

pub returns-clause-room : goal.returns-clause-room
returns-clause-room c = λ no.
    let v = c.self.inside in
    room_seen c.args.self.now v.leaf v.width v.count v.step v.page.now c.self.view_is c.self.invariant.apart (ltb-false 4080 ((v.count + 1) * v.step) no)
