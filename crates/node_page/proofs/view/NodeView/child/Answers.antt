use Rattle.std.proofs.Common.{◌≡◌, ◌+◌, ◌-◌, ◌≤◌, get_or, false, ap, ◌∙◌, arith}
use Rattle.node_page.specs.Node.{number_within}
use Rattle.node_page.specs.Looked.{SeenNode, children_in, is_leaf_node}
use Rattle.node_page.specs.Views.{node_seen}
use Rattle.node_page.proofs.SeenLemmas.{child_seen, slot_fits, step_inner, upto_seen}
use Rattle.node_page.proofs.view.NodeView.child.Goals as goal

pub slot_at-requires : goal.slot_at-requires
slot_at-requires c =
    let v = c.self.inside in
    let le : c.args.i ≤ v.count = upto_seen c.args.self.now v.leaf v.width v.count c.args.i v.page.now c.self.view_is c.requires.within in
    let slot = slot_fits v.leaf v.width v.count v.step (c.args.i - 1) c.self.invariant (omega arith) in
    omega (arith, slot)

pub overflow_add-slot_at : goal.overflow_add-slot_at
overflow_add-slot_at c =
    let v = c.self.inside in
    let le : c.args.i ≤ v.count = upto_seen c.args.self.now v.leaf v.width v.count c.args.i v.page.now c.self.view_is c.requires.within in
    let slot = slot_fits v.leaf v.width v.count v.step (c.args.i - 1) c.self.invariant (omega arith) in
    omega (arith, slot, c.self.invariant.wide)

pub number_at-requires-2 : goal.number_at-requires-2
number_at-requires-2 c =
    let v = c.self.inside in
    let le : c.args.i ≤ v.count = upto_seen c.args.self.now v.leaf v.width v.count c.args.i v.page.now c.self.view_is c.requires.within in
    let slot = slot_fits v.leaf v.width v.count v.step (c.args.i - 1) c.self.invariant (omega arith) in
    let inner : is_leaf_node (node_seen v.leaf v.width v.count v.page.now) ≡ false = ap (λ (view : SeenNode). is_leaf_node view.node) c.self.view_is ∙ c.requires.inner in
    let apart = step_inner v.leaf v.width v.count v.step v.page.now c.self.invariant inner in
    omega (arith, slot, apart)

pub returns : goal.returns
returns c =
    let v = c.self.inside in
    let le : c.args.i ≤ v.count = upto_seen c.args.self.now v.leaf v.width v.count c.args.i v.page.now c.self.view_is c.requires.within in
    let inner : is_leaf_node (node_seen v.leaf v.width v.count v.page.now) ≡ false = ap (λ (view : SeenNode). is_leaf_node view.node) c.self.view_is ∙ c.requires.inner in
    c.number_at-2.ensures
    ∙ ap (λ k. number_within (k + v.width) 4 v.page.now) c.slot_at.ensures
    ∙ child_seen v.leaf v.width v.count v.step c.args.i v.page.now c.self.invariant.apart inner (omega arith) le
    ∙ ap (λ (view : SeenNode). get_or (children_in view.node) c.args.i 0) c.self.view_is
