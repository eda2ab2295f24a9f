use Rattle.std.proofs.Common.{◌≡◌, ◌+◌, ◌-◌, ◌*◌, ◌≤◌, get_or, take, drop, [], ap, ◌∙◌, arith}
use Rattle.node_page.specs.Looked.{SeenNode, entries_in}
use Rattle.node_page.proofs.SeenLemmas.{entry_seen, slot_fits, step_wide, below_seen}
use Rattle.node_page.proofs.view.NodeView.entry.Goals as goal

pub slot_at-at-requires : goal.slot_at-at-requires
slot_at-at-requires c =
    let v = c.self.inside in
    let lt = below_seen c.args.self.now v.leaf v.width v.count c.args.i v.page.now c.self.view_is c.requires in
    let slot : c.args.i * v.step + v.step ≤ 4080 = slot_fits v.leaf v.width v.count v.step c.args.i c.self.invariant lt in
    omega arith

pub overflow_add-result : goal.overflow_add-result
overflow_add-result c =
    let v = c.self.inside in
    let lt = below_seen c.args.self.now v.leaf v.width v.count c.args.i v.page.now c.self.view_is c.requires in
    let slot : c.args.i * v.step + v.step ≤ 4080 = slot_fits v.leaf v.width v.count v.step c.args.i c.self.invariant lt in
    let wide : v.width ≤ v.step = step_wide v.leaf v.width v.count v.step c.self.invariant in
    omega arith

pub slice_bounds-result-end : goal.slice_bounds-result-end
slice_bounds-result-end c =
    let v = c.self.inside in
    let lt = below_seen c.args.self.now v.leaf v.width v.count c.args.i v.page.now c.self.view_is c.requires in
    let slot : c.args.i * v.step + v.step ≤ 4080 = slot_fits v.leaf v.width v.count v.step c.args.i c.self.invariant lt in
    let wide : v.width ≤ v.step = step_wide v.leaf v.width v.count v.step c.self.invariant in
    omega arith

pub returns-clause-bytes : goal.returns-clause-bytes
returns-clause-bytes c =
    let v = c.self.inside in
    let lt = below_seen c.args.self.now v.leaf v.width v.count c.args.i v.page.now c.self.view_is c.requires in
    let wide : c.slot_at-at.result + v.width - c.slot_at-at.result ≡ v.width = omega arith in
    ap (λ k. take k (drop c.slot_at-at.result v.page.now)) wide ∙ ap (λ k. take v.width (drop k v.page.now)) c.slot_at-at.ensures
    ∙ entry_seen v.leaf v.width v.count v.step c.args.i v.page.now c.self.invariant.apart lt
    ∙ ap (λ (view : SeenNode). get_or (entries_in view.node) c.args.i []) c.self.view_is
