use Rattle.std.proofs.Common.{◌<◌, ◌∙◌, arith}
use Rattle.std.proofs.lemmas.Bool.{both_ways}
use Rattle.node_page.specs.Looked.{entries_in}
use Rattle.node_page.specs.Entries.{StandsAt}
use Rattle.node_page.proofs.SeenLemmas.{below_seen}
use Rattle.node_page.proofs.FindLemmas.{child_behind, child_before}
use Rattle.node_page.proofs.view.NodeView.child_of.Goals as goal
use Rattle.node_page.proofs.view.NodeView.child_of.Goals.{then-here, else-here}

pub overflow_add-at : goal.overflow_add-at
overflow_add-at c =
    let v = c.self.inside in
    let at : StandsAt c.args.entry.now c.find-place.result.0 (entries_in c.args.self.now.node) = c.find-place.ensures.here.0 c.if-here.true in
    let lt : c.find-place.result.0 < v.count = below_seen c.args.self.now v.leaf v.width v.count c.find-place.result.0 v.page.now c.self.view_is at.0 in
    omega (arith, c.self.invariant.few)

pub returns-clause-place : goal.returns-clause-place
returns-clause-place c = λ r.
    let entries = entries_in c.args.self.now.node in
    let x = c.args.entry.now in
    let place = c.find-place.result.0 in
    elim c.if-here.branch [
      | then-here w ↦ w.at-is ∙ child_behind entries x place r (c.find-place.ensures.place r) (c.find-place.ensures.here.0 w.if-here.true)
      | else-here w ↦ w.at-is ∙ child_before entries x place r (c.find-place.ensures.place r) c.find-place.ensures.within (λ at. both_ways c.find-place.result.1 w.if-here.false (c.find-place.ensures.here.1 at))
    ]
