use Rattle.std.proofs.Common.{◌≡◌, sym, ◌∙◌}
use Rattle.std.specs.Prelude.{⊤}
use Rattle.node_page.specs.Looked.{entries_in}
use Rattle.entry_tree.specs.Spots.{fence_behind}
use Rattle.entry_tree.proofs.PassedLemmas.{inner_passed, leaf_passed}
use Rattle.entry_tree.proofs.ShownLemmas.{shows_child, shows_leaf}
use Rattle.entry_tree.proofs.spot.look_down.Goals as goal

pub returns-then-is_leaf-clause-passes : goal.returns-then-is_leaf-clause-passes
returns-then-is_leaf-clause-passes c =
    leaf_passed c.args.width c.args.bytes.now c.look.result c.in-Some.view c.args.page c.args.entry.now c.find-at.result.0 c.find-at.result.1
    (record { leaf = c.look.ensures.leaf; inner = c.look.ensures.inner }) c.in-Some.is (sym c.is_leaf.ensures.leaf ∙ c.if-is_leaf.true) c.find-at.ensures.place c.find-at.ensures.here

pub returns-clause-passes : goal.returns-clause-passes
returns-clause-passes c =
    inner_passed c.args.width c.args.bytes.now c.look.result c.in-Some.view c.args.page c.args.entry.now c.child_of-at.result.0 c.child_of-at.result.1 c.fence_before-before.result c.fence_behind-behind.result
    (record { leaf = c.look.ensures.leaf; inner = c.look.ensures.inner }) c.in-Some.is (sym c.is_leaf.ensures.leaf ∙ c.if-is_leaf.false) c.child_of-at.ensures.place c.child_of-at.ensures.child
    c.fence_before-before.ensures.fence c.fence_behind-behind.ensures.fence

pub returns-then-is_leaf-clause-shown : goal.returns-then-is_leaf-clause-shown
returns-then-is_leaf-clause-shown c =
    (shows_leaf c.args.width c.args.bytes.now c.in-Some.view c.args.entry.now c.find-at.result.0 c.find-at.result.1 (λ node. ⊤) (sym c.in-Some.ensures.seen) c.in-Some.ensures.width (sym c.is_leaf.ensures.leaf ∙ c.if-is_leaf.true)
    c.find-at.ensures.within c.find-at.ensures.place c.find-at.ensures.here tt).0

pub returns-clause-shown : goal.returns-clause-shown
returns-clause-shown c =
    shows_child c.args.width c.args.bytes.now c.in-Some.view c.args.entry.now c.child_of-at.result.0 c.child_of-at.result.1 (λ node. c.fence_behind-behind.result ≡ fence_behind c.args.page (entries_in node) c.child_of-at.result.0)
    (sym c.in-Some.ensures.seen) c.in-Some.ensures.width (sym c.is_leaf.ensures.leaf ∙ c.if-is_leaf.false) c.child_of-at.ensures.within c.child_of-at.ensures.place c.child_of-at.ensures.child
    c.fence_behind-behind.ensures.fence
