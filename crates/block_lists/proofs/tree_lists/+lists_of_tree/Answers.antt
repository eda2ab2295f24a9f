use Rattle.std.proofs.Common.{rules}
use Rattle.std.proofs.lemmas.Result.{IfOk-weaker}
use Rattle.block_lists.specs.declared.tree.ListTree.{the_lemmas}
use Rattle.block_lists.proofs.TreeLemmas.{all_lists, any_lists, lists_more, member_of_all, member_of_any, some_lists}
use Rattle.block_lists.proofs.tree_lists.+lists_of_tree.Goals as goal

pub lists_of_tree-requires : goal.lists_of_tree-requires
lists_of_tree-requires t c =
    (search (rules, the_lemmas), member_of_all c.args.tree.now c.in-All.members c.as_slice-member-items.result.now c.loop-member.member-index c.member-item.result c.as_slice-member-items.ensures c.loop-member-test.true c.member-item.is c.in-All.is c.requires)

pub lists_of_tree-requires-in-loop-member-2 : goal.lists_of_tree-requires-in-loop-member-2
lists_of_tree-requires-in-loop-member-2 t c =
    (search (rules, the_lemmas), member_of_any c.args.tree.now c.in-Any.members c.as_slice-member-items-in-Any.result.now c.loop-member-2.member-index c.member-item-in-loop-member-2.result c.as_slice-member-items-in-Any.ensures c.loop-member-2-test.true c.member-item-in-loop-member-2.is c.in-Any.is c.requires)

pub loop-member-preserved : goal.loop-member-preserved
loop-member-preserved t c =
    lists_more c.as_slice-member-items.result.now c.loop-member.member-index c.member-item.result c.loop-member.lists c.in_ok-lists_of_tree-in-All.field-0 c.push.new.self
    c.loop-member-test.true c.member-item.is c.in_ok-push-in-All.ensures.ok c.in_ok-lists_of_tree-in-All.ensures c.loop-member.invariant

pub loop-member-2-preserved : goal.loop-member-2-preserved
loop-member-2-preserved t c =
    lists_more c.as_slice-member-items-in-Any.result.now c.loop-member-2.member-index c.member-item-in-loop-member-2.result c.loop-member-2.lists c.in_ok-lists_of_tree-in-Any.field-0 c.push-in-loop-member-2.new.self
    c.loop-member-2-test.true c.member-item-in-loop-member-2.is c.in_ok-push-in-Any.ensures.ok c.in_ok-lists_of_tree-in-Any.ensures c.loop-member-2.invariant

pub and_all-requires : goal.and_all-requires
and_all-requires t c =
    rw c.as_slice.ensures (some_lists c.args.tree.now c.in-All.members c.as_slice-member-items.result.now c.loop-member.member-index c.as_slice-member-items.ensures c.loop-member-test.false c.loop-member.lists c.loop-member.invariant c.in-All.is c.requires)

pub returns-after-loop-member : goal.returns-after-loop-member
returns-after-loop-member t c =
    IfOk-weaker c.and_all.result _ _
    (λ joined is. all_lists c.args.tree.now c.in-All.members c.as_slice-member-items.result.now c.loop-member.member-index c.as_slice-member-items.ensures c.loop-member-test.false c.loop-member.lists c.loop-member.invariant joined c.in-All.is
    (rw (← c.as_slice.ensures) is))
    c.and_all.ensures

pub returns-after-loop-member-2 : goal.returns-after-loop-member-2
returns-after-loop-member-2 t c =
    IfOk-weaker c.or_all.result _ _
    (λ joined is. any_lists c.args.tree.now c.in-Any.members c.as_slice-member-items-in-Any.result.now c.loop-member-2.member-index c.as_slice-member-items-in-Any.ensures c.loop-member-2-test.false c.loop-member-2.lists c.loop-member-2.invariant joined c.in-Any.is
    (rw (← c.as_slice-in-Any.ensures) is))
    c.or_all.ensures
