use Rattle.std.proofs.Common.{◌≡◌, ◌∙◌, false, nat_lt, sym, ap}
use Rattle.block_lists.proofs.TreeLemmas.{lacks_member, none_lacks, whole_members}
use Rattle.block_lists.proofs.members.+has_members.Goals as goal

pub returns-then-not-has_members : goal.returns-then-not-has_members
returns-then-not-has_members t c =
    let lacks : c.has_members.result ≡ false = c.if-not-has_members.true in
    sym (whole_members c.args.tree.now c.in-All.members c.in-All.is
    ∙ lacks_member c.in-All.members c.as_slice-member-items.result.now c.loop-member.member-index c.as_slice-member-items.ensures c.member-item.result c.loop-member-test.true c.member-item.is
    (sym c.has_members.ensures ∙ lacks))

pub returns-after-loop-member : goal.returns-after-loop-member
returns-after-loop-member t c =
    ap (nat_lt 0) c.len.ensures
    ∙ sym (whole_members c.args.tree.now c.in-All.members c.in-All.is
    ∙ none_lacks c.in-All.members c.as_slice-member-items.result.now c.loop-member.member-index c.as_slice-member-items.ensures c.loop-member-test.false c.loop-member.invariant)
