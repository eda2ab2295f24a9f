use Rattle.std.proofs.Common.{refl, subst}
use Rattle.std.proofs.lemmas.Bool.{false≢true}
use Rattle.std.proofs.lemmas.List.{drop_all}
use Rattle.block_lists.proofs.WalkLemmas.{first_left, keeps_last, keeps_members}
use Rattle.block_lists.proofs.NumberLemmas.{CommonGoes, common_moved, common_past, common_taken, numbers_order}
use Rattle.block_lists.proofs.numbers.common_blocks.Goals as goal
use Rattle.block_lists.proofs.numbers.common_blocks.Goals.{then-begins_with+in_ok-push, else-begins_with}

pub push-requires : goal.push-requires
push-requires c =
    let here = subst (CommonGoes c.args.b.now c.args.a.now c.loop-number.b.now c.loop-number.common) (first_left c.args.a.now c.loop-number.number-index 0 c.loop-number-test.true) c.loop-number.invariant in
    keeps_last here.keeps

pub loop-number-preserved : goal.loop-number-preserved
loop-number-preserved c =
    let here = subst (CommonGoes c.args.b.now c.args.a.now c.loop-number.b.now c.loop-number.common) (first_left c.args.a.now c.loop-number.number-index 0 c.loop-number-test.true) c.loop-number.invariant in
    let moved = common_moved c.from_number-b.result.now here c.from_number-b.ensures.rises c.from_number-b.ensures.same in
    elim c.if-begins_with.branch [
      | then-begins_with+in_ok-push w ↦ rw (w.common-is, w.in_ok-push.ensures.ok) (common_taken moved (w.if-begins_with.ensures.0 refl))
      | else-begins_with w ↦ rw w.common-is (common_past moved c.from_number-b.ensures.begins (λ e. false≢true (w.if-begins_with.ensures.1 e)))
    ]

pub returns : goal.returns
returns c = keeps_members numbers_order c.loop-number.invariant.keeps (drop_all c.loop-number.number-index c.args.a.now c.loop-number-test.false)
