use Rattle.std.proofs.Common.{◌+◌, arith, subst, sym, ◌∙◌}
use Rattle.std.specs.List.Sorted.{IsPermutation}
use Rattle.block_index.proofs.RisingLemmas.{AreSorted, IsRisen, risen_again, risen_all, risen_next, sorted_numbers}
use Rattle.rollout.proofs.choosing.rising.Goals as goal
use Rattle.rollout.proofs.choosing.rising.Goals.{then-from+in_ok-push, else-from}

pub loop-number-preserved : goal.loop-number-preserved
loop-number-preserved c =
    let numbers = c.as_slice-number-items.result.now in
    let i = c.loop-number.number-index in
    let sorted : AreSorted numbers = subst AreSorted (sym c.as_slice-number-items.ensures.value) (sorted_numbers c.sort_unstable.new.self.items c.sort_unstable.ensures.sorted) in
    elim c.if-from.branch [
      | then-from+in_ok-push w ↦
          subst (λ from. IsRisen numbers (i + 1) from c.if-from.blocks) (omega (arith, w.from-is, w.from-from.ensures))
          (risen_next numbers i c.loop-number.from c.loop-number.blocks c.loop-number.invariant sorted c.loop-number-test.true c.if-from.blocks (omega (arith, w.if-from.true, c.from.ensures)) (w.blocks-is ∙ w.in_ok-push.ensures.ok))
      | else-from w ↦
          subst (λ from. IsRisen numbers (i + 1) from c.if-from.blocks) (sym w.from-is)
          (subst (IsRisen numbers (i + 1) c.loop-number.from) (sym w.blocks-is)
          (risen_again numbers i c.loop-number.from c.loop-number.blocks c.loop-number.invariant sorted c.loop-number-test.true (omega (arith, w.if-from.false, c.from.ensures))))
    ]

pub returns : goal.returns
returns c = record {
  same = risen_all c.args.numbers.items c.as_slice-number-items.result.now c.loop-number.number-index c.loop-number.from c.loop-number.blocks
      (subst (IsPermutation c.args.numbers.items) (sym c.as_slice-number-items.ensures.value) c.sort_unstable.ensures.permutation) (omega (arith, c.loop-number-test.false, c.loop-number.auto.number-index-end)) c.loop-number.invariant;
}
