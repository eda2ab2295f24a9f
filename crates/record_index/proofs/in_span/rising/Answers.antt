use Rattle.std.proofs.Common.{◌+◌, ◌<◌, ◌^◌, arith, get_or, subst, sym, ◌∙◌}
use Rattle.std.specs.List.Sorted.{IsPermutation}
use Rattle.block_index.proofs.RisingLemmas.{AreSorted, sorted_numbers}
use Rattle.record_index.proofs.RisingRidsLemmas.{IsRisenRids, places_risen, rids_again, rids_all, rids_behind, rids_next, rids_none, small_sorted}
use Rattle.record_index.proofs.in_span.rising.Goals as goal
use Rattle.record_index.proofs.in_span.rising.Goals.{then-rid_number-from+in_ok-push_rid, else-rid_number-from}

pub push_rid-requires-clause-small : goal.push_rid-requires-clause-small
push_rid-requires-clause-small c =
    small_sorted c.args.numbers.items c.as_slice-rid_number-items.result.now c.loop-rid_number.rid_number-index (subst (IsPermutation c.args.numbers.items) (sym c.as_slice-rid_number-items.ensures.value) c.sort_unstable.ensures.permutation) c.requires.small c.loop-rid_number-test.true

pub push_rid-requires-clause-behind : goal.push_rid-requires-clause-behind
push_rid-requires-clause-behind c = rids_behind c.as_slice-rid_number-items.result.now c.loop-rid_number.rid_number-index c.loop-rid_number.from c.loop-rid_number.rids c.loop-rid_number.invariant _ c.if-rid_number-from.true

pub overflow_add-from : goal.overflow_add-from
overflow_add-from c =
    let small : get_or c.as_slice-rid_number-items.result.now c.loop-rid_number.rid_number-index 0 < 2 ^ 48 =
    small_sorted c.args.numbers.items c.as_slice-rid_number-items.result.now c.loop-rid_number.rid_number-index (subst (IsPermutation c.args.numbers.items) (sym c.as_slice-rid_number-items.ensures.value) c.sort_unstable.ensures.permutation) c.requires.small c.loop-rid_number-test.true in
    record { fits = omega (arith, small) }

pub loop-rid_number-preserved : goal.loop-rid_number-preserved
loop-rid_number-preserved c =
    let numbers = c.as_slice-rid_number-items.result.now in
    let i = c.loop-rid_number.rid_number-index in
    let sorted : AreSorted numbers = subst AreSorted (sym c.as_slice-rid_number-items.ensures.value) (sorted_numbers c.sort_unstable.new.self.items c.sort_unstable.ensures.sorted) in
    elim c.if-rid_number-from.branch [
      | then-rid_number-from+in_ok-push_rid w ↦
          subst (λ from. IsRisenRids numbers (i + 1) from c.if-rid_number-from.rids) (sym w.from-is)
          (rids_next numbers i c.loop-rid_number.from c.loop-rid_number.rids c.loop-rid_number.invariant sorted c.loop-rid_number-test.true c.if-rid_number-from.rids w.if-rid_number-from.true (w.rids-is ∙ w.in_ok-push_rid.ensures.pushed))
      | else-rid_number-from w ↦
          subst (λ from. IsRisenRids numbers (i + 1) from c.if-rid_number-from.rids) (sym w.from-is)
          (subst (IsRisenRids numbers (i + 1) c.loop-rid_number.from) (sym w.rids-is)
          (rids_again numbers i c.loop-rid_number.from c.loop-rid_number.rids c.loop-rid_number.invariant sorted c.loop-rid_number-test.true w.if-rid_number-from.false))
    ]

pub returns-clause-same : goal.returns-clause-same
returns-clause-same c =
    rids_all c.args.numbers.items c.as_slice-rid_number-items.result.now c.loop-rid_number.rid_number-index c.loop-rid_number.from c.loop-rid_number.rids
    (subst (IsPermutation c.args.numbers.items) (sym c.as_slice-rid_number-items.ensures.value) c.sort_unstable.ensures.permutation) (omega (arith, c.loop-rid_number-test.false, c.loop-rid_number.auto.rid_number-index-end)) c.loop-rid_number.invariant

pub loop-rid_number-init : goal.loop-rid_number-init
loop-rid_number-init c = rids_none c.as_slice-rid_number-items.result.now c.new-rids.result c.new-rids.ensures

pub returns-clause-places : goal.returns-clause-places
returns-clause-places c =
    places_risen c.args.numbers.items c.as_slice-rid_number-items.result.now c.loop-rid_number.rid_number-index c.loop-rid_number.from c.loop-rid_number.rids
    (subst (IsPermutation c.args.numbers.items) (sym c.as_slice-rid_number-items.ensures.value) c.sort_unstable.ensures.permutation) (omega (arith, c.loop-rid_number-test.false, c.loop-rid_number.auto.rid_number-index-end)) c.requires.small c.loop-rid_number.invariant
