use Rattle.std.proofs.Common.{◌≡◌, ◌<◌, ◌+◌, ◌++◌, ap, arith, length, subst, sym, ◌∙◌}
use Rattle.std.specs.Prelude.{map}
use Rattle.std.proofs.lemmas.List.{length-take-le}
use Rattle.block_index.specs.PartRanges.{entries_until}
use Rattle.block_index.proofs.TakenLemmas.{taking_all, taking_all_count, taking_all_here, taking_all_named, taking_ends, taking_ends_here}
use Rattle.record_index.specs.FoundRids.{rid_in_entry, rid_of_number}
use Rattle.record_index.proofs.RangesLemmas.{IsTaking, taking_next, taking_none}
use Rattle.record_index.proofs.in_span.take_rids.Goals as goal

pub loop-i-init : goal.loop-i-init
loop-i-init g c = taking_none c.args.range.now c.args.leaf.now c.args.numbers.now.items c.args.entries.now c.requires.small

pub loop-i-preserved : goal.loop-i-preserved
loop-i-preserved g c =
    let within : c.loop-i.i < length c.args.leaf.now = omega (arith, c.loop-i-test.true, c.len-i-end.ensures) in
    subst (IsTaking c.args.range.now c.args.leaf.now (c.loop-i.i + 1) c.args.numbers.now.items c.push.new.self.items c.args.entries.now) (sym c.tick.ensures)
    (taking_next c.args.range.now c.args.leaf.now c.loop-i.i c.args.numbers.now.items c.loop-i.numbers.items c.args.entries.now c.loop-i.entries c.loop-i.invariant c.at-entry.result.now within c.at-entry.ensures c.push.new.self.items c.rid_number_in.result
    (sym c.if-ends_at.ensures) c.rid_number_in.ensures.place c.rid_number_in.ensures.small c.in_ok-push.ensures.items)

pub returns-then-ends_at-clause-numbers : goal.returns-then-ends_at-clause-numbers
returns-then-ends_at-clause-numbers g c =
    let within : c.loop-i.i < length c.args.leaf.now = omega (arith, c.loop-i-test.true, c.len-i-end.ensures) in
    c.loop-i.invariant.taking.taken_are
    ∙ ap (λ xs. map rid_of_number c.args.numbers.now.items ++ map rid_in_entry xs)
    (sym (taking_ends_here c.loop-i.invariant.taking c.at-entry.result.now within c.at-entry.ensures (sym c.if-ends_at.ensures)))

pub returns-then-ends_at-clause-counted : goal.returns-then-ends_at-clause-counted
returns-then-ends_at-clause-counted g c =
    let within : c.loop-i.i < length c.args.leaf.now = omega (arith, c.loop-i-test.true, c.len-i-end.ensures) in
    omega (
      arith,
      c.loop-i.invariant.taking.count_is,
      within,
      ap length (taking_ends_here c.loop-i.invariant.taking c.at-entry.result.now within c.at-entry.ensures (sym c.if-ends_at.ensures)),
      length-take-le c.loop-i.i c.args.leaf.now (omega (arith, within)),
    )

pub returns-then-ends_at-clause-ended : goal.returns-then-ends_at-clause-ended
returns-then-ends_at-clause-ended g c e rest =
    let within : c.loop-i.i < length c.args.leaf.now = omega (arith, c.loop-i-test.true, c.len-i-end.ensures) in
    taking_ends c.loop-i.invariant.taking c.at-entry.result.now within c.at-entry.ensures (sym c.if-ends_at.ensures) rest
    ∙ sym (taking_ends_here c.loop-i.invariant.taking c.at-entry.result.now within c.at-entry.ensures (sym c.if-ends_at.ensures))

pub returns-clause-numbers : goal.returns-clause-numbers
returns-clause-numbers g c =
    taking_all_named c.loop-i.invariant.taking (omega (arith, c.loop-i-test.false, c.loop-i.auto.i-end, c.len-i-end.ensures))

pub returns-clause-counted : goal.returns-clause-counted
returns-clause-counted g c =
    taking_all_count c.loop-i.invariant.taking (omega (arith, c.loop-i-test.false, c.loop-i.auto.i-end, c.len-i-end.ensures))

pub returns-clause-goes_on : goal.returns-clause-goes_on
returns-clause-goes_on g c e rest =
    let whole : c.loop-i.i ≡ length c.args.leaf.now = omega (arith, c.loop-i-test.false, c.loop-i.auto.i-end, c.len-i-end.ensures) in
    taking_all c.loop-i.invariant.taking whole rest
    ∙ ap (λ xs. xs ++ entries_until c.args.range.now rest) (sym (taking_all_here c.loop-i.invariant.taking whole))
