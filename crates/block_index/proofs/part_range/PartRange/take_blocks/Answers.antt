use Rattle.std.proofs.Common.{◌≡◌, ◌<◌, ◌++◌, ap, arith, length, sym, ◌∙◌}
use Rattle.std.proofs.lemmas.List.{length-take-le}
use Rattle.block_index.specs.PartRanges.{blocks_in_range, entries_until}
use Rattle.block_index.proofs.TakenLemmas.{taking_all, taking_all_named, taking_all_count, taking_all_here, taking_ends, taking_ends_here}
use Rattle.block_index.proofs.part_range.PartRange.take_blocks.Goals as goal

pub returns-then-ends_at-clause-blocks : goal.returns-then-ends_at-clause-blocks
returns-then-ends_at-clause-blocks g c =
    let within : c.loop-i.i < length c.args.leaf.now = omega (arith, c.loop-i-test.true, c.len-i-end.ensures) in
    c.loop-i.invariant.taken_are
    ∙ ap (λ xs. c.args.blocks.now.items ++ blocks_in_range c.args.self.now xs)
    (sym (taking_ends_here c.loop-i.invariant c.at-entry.result.now within c.at-entry.ensures (sym c.if-ends_at.ensures)))

pub returns-then-ends_at-clause-counted : goal.returns-then-ends_at-clause-counted
returns-then-ends_at-clause-counted g c =
    let within : c.loop-i.i < length c.args.leaf.now = omega (arith, c.loop-i-test.true, c.len-i-end.ensures) in
    omega (
      arith,
      c.loop-i.invariant.count_is,
      within,
      ap length (taking_ends_here c.loop-i.invariant c.at-entry.result.now within c.at-entry.ensures (sym c.if-ends_at.ensures)),
      length-take-le c.loop-i.i c.args.leaf.now (omega (arith, within)),
    )

pub returns-then-ends_at-clause-ended : goal.returns-then-ends_at-clause-ended
returns-then-ends_at-clause-ended g c e rest =
    let within : c.loop-i.i < length c.args.leaf.now = omega (arith, c.loop-i-test.true, c.len-i-end.ensures) in
    taking_ends c.loop-i.invariant c.at-entry.result.now within c.at-entry.ensures (sym c.if-ends_at.ensures) rest
    ∙ sym (taking_ends_here c.loop-i.invariant c.at-entry.result.now within c.at-entry.ensures (sym c.if-ends_at.ensures))

pub returns-clause-blocks : goal.returns-clause-blocks
returns-clause-blocks g c =
    taking_all_named c.loop-i.invariant (omega (arith, c.loop-i-test.false, c.loop-i.auto.i-end, c.len-i-end.ensures))

pub returns-clause-counted : goal.returns-clause-counted
returns-clause-counted g c =
    taking_all_count c.loop-i.invariant (omega (arith, c.loop-i-test.false, c.loop-i.auto.i-end, c.len-i-end.ensures))

pub returns-clause-goes_on : goal.returns-clause-goes_on
returns-clause-goes_on g c e rest =
    let whole : c.loop-i.i ≡ length c.args.leaf.now = omega (arith, c.loop-i-test.false, c.loop-i.auto.i-end, c.len-i-end.ensures) in
    taking_all c.loop-i.invariant whole rest
    ∙ ap (λ xs. xs ++ entries_until c.args.self.now rest) (sym (taking_all_here c.loop-i.invariant whole))
