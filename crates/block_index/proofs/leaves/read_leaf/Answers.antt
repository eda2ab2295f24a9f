use Rattle.std.proofs.Common.{◌≡◌, ◌<◌, ap, subst, sym, ◌∙◌}
use Rattle.std.specs.Prelude.{Some, false}
use Rattle.mdc_words.specs.ByteOrder.{below}
use Rattle.entry_tree.specs.Forest.{leaf_entries}
use Rattle.entry_tree.specs.Reading.{IsLeafFrom}
use Rattle.block_index.specs.Reading.{room_above}
use Rattle.block_index.proofs.LeavesLemmas.{leaf_then_left, rest_above, some_room}
use Rattle.block_index.proofs.ReadingRunsLemmas.{reads_broken}
use Rattle.block_index.proofs.leaves.read_leaf.Goals as goal

pub returns-in_default-clause-falls : goal.returns-in_default-clause-falls
returns-in_default-clause-falls g c = subst (λ w. 0 < room_above w (Some c.args.bound.now)) c.requires.width (some_room c.args.bound.now (λ k. (c.type_inv.bound k).fits))

pub returns-then-not-lies_above-clause-runs : goal.returns-then-not-lies_above-clause-runs
returns-then-not-lies_above-clause-runs g c =
    reads_broken g.P.Pages c.args.tree.now c.args.pages.now c.read_leaf_from.new.pages c.out_of_order.result c.out_of_order.ensures c.in_ok-read_leaf_from.ensures.runs
    (λ t h. let above = rest_above (leaf_entries t) c.args.bound.now c.in-Some.next c.read_leaf_from.new.leaf.entries (subst (IsLeafFrom (leaf_entries t) c.args.bound.now c.read_leaf_from.new.leaf.entries) (sym c.take.ensures.value ∙ c.in-Some.is) (c.in_ok-read_leaf_from.ensures.read t h)) in
    let is_above : below c.args.bound.now c.in-Some.next ≡ false = ap (below c.args.bound.now) (sym c.bytes.ensures) ∙ (sym c.lies_above.ensures.above ∙ c.if-not-lies_above.true) in
    absurd cc)

pub returns-clause-read : goal.returns-clause-read
returns-clause-read g c t h = leaf_then_left (leaf_entries t) c.args.bound.now c.read_leaf_from.new.leaf.entries (Some c.in-Some.next)
    (subst (IsLeafFrom (leaf_entries t) c.args.bound.now c.read_leaf_from.new.leaf.entries) (sym c.take.ensures.value ∙ c.in-Some.is) (c.in_ok-read_leaf_from.ensures.read t h))
