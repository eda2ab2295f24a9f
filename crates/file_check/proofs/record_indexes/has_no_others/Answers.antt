use Rattle.std.proofs.Common.{◌-◌, ◌<◌, ◌⊎◌, ◌∙◌, [], List, ℕ, arith, inl, inr, length, refl, subst, sym}
use Rattle.std.specs.Prelude.{Contains}
use Rattle.std.proofs.lemmas.List.{get_or_default, take_all}
use Rattle.node_page.specs.Node.{number_within}
use Rattle.file_check.specs.TableIndexes.{bytes_behind_key, noted_entries}
use Rattle.file_check.proofs.IndexJudgingLemmas.{each_more, width_at}
use Rattle.file_check.proofs.record_indexes.has_no_others.Goals as goal

pub loop-i-preserved-then-has : goal.loop-i-preserved-then-has
loop-i-preserved-then-has c =
    let key = c.args.index.now.tree.width - bytes_behind_key c.args.index.now.kind in
    each_more (λ (entry : List ℕ). Contains (noted_entries c.args.noted.now) entry ⊎ Contains c.args.spare.now (number_within key 4 entry)) c.args.entries.now c.loop-i.i c.at-entry.result.now
    (omega (arith, c.loop-i-test.true, c.len-i-end.ensures)) (get_or_default c.args.entries.now c.loop-i.i c.at-entry.result.now [] (omega (arith, c.loop-i-test.true, c.len-i-end.ensures)) ∙ sym c.at-entry.ensures)
    c.loop-i.invariant (inl (c.has.ensures.0 c.if-has.true))

pub block_in_entry-requires-clause-width : goal.block_in_entry-requires-clause-width
block_in_entry-requires-clause-width c =
    width_at c.args.entries.now c.loop-i.i c.args.index.now.tree.width c.at-entry.result.now (omega (arith, c.loop-i-test.true, c.len-i-end.ensures)) c.requires.width c.at-entry.ensures

pub returns-then-not-has_block : goal.returns-then-not-has_block
returns-then-not-has_block c =
    let low : c.loop-i.i < length c.args.entries.now = omega (arith, c.loop-i-test.true, c.len-i-end.ensures) in
    let there : Contains c.args.entries.now c.at-entry.result.now = (c.loop-i.i, low, get_or_default c.args.entries.now c.loop-i.i c.at-entry.result.now [] low ∙ sym c.at-entry.ensures) in (
      λ no. absurd (cc (no)),
      λ all. elim (all c.at-entry.result.now there) [
        | inl noted ↦ absurd (cc (c.has.ensures.1 noted, c.if-has.false))
        | inr spare ↦ absurd (cc (c.has_block.ensures.1 (subst (Contains c.args.spare.now) (sym c.block_in_entry.ensures) spare), c.if-not-has_block.true))
      ],
    )

pub loop-i-preserved : goal.loop-i-preserved
loop-i-preserved c =
    let key = c.args.index.now.tree.width - bytes_behind_key c.args.index.now.kind in
    let low : c.loop-i.i < length c.args.entries.now = omega (arith, c.loop-i-test.true, c.len-i-end.ensures) in
    each_more (λ (entry : List ℕ). Contains (noted_entries c.args.noted.now) entry ⊎ Contains c.args.spare.now (number_within key 4 entry)) c.args.entries.now c.loop-i.i c.at-entry.result.now
    low (get_or_default c.args.entries.now c.loop-i.i c.at-entry.result.now [] low ∙ sym c.at-entry.ensures)
    c.loop-i.invariant (inr (subst (Contains c.args.spare.now) c.block_in_entry.ensures (c.has_block.ensures.0 c.if-not-has_block.false)))

pub returns : goal.returns
returns c = (
  λ yes entry there. c.loop-i.invariant entry (subst (λ (entries : List (List ℕ)). Contains entries entry) (sym (take_all c.loop-i.i c.args.entries.now (omega (arith, c.loop-i-test.false, c.len-i-end.ensures)))) there),
  λ all. refl,
)
