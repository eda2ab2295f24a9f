use Rattle.std.proofs.Common.{ap, arith, length, sym, ◌∙◌, subst}
use Rattle.entry_tree.specs.Entries.{AreOfWidth}
use Rattle.entry_tree.proofs.WidthsLemmas.{AreOfWidth-and}
use Rattle.block_map.proofs.WalkingLemmas.{wide_at}
use Rattle.file_check.proofs.EntriesLemmas.{taking_exit, widths_taken}
use Rattle.file_check.proofs.entries.take_leaf.Goals as goal

pub take_entry-requires-clause-entry : goal.take_entry-requires-clause-entry
take_entry-requires-clause-entry c = ap length c.at.ensures ∙ wide_at c.args.tree.now.width c.args.leaf.now c.loop-i.i c.requires.leaf (omega (arith, c.loop-i-test.true, c.len-i-end.ensures))

pub take_entry-requires-clause-width : goal.take_entry-requires-clause-width
take_entry-requires-clause-width c =
    subst (AreOfWidth c.args.tree.now.width) (sym c.loop-i.invariant) (AreOfWidth-and c.args.tree.now.width _ _ c.requires.width (widths_taken c.args.tree.now.width c.args.leaf.now c.loop-i.i c.requires.leaf))

pub returns-in_err-take_entry-clause-fault : goal.returns-in_err-take_entry-clause-fault
returns-in_err-take_entry-clause-fault c =
    taking_exit c.args.tree.now c.args.entries.now c.args.leaf.now c.loop-i.entries c.loop-i.i c.at.result.now c.in_err-take_entry.field-0.0 c.from_residual.result (omega (arith, c.loop-i-test.true, c.len-i-end.ensures)) c.at.ensures
    c.loop-i.invariant c.in_err-take_entry.ensures.fault c.from_residual.ensures.1
