use Rattle.std.proofs.Common.{arith, ap, sym, ◌∙◌, Some}
use Rattle.mdc_words.specs.ByteOrder.{Entry}
use Rattle.entry_tree.specs.Forest.{leaf_entries}
use Rattle.block_map.proofs.WalkingLemmas.{load_ends, load_goes, load_none, none_more}
use Rattle.block_map.proofs.walk.Walk.load.Goals as goal

pub returns-in_default-clause-none : goal.returns-in_default-clause-none
returns-in_default-clause-none g c gone t h =
    load_none (leaf_entries t) c.args.self.now.leaf.entries c.args.self.now.at c.args.self.now.leaf.next (omega (arith, c.len.ensures)) (sym c.take.ensures.value ∙ c.in_default.is)

pub returns-clause-left : goal.returns-clause-left
returns-clause-left g c t h =
    load_goes (leaf_entries t) c.args.self.now.leaf.entries _ c.args.self.now.at c.bytes.result.now c.args.self.now.leaf.next _ (omega (arith, c.len.ensures))
    (sym c.take.ensures.value ∙ c.in-Some.is ∙ ap (λ (b : Entry). Some b) (sym c.bytes.ensures)) (c.in_ok-read_leaf_from.ensures.read t h)

pub returns-clause-none : goal.returns-clause-none
returns-clause-none g c gone t h =
    load_ends (leaf_entries t) c.args.self.now.leaf.entries _ c.args.self.now.at c.bytes.result.now c.args.self.now.leaf.next _ (omega (arith, c.len.ensures))
    (sym c.take.ensures.value ∙ c.in-Some.is ∙ ap (λ (b : Entry). Some b) (sym c.bytes.ensures)) (c.in_ok-read_leaf_from.ensures.read t h) (none_more c.len-2.result _ gone c.len-2.ensures)
