use Rattle.std.specs.Cmp.Lexicographic.{same_text}
use Rattle.block_index.proofs.NumberedLemmas.{entry_split}
use Rattle.block_index.proofs.key_numbers.number_under.Goals as goal

pub returns-then-eq-clause-some : goal.returns-then-eq-clause-some
returns-then-eq-clause-some c =
    (entry_split c.args.width c.args.key.now c.args.entry.now c.split_at.result.0.now c.split_at.result.1.now c.read_uint.result (λ k. (c.type_inv.entry k).fits) c.requires.long c.split_at.ensures.front c.split_at.ensures.back
    (same_text c.split_at.result.0.now c.args.key.now c.if-eq.ensures) c.read_uint.ensures).0

pub returns-then-eq-clause-fits : goal.returns-then-eq-clause-fits
returns-then-eq-clause-fits c =
    (entry_split c.args.width c.args.key.now c.args.entry.now c.split_at.result.0.now c.split_at.result.1.now c.read_uint.result (λ k. (c.type_inv.entry k).fits) c.requires.long c.split_at.ensures.front c.split_at.ensures.back
    (same_text c.split_at.result.0.now c.args.key.now c.if-eq.ensures) c.read_uint.ensures).1
