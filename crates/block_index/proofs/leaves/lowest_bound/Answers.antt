use Rattle.std.proofs.Common.{ap, arith, replicate, take, ◌∙◌}
use Rattle.std.proofs.lemmas.List.{take-replicate}
use Rattle.block_index.proofs.leaves.lowest_bound.Goals as goal

pub returns : goal.returns
returns c = c.of.ensures ∙ (ap (λ n. take n (replicate 134 0)) c.from.ensures ∙ take-replicate c.args.width 134 0 (omega (arith, c.requires)))
