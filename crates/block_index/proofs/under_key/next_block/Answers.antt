use Rattle.std.proofs.Common.{subst}
use Rattle.entry_tree.specs.Forest.{leaf_entries}
use Rattle.block_index.specs.Numbered.{FindsNumber}
use Rattle.block_index.proofs.under_key.next_block.Goals as goal

pub returns-in-None-clause-found : goal.returns-in-None-clause-found
returns-in-None-clause-found g c t h =
    subst (FindsNumber 4 c.args.key.now (leaf_entries t) c.args.from) c.in-None.is
    (subst (λ n. FindsNumber 4 c.args.key.now (leaf_entries t) n c.in_ok-block.field-0) c.from.ensures (c.in_ok-block.ensures.found t h))
