use Rattle.std.proofs.Common.{ap, ◌∙◌}
use Rattle.block_lists.specs.Places.{has_number}
use Rattle.plan_lists.proofs.parts.no_rows.Goals as goal

pub returns-clause-blocks : goal.returns-clause-blocks
returns-clause-blocks c = λ block. c.leaf.ensures.blocks block ∙ ap (λ b. has_number b block) c.empty.ensures.blocks
