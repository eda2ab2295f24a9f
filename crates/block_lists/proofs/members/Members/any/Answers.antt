use Rattle.std.proofs.Common.{◌∙◌, ap}
use Rattle.std.specs.List.{list_any}
use Rattle.block_lists.specs.Lists.{holds, lists_block}
use Rattle.block_lists.specs.Trees.{tree_holds, tree_lists_block}
use Rattle.block_lists.proofs.TreeLemmas.{any_says}
use Rattle.block_lists.proofs.members.Members.any.Goals as goal

pub returns-clause-rows : goal.returns-clause-rows
returns-clause-rows c rid = any_says (λ lists. holds lists rid) c.self.inside.trees ∙ ap (list_any (λ member. tree_holds member rid)) c.self.view_is

pub returns-clause-blocks : goal.returns-clause-blocks
returns-clause-blocks c block = any_says (λ lists. lists_block lists block) c.self.inside.trees ∙ ap (list_any (λ member. tree_lists_block member block)) c.self.view_is
