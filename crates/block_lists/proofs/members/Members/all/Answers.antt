use Rattle.std.proofs.Common.{◌∙◌, ap}
use Rattle.std.specs.List.{list_all}
use Rattle.block_lists.specs.Lists.{holds, lists_block}
use Rattle.block_lists.specs.Trees.{tree_holds, tree_lists_block}
use Rattle.block_lists.proofs.TreeLemmas.{all_says}
use Rattle.block_lists.proofs.members.Members.all.Goals as goal

pub returns-clause-rows : goal.returns-clause-rows
returns-clause-rows c rid = all_says (λ lists. holds lists rid) c.self.inside.trees ∙ ap (list_all (λ member. tree_holds member rid)) c.self.view_is

pub returns-clause-blocks : goal.returns-clause-blocks
returns-clause-blocks c block = all_says (λ lists. lists_block lists block) c.self.inside.trees ∙ ap (list_all (λ member. tree_lists_block member block)) c.self.view_is
