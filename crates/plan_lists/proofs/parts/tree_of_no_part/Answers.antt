use Rattle.plan_lists.proofs.PartsLemmas.{none_stand}
use Rattle.plan_lists.proofs.parts.tree_of_no_part.Goals as goal

pub returns-in-Any-clause-none : goal.returns-in-Any-clause-none
returns-in-Any-clause-none g c = λ is. none_stand c.args.shape c.args.pages.now c.args.def.now c.no_rows.result c.no_rows.ensures.members c.no_rows.ensures.rows c.no_rows.ensures.blocks
