use Rattle.std.proofs.Common.{refl}
use Rattle.entry_tree.proofs.WorkedTreeLemmas.{worked_is_tree}
use Rattle.entry_tree.proofs.laws.three_levels.Goals as goal

pub returns-clause-tree : goal.returns-clause-tree
returns-clause-tree c = worked_is_tree

pub returns-clause-trim : goal.returns-clause-trim
returns-clause-trim c = (tt, (tt, (tt, (tt, tt)), tt))

pub returns-clause-entries : goal.returns-clause-entries
returns-clause-entries c = refl
