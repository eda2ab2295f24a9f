use Rattle.std.proofs.Common.{arith}
use Rattle.file_check.proofs.NumberedTreesLemmas.{tree_places-count}
use Rattle.file_check.proofs.trees.tree_count.Goals as goal

pub returns-clause-count : goal.returns-clause-count
returns-clause-count c = omega (arith, c.len.ensures, c.len-2.ensures, tree_places-count c.args.def.now c.requires.defined.roots.one_each)
