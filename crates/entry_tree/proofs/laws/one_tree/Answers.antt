use Rattle.entry_tree.proofs.HeldTreesLemmas.{one_tree}
use Rattle.entry_tree.proofs.laws.one_tree.Goals as goal

pub returns : goal.returns
returns g c t u h k = one_tree g.P.Pages c.args._pages.now c.args._tree.now t u h k
