use Rattle.table_trees.proofs.ToldPagesLemmas.{map_of_told, told_of_map, told_of_tree, tree_of_told}
use Rattle.mdc_sound.proofs.laws.told_stores_hold_their_pages.Goals as goal

pub returns-clause-trees : goal.returns-clause-trees
returns-clause-trees g c = λ told place t. (tree_of_told g.P.Pages c.args.pages.now told place t, told_of_tree g.P.Pages c.args.pages.now told place t)

pub returns-clause-map : goal.returns-clause-map
returns-clause-map g c = λ told shape owners. (map_of_told g.P.Pages c.args.pages.now told shape owners, told_of_map g.P.Pages c.args.pages.now told shape owners)
