use Rattle.std.proofs.Common.{ap, arith, replicate, ◌∙◌}
use Rattle.table_trees.specs.TableTrees.{place_of_tree}
use Rattle.record_index.proofs.IndexesLemmas.{key_parts, place_are}
use Rattle.record_index.proofs.sweeping.first_bound.Goals as goal

pub record_tree-tree-requires-clause-there : goal.record_tree-tree-requires-clause-there
record_tree-tree-requires-clause-there c = omega (arith, c.requires.there, c.from.ensures)

pub record_tree-tree-requires-clause-parts : goal.record_tree-tree-requires-clause-parts
record_tree-tree-requires-clause-parts c = key_parts c.args.def.now c.from.result c.requires.indexes

pub returns : goal.returns
returns c = c.lowest_bound.ensures ∙ ap (λ p. replicate p.width 0) (place_are c.args.def.now c.args.index c.from.result (place_of_tree c.record_tree-tree.result) c.from.ensures c.record_tree-tree.ensures)
