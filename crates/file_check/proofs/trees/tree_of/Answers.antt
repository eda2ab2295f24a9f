use Rattle.std.proofs.Common.{◌+◌, ◌-◌, arith}
use Rattle.table_trees.specs.TableTrees.{place_of_tree}
use Rattle.file_check.proofs.NumberedTreesLemmas.{block_index-at, index-parts, record_index-at, tree_places-count}
use Rattle.file_check.proofs.trees.tree_of.Goals as goal

pub block_index_tree-requires-clause-indexes : goal.block_index_tree-requires-clause-indexes
block_index_tree-requires-clause-indexes c = c.definitions_have_their_trees.ensures.blocks c.args.def.now.number c.args.def.now c.requires.defined

pub returns-then-i-record_indexes : goal.returns-then-i-record_indexes
returns-then-i-record_indexes c =
    block_index-at c.args.def.now c.args.i (c.args.i - 1) (place_of_tree c.block_index_tree.result) (omega (arith, c.if-i-eq0.false)) c.block_index_tree.ensures

pub record_tree-requires-clause-there : goal.record_tree-requires-clause-there
record_tree-requires-clause-there c =
    omega (arith, c.requires.there, tree_places-count c.args.def.now c.requires.defined.roots.one_each, c.if-i-record_indexes.false, c.len-record_indexes.ensures)

pub record_tree-requires-clause-parts : goal.record_tree-requires-clause-parts
record_tree-requires-clause-parts c which at =
    index-parts c.args.def.now.columns c.args.def.now.indexes (c.args.i - (2 + c.len-record_indexes.result)) which
    (c.definitions_have_their_trees.ensures.records c.args.def.now.number c.args.def.now c.requires.defined) at

pub returns : goal.returns
returns c =
    record_index-at c.args.def.now c.args.i (c.args.i - (2 + c.len-record_indexes.result)) (place_of_tree c.record_tree.result) c.requires.defined.roots.one_each
    (omega (arith, c.if-i-record_indexes.false, c.len-record_indexes.ensures)) c.record_tree.ensures
