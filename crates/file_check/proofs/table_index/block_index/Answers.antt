use Rattle.std.proofs.Common.{arith}
use Rattle.table_trees.specs.TableTrees.{place_of_tree}
use Rattle.mdc_sound.proofs.DefinitionTreesLemmas.{has_block_indexes}
use Rattle.file_check.proofs.TableIndexesLemmas.{block_index_fits, composite_at, count_of_blocks, dimension_at}
use Rattle.file_check.proofs.table_index.block_index.Goals as goal

pub block_index_tree-tree-requires-clause-indexes : goal.block_index_tree-tree-requires-clause-indexes
block_index_tree-tree-requires-clause-indexes c = has_block_indexes c.args.def.now.number c.args.def.now c.requires.limits

pub block_index_tree-tree-requires-clause-there : goal.block_index_tree-tree-requires-clause-there
block_index_tree-tree-requires-clause-there c = omega (arith, c.requires.there, count_of_blocks c.args.def.now c.requires.limits)

pub returns-then-place-eq0-clause-fits : goal.returns-then-place-eq0-clause-fits
returns-then-place-eq0-clause-fits c =
    let fits = block_index_fits c.args.def.now c.args.place _ c.requires.limits
    (composite_at c.args.def.now c.args.place (place_of_tree c.block_index_tree-tree.result) c.in_ok-parts.parts c.if-place-eq0.true c.in_ok-parts.ensures.parts c.block_index_tree-tree.ensures) in
    record { parts = fits.parts; width = fits.width }

pub at-requires : goal.at-requires
at-requires c = omega (arith, c.requires.there, count_of_blocks c.args.def.now c.requires.limits, c.if-place-eq0.false)

pub returns-clause-place : goal.returns-clause-place
returns-clause-place c =
    dimension_at c.args.def.now c.args.place (place_of_tree c.block_index_tree-tree.result) c.in_ok-parts-2.parts c.at.result.now c.if-place-eq0.false c.at.ensures c.in_ok-parts-2.ensures.parts c.block_index_tree-tree.ensures

pub returns-clause-fits : goal.returns-clause-fits
returns-clause-fits c =
    let fits = block_index_fits c.args.def.now c.args.place _ c.requires.limits
    (dimension_at c.args.def.now c.args.place (place_of_tree c.block_index_tree-tree.result) c.in_ok-parts-2.parts c.at.result.now c.if-place-eq0.false c.at.ensures c.in_ok-parts-2.ensures.parts c.block_index_tree-tree.ensures) in
    record { parts = fits.parts; width = fits.width }
