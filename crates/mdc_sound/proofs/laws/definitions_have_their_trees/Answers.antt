use Rattle.mdc_sound.proofs.DefinitionTreesLemmas.{has_block_indexes, index_has_parts}
use Rattle.mdc_sound.proofs.laws.definitions_have_their_trees.Goals as goal

pub returns-clause-blocks : goal.returns-clause-blocks
returns-clause-blocks c = has_block_indexes

pub returns-clause-records : goal.returns-clause-records
returns-clause-records c = λ t def is. index_has_parts def.columns def.indexes is.indexes.good
