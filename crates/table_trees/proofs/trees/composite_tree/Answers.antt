use Rattle.std.proofs.Common.{arith}
use Rattle.table_trees.specs.TableTrees.{cell_parts}
use Rattle.table_trees.proofs.TableTreesLemmas.{wide_enough}
use Rattle.table_trees.proofs.trees.composite_tree.Goals as goal

pub at-requires-clause-wide : goal.at-requires-clause-wide
at-requires-clause-wide c = omega (arith, c.cell_width.ensures, wide_enough c.args.def.now.columns (cell_parts c.args.def.now) c.requires)
