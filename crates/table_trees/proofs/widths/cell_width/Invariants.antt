use Rattle.std.proofs.Common.{◌≡◌, ◌+◌, drop}
use Rattle.key_codec.specs.Keys.{width_of_parts}
use Rattle.table_trees.specs.TableTrees.{cell_parts, rising_parts}
use Rattle.table_trees.proofs.TableTreesLemmas.{places_in}
use Rattle.table_trees.proofs.widths.cell_width.Given as goal

abbrev pub invariant-loop-dim : goal.invariant-loop-dim
invariant-loop-dim l = l.total + width_of_parts l.def.columns (rising_parts (places_in (drop l.dim-index l.dim-items))) ≡ width_of_parts l.def.columns (cell_parts l.def)
