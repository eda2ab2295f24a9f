use Rattle.std.proofs.Common.{◌≡◌, take}
use Rattle.std.specs.Prelude.{flat_map}
use Rattle.table_trees.specs.TableTrees.{rising_parts}
use Rattle.file_check.proofs.table_index.all_cell_parts.Given as goal

-- the parts of the first dimensions are there
abbrev pub invariant-loop-dim : goal.invariant-loop-dim
invariant-loop-dim l = l.parts.items ≡ rising_parts (flat_map (λ dim. dim) (take l.dim-index l.dim-items))
