use Rattle.std.proofs.Common.{◌≤◌, drop, take}
use Rattle.key_codec.specs.Keys.{key_bytes}
use Rattle.table_trees.specs.TableTrees.{cell_parts}
use Rattle.table_trees.proofs.TableTreesLemmas.{places_in}
use Rattle.block_index.proofs.CellsLemmas.{IsRowKeyedSo}
use Rattle.block_index.proofs.keys.cell_key.Given as goal

abbrev pub invariant-loop-dim : goal.invariant-loop-dim
invariant-loop-dim l =
    IsRowKeyedSo l.def.columns l.values (key_bytes l.def.columns (cell_parts l.def) l.values) (places_in (drop l.dim-index l.dim-items)) (take l.end l.key)
    × (l.end ≤ 128)
