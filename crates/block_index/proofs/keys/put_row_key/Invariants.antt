use Rattle.std.proofs.Common.{◌≤◌, ◌++◌, drop, length, take}
use Rattle.key_codec.specs.Keys.{key_bytes}
use Rattle.table_trees.specs.TableTrees.{rising_parts}
use Rattle.block_index.proofs.CellsLemmas.{IsRowKeyedSo}
use Rattle.block_index.proofs.keys.put_row_key.Given as goal

abbrev pub invariant-loop-place : goal.invariant-loop-place
invariant-loop-place l =
    IsRowKeyedSo l.columns l.values (take l.start l.initial.out ++ key_bytes l.columns (rising_parts l.places) l.values) (drop l.place-index l.place-items) (take l.end l.out)
    × (l.end ≤ length l.out)
