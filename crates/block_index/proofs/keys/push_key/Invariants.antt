use Rattle.std.proofs.Common.{◌++◌, drop}
use Rattle.block_index.specs.Cells.{key_of_values}
use Rattle.block_index.proofs.CellsLemmas.{IsKeyedSo}
use Rattle.block_index.proofs.keys.push_key.Given as goal

abbrev pub invariant-loop-i : goal.invariant-loop-i
invariant-loop-i l = IsKeyedSo l.columns (l.initial.key.items ++ key_of_values l.columns l.places l.values) (drop l.i l.places) (drop l.i l.values) l.key.items
