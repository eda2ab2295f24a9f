use Rattle.std.proofs.Common.{map, take}
use Rattle.block_rows.specs.HeldRows.{placed_row}
use Rattle.index_building.proofs.FillingLemmas.{IsFilling}
use Rattle.index_building.proofs.filling.fill_index.Given as goal

-- the first rows were entered
abbrev pub invariant-loop-hit : goal.invariant-loop-hit
invariant-loop-hit g l = IsFilling g.P.Pages l.shape l.fn.notes l.notes l.fn.pages l.pages l.def l.index (map placed_row l.rows) (map placed_row (take l.hit-index l.rows))
