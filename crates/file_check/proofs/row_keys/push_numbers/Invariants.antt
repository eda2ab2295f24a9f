use Rattle.std.proofs.Common.{◌++◌, List, map, take}
use Rattle.block_rows.specs.HeldRows.{placed_row}
use Rattle.mdc_sound.specs.TableRows.{PlacedRow}
use Rattle.file_check.specs.KeysJudged.{AreNumbersOf}
use Rattle.file_check.proofs.row_keys.push_numbers.Given as goal

-- the numbers of the rows so far came behind those that were there
abbrev pub invariant-loop-hit : goal.invariant-loop-hit
invariant-loop-hit l = (done : List PlacedRow) → AreNumbersOf l.fn.numbers.items done → AreNumbersOf l.numbers.items (done ++ map placed_row (take l.hit-index l.rows))
